-- The results of a session's own pushes in a catch-up, from their numbers.
use Rattle.std.proofs.Common.{◌≡◌, ℕ, ◌==◌, pos, Bool, true, false, cond, List, [], ◌∷◌, ◌++◌, map, Option, Some, None, refl, sym, ap, ◌∙◌}
use Rattle.std.proofs.lemmas.List.{map-append}
use Rattle.room_model.specs.Schemas.{Schemas, Member}
use Rattle.room_model.specs.Histories.{History}
use Rattle.room_model.specs.Messages.{bare_result, bare_results}
use Rattle.room_model.specs.declared.history.Author.{Author}
use Rattle.room_messages.specs.Results.{own_clock, own_clocks, bare}

one_bare : (schemas : Schemas) (member : Member) (clock : ℕ) (author : Option Author) → map (bare (pos clock)) (own_clock member.session author) ≡ bare_result schemas member clock author
one_bare schemas member clock None = refl
one_bare schemas member clock (Some author) = elim (author.session == member.session) as (λ b. map (bare (pos clock)) (cond b (author.client_clock ∷ []) []) ≡ cond b (bare (pos clock) author.client_clock ∷ []) []) [ true ↦ refl | false ↦ refl ]

-- the results that a catch-up tells are those of the numbers that the session pushed
pub bare_of_clocks : (schemas : Schemas) (member : Member) (clock : ℕ) (history : History) → map (bare (pos clock)) (own_clocks member.session history) ≡ bare_results schemas member clock history
bare_of_clocks schemas member clock [] = refl
bare_of_clocks schemas member clock (entry ∷ history) =
    map-append (bare (pos clock)) (own_clocks member.session history) (own_clock member.session entry.author)
    ∙ (λ i. bare_of_clocks schemas member clock history i ++ one_bare schemas member clock entry.author i)
