-- The session of a number, as it is looked for.
use Rattle.std.proofs.Common.{◌≡◌, ◌⊎◌, inl, inr, ℕ, Bool, true, false, cond, List, [], ◌∷◌, slice_get, Option, Some, None, option_and_then, Contains, refl, sym, ap, subst, ◌∙◌, arith}
use Rattle.slab.specs.Slab.{get, entries}
use Rattle.slab.proofs.SlabLemmas.{Contains-cons, Contains-cons_cases, Contains-entries}
use Rattle.room_model.specs.Rooms as model
use Rattle.sync_room.specs.Sessions.{HasPlace, Holds}
use Rattle.sync_room.specs.declared.session.Session.{Session}
use Rattle.sync_room.specs.declared.sessions.Sessions.{Sessions}

-- a session of a number is among those that are left
pub record IsLeft (number : ℕ) (table : Sessions) (left : List (ℕ × Session)) : Type 0 where
  pub rest : (key : ℕ) (s : Session) → Contains left (key, s) → get table.present key ≡ Some s
  pub among : (key : ℕ) (s : Session) → get table.present key ≡ Some s → s.number ≡ number → Contains left (key, s)

pub all_left : (number : ℕ) (table : Sessions) (left : List (ℕ × Session)) → left ≡ entries table.present → IsLeft number table left
all_left number table left is = record {
  rest = λ key s there. (Contains-entries table.present key s).0 (subst (λ l. Contains l (key, s)) is there);
  among = λ key s at same. subst (λ l. Contains l (key, s)) (sym is) ((Contains-entries table.present key s).1 at);
}

module _ (number : ℕ) (table : Sessions) (key : ℕ) (s : Session) (left : List (ℕ × Session)) (h : IsLeft number table ((key, s) ∷ left)) where
  pub here : get table.present key ≡ Some s
  here = h.rest key s (0, omega arith, refl)

  pub one_less : (s.number ≡ number → ⊥) → IsLeft number table left
  one_less differs = record {
    rest = λ k u there. h.rest k u (Contains-cons _ _ _ there);
    among = λ k u at same. elim (Contains-cons_cases _ _ _ (h.among k u at same)) [
      | inl this ↦ absurd (differs (let n : s.number ≡ u.number = ap (λ e. e.1.number) this in n ∙ same))
      | inr rest ↦ rest
    ];
  }

pub none_left : (number : ℕ) (table : Sessions) → IsLeft number table [] → HasPlace number table → ⊥
none_left number table h place = let there = h.among place.0 place.1 place.2 place.3 in let less = there.1 in omega arith

-- a session that isn't in the table hasn't entered the room, or has left it
pub not_there : (number : ℕ) (state : model.Room) (table : Sessions) → Holds state table → (HasPlace number table → ⊥) → model.session_at number state ≡ None
not_there number state table h absent =
    elim (slice_get state.sessions number) as (λ o. slice_get state.sessions number ≡ o → option_and_then model.unless_left o ≡ None) [
      | None ↦ λ is. refl
      | Some session ↦ λ is.
          elim (model.has_left session.phase) as (λ b. model.has_left session.phase ≡ b → cond b None (Some session) ≡ None) [
            | true ↦ λ gone. refl
            | false ↦ λ here. absurd (absent (h.there number session is here))
          ] refl
    ] refl
