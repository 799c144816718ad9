-- What was left is what was copied to the front of the buffer, and what is left now.
use Rattle.std.proofs.Common.{◌≡◌, ℕ, ◌+◌, ◌≤◌, List, ◌++◌, length, take, drop, ap, sym, ◌∙◌, arith}
use Rattle.std.proofs.lemmas.List.{take_at, length-take-le, drop-drop, take-append-drop}
use Rattle.std.proofs.Math.ListN.{drop_of_length-le}
use Rattle.std.proofs.lemmas.Grind.{common_steps}
use Rattle.room_link.proofs.memory_source.SteadySourceSource.read.Goals as goal

front_moved : (at n : ℕ) (content given rest : List ℕ) → given ≡ take n (drop at content) → n ≤ length (drop at content)
    → drop at content ≡ take n (given ++ rest) ++ drop (at + n) content
front_moved at n content given rest copied fits =
    let full : length given ≡ n = ap length copied ∙ length-take-le n (drop at content) fits in
    sym (ap (λ l. l ++ drop (at + n) content) (take_at given rest n full ∙ copied) ∙ ap (λ l. take n (drop at content) ++ l) (sym (drop-drop n at content)) ∙ take-append-drop n (drop at content))

pub returns-clause-bytes : goal.returns-clause-bytes
returns-clause-bytes c =
    let at = c.self.inside.at in
    let content = c.self.inside.content.items in
    let n = c.min-n.result in
    let copied : c.copy_from_slice.new.self ≡ take n (drop at content) = grind (arith, common_steps) in
    let fits : n ≤ length (drop at content) = grind (arith, common_steps) in (
      sym c.self.view_is ∙ front_moved at n content _ _ copied fits,
      λ none room. let past : length content ≤ at + n = grind (arith, common_steps) in drop_of_length-le content past,
    )
