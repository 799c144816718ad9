use Rattle.std.proofs.Common.{ℤ, pos, map, filter, subst, ◌∙◌, w64}
use Rattle.std.proofs.lemmas.Int.{to_z-of_z}
use Rattle.std.specs.Prelude.{IsPermutation}
use Rattle.std.proofs.lemmas.List.Sorted.{IsPermutation-map, IsPermutation-trans}
use Rattle.std.proofs.lemmas.Result.{IfOk-weaker}
use Rattle.change_list.specs.Changes.{listed, is_after}
use Rattle.room_model.specs.Histories.{changed_after}
use Rattle.room_history.proofs.SinceLemmas.{at_clock, id_clock, changed}
use Rattle.room_history.proofs.history.RoomHistory.changed_since.Goals as goal

pub returns-clause-changed : goal.returns-clause-changed
returns-clause-changed g c =
    let kept = c.args.self.now.kept in
    IfOk-weaker c.since.result _ _ (λ found since first history known keeps is from.
    let same = subst (λ (z : ℤ). IsPermutation (filter (is_after z) (listed kept.changes)) found.items) (to_z-of_z w64 c.args.clock c.ranges.clock ∙ is) since.same in
    IsPermutation-trans (map at_clock (changed_after known history)) (map id_clock (filter (is_after (pos known)) (listed kept.changes))) (map id_clock found.items)
    (changed first history kept known keeps from) (IsPermutation-map id_clock _ _ same)) c.since.ensures.ok
