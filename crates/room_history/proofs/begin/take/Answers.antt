use Rattle.std.proofs.Common.{[], sym, ap, ◌∙◌, w64}
use Rattle.std.specs.Prelude.{unwrap_or}
use Rattle.std.proofs.lemmas.Int.{to_z-of_z}
use Rattle.room_history.specs.Begins.{diff_in}
use Rattle.room_history.proofs.begin.take.Goals as goal

pub returns-in-Some-clause-diff : goal.returns-in-Some-clause-diff
returns-in-Some-clause-diff c = ap (λ o. unwrap_or o []) (sym c.in-Some.is ∙ c.remove.ensures.value) ∙ ap (diff_in c.args.diffs.now) (to_z-of_z w64 c.args.clock c.ranges.clock)

pub returns-in-None-clause-diff : goal.returns-in-None-clause-diff
returns-in-None-clause-diff c =
    c.new.ensures ∙ ap (λ o. unwrap_or o []) (sym c.in-None.is ∙ c.remove.ensures.value) ∙ ap (diff_in c.args.diffs.now) (to_z-of_z w64 c.args.clock c.ranges.clock)
