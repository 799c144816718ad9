use Rattle.std.proofs.Common.{sym, ◌∙◌}
use Rattle.rooms_val.specs.Data.{map, members_of}
use Rattle.rec_format.proofs.EventLemmas.{says_in}
use Rattle.join_job.proofs.StepLemmas.{whether_in, none_in}
use Rattle.join_job.proofs.step.has_unscripted.Goals as goal

pub returns-in-Some : goal.returns-in-Some
returns-in-Some c =
    let fields = c.in-Map.fields in
    rw c.in-Map.is (whether_in (map (members_of fields)) c.in-Some.word.now c.is_unscripted_word.result (says_in fields ∙ sym c.in-Some.ensures) c.is_unscripted_word.ensures)

pub returns-in-None : goal.returns-in-None
returns-in-None c =
    let fields = c.in-Map.fields in
    rw c.in-Map.is (none_in (map (members_of fields)) (says_in fields ∙ sym c.in-None.ensures))
