use Rattle.std.proofs.Common.{sym, ap, Some, ◌∙◌}
use Rattle.rooms_val.specs.Data.{map, members_of}
use Rattle.rec_format.proofs.EventLemmas.{says_in, says_nothing, refuses_val}
use Rattle.rec_format.proofs.read.event_of.Goals as goal

pub returns-in_default-word_in-clause-refused : goal.returns-in_default-word_in-clause-refused
returns-in_default-word_in-clause-refused c =
    let fields = c.in-Map.fields in
    rw c.in-Map.is (says_nothing (map (members_of fields)) (says_in fields ∙ sym c.in_default-word_in.ensures))

pub returns-in_default-of-clause-refused : goal.returns-in_default-of-clause-refused
returns-in_default-of-clause-refused c =
    rw c.in-Map.is (c.in-Some.word.now, says_in c.in-Map.fields ∙ sym c.in-Some.ensures, c.in_default-of.ensures.only)

pub returns-in_err-event_in-clause-refused : goal.returns-in_err-event_in-clause-refused
returns-in_err-event_in-clause-refused c =
    let fields = c.in-Map.fields in
    let verb = c.in-Some-of.verb in
    rw c.in-Map.is (refuses_val c.from_residual.result fields verb c.in_err-event_in.field-0.0 (says_in fields ∙ sym c.in-Some.ensures ∙ ap Some c.in-Some-of.ensures.found) c.from_residual.ensures.1 (rw c.as_slice.ensures.pairs at c.in_err-event_in.ensures.refused))
