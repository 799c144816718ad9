use Rattle.std.proofs.Common.{Some, sym, ap, ◌∙◌}
use Rattle.rooms_val.specs.Data.{map, members_of}
use Rattle.wire_msgs.proofs.ClientLemmas.{no_type, other_type, refuses_keys, refuses_fields}
use Rattle.wire_msgs.proofs.KeyLemmas.{says_in}
use Rattle.wire_msgs.proofs.read.client_of.Goals as goal

pub returns-in_default-text_at-clause-refused : goal.returns-in_default-text_at-clause-refused
returns-in_default-text_at-clause-refused c =
    let fields = c.in-Map.fields in
    rw c.in-Map.is (no_type (map (members_of fields)) (says_in fields ∙ sym c.in_default-text_at.ensures))

pub returns-in_default-of-clause-refused : goal.returns-in_default-of-clause-refused
returns-in_default-of-clause-refused c =
    let fields = c.in-Map.fields in
    rw c.in-Map.is (other_type (map (members_of fields)) c.in-Some.word.now (says_in fields ∙ sym c.in-Some.ensures) c.in_default-of.ensures.only)

pub returns-in-Some-client_fault-clause-refused : goal.returns-in-Some-client_fault-clause-refused
returns-in-Some-client_fault-clause-refused c =
    let fields = c.in-Map.fields in
    rw c.in-Map.is (refuses_keys fields c.in-Some-of.kind c.in-Some-client_fault.fault (says_in fields ∙ sym c.in-Some.ensures ∙ ap Some c.in-Some-of.ensures.found) (sym c.in-Some-client_fault.ensures))

pub returns-in-None-clause-refused : goal.returns-in-None-clause-refused
returns-in-None-clause-refused c =
    let fields = c.in-Map.fields in
    let none = rw c.as_slice.ensures.pairs at (rw c.in-Err-WrongKind.field-0-is at c.in-Err-WrongKind.ensures.refused) in
    rw c.in-Map.is (refuses_fields fields c.in-Some-of.kind (says_in fields ∙ sym c.in-Some.ensures ∙ ap Some c.in-Some-of.ensures.found) (sym c.in-None.ensures) none)
