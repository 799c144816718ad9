-- Values and what is made of them may go to another thread, and threads may share them. A lemma on a type's row is for a type that has
-- it as an argument, as a list of such values; one on its field's row is for a type that has it as a field.
use denote.Param.Send.{IsSend, IsSync, sendable}
use Rattle.std.proofs.Crossing as std
use Rattle.rooms_val.specs.contracts.fields.Fields as Fields
use Rattle.rooms_val.specs.contracts.val.Val as Val
use Rattle.rooms_val.specs.contracts.vals.Vals as Vals
use Rattle.rooms_val.proofs.fields.Fields.TheLaws.TheKnot as values
use Rattle.rooms_val.proofs.text.Text.TheSendSync as Text
use Rattle.field_ops.specs.contracts.diff.Diff as Diff
use Rattle.field_ops.specs.contracts.object_diff.ObjectDiff as ObjectDiff
use Rattle.field_ops.specs.contracts.record_op.RecordOp as RecordOp
use Rattle.field_ops.proofs.object_diff.ObjectDiff.TheLaws.TheKnot as operations
use Rattle.migrate_seq.specs.contracts.serialized.Serialized as Serialized

-- texts, and what the standard library makes of other types
pub ruleset plain = (Text.the_send, Text.the_sync, std.crosses, std.send, std.sync, sendable)

-- values, which hold themselves
pub Val-send : IsSend Val.the_row
Val-send = search (values.crosses, plain) depth 60 fits 20000

pub Val-sync : IsSync Val.the_row
Val-sync = search (values.crosses, plain) depth 60 fits 20000

pub Val-field-send : IsSend Val.the_field.row
Val-field-send = search (values.crosses, plain) depth 60 fits 20000

pub Val-field-sync : IsSync Val.the_field.row
Val-field-sync = search (values.crosses, plain) depth 60 fits 20000

pub Fields-send : IsSend Fields.the_field.row
Fields-send = search (values.crosses, plain) depth 60 fits 20000

pub Fields-sync : IsSync Fields.the_field.row
Fields-sync = search (values.crosses, plain) depth 60 fits 20000

pub Vals-send : IsSend Vals.the_field.row
Vals-send = search (values.crosses, plain) depth 60 fits 20000

pub Vals-sync : IsSync Vals.the_field.row
Vals-sync = search (values.crosses, plain) depth 60 fits 20000

pub ruleset of_values = (Val-send, Val-sync, Val-field-send, Val-field-sync, Fields-send, Fields-sync, Vals-send, Vals-sync, plain)

-- operations, which hold themselves, and diffs
ObjectDiff-send : IsSend ObjectDiff.the_field.row
ObjectDiff-send = search (operations.crosses, of_values) depth 60 fits 20000

ObjectDiff-sync : IsSync ObjectDiff.the_field.row
ObjectDiff-sync = search (operations.crosses, of_values) depth 60 fits 20000

pub RecordOp-send : IsSend RecordOp.the_row
RecordOp-send = search (ObjectDiff-send, of_values) depth 20

pub RecordOp-sync : IsSync RecordOp.the_row
RecordOp-sync = search (ObjectDiff-sync, of_values) depth 20

pub Diff-send : IsSend Diff.the_row
Diff-send = search (RecordOp-send, of_values) depth 20

pub Diff-sync : IsSync Diff.the_row
Diff-sync = search (RecordOp-sync, of_values) depth 20

pub Diff-field-send : IsSend Diff.the_field.row
Diff-field-send = search (RecordOp-send, of_values) depth 20

pub Diff-field-sync : IsSync Diff.the_field.row
Diff-field-sync = search (RecordOp-sync, of_values) depth 20

-- what a client's schema has
pub Serialized-send : IsSend Serialized.the_field.row
Serialized-send = search of_values depth 20

pub Serialized-sync : IsSync Serialized.the_field.row
Serialized-sync = search of_values depth 20

pub ruleset of_diffs = (RecordOp-send, RecordOp-sync, Diff-send, Diff-sync, Diff-field-send, Diff-field-sync, Serialized-send, Serialized-sync, of_values)
