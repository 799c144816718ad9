-- A room may go to another thread.
use denote.Param.Send.{IsSend}
use Rattle.std.proofs.MapsCrossing as maps
use Rattle.change_list.proofs.change_list.ChangeList.TheSendSync as ChangeList
use Rattle.circular_buffer.proofs.heap.HeapCircularBuffer.TheSendSync as HeapCircularBuffer
use Rattle.doc_store.specs.contracts.journal.Entry as Journal
use Rattle.doc_store.specs.contracts.map_doc.MapDoc as MapDoc
use Rattle.doc_store.specs.contracts.slots.Slots as Slots
use Rattle.migrate_steps.specs.contracts.migration.Migration as Migration
use Rattle.migrate_steps.specs.contracts.migration.Sequence as Sequence
use Rattle.migrate_seq.specs.contracts.sequences.Sequences as Sequences
use Rattle.migrate_steps.specs.contracts.step.MigStep as MigStep
use Rattle.migrate_steps.proofs.migration.Filter.TheSendSync as Filter
use Rattle.migrate_steps.proofs.migration.MigScope.TheSendSync as MigScope
use Rattle.record_valid.specs.contracts.tree.Check as Check
use Rattle.record_valid.proofs.check_table.Checks.TheLaws.TheKnot as checks
use Rattle.record_valid.proofs.texts.Texts.TheSendSync as Texts
use Rattle.room_accept.proofs.plan.SessionPlan.TheSendSync as SessionPlan
use Rattle.room_accept.proofs.size.DocumentSize.TheSendSync as DocumentSize
use Rattle.room_history.specs.contracts.history.RoomHistory as RoomHistory
use Rattle.room_history.specs.contracts.kept.Kept as Kept
use Rattle.room_history.specs.contracts.recent_entry.RecentEntry as RecentEntry
use Rattle.room_history.specs.contracts.removal.Removal as Removal
use Rattle.room_model.specs.contracts.history.Author as Author
use Rattle.room_model.specs.contracts.history.Entry as Entry
use Rattle.schema_core.specs.contracts.row.RecordType as RecordType
use Rattle.schema_core.specs.contracts.schema.Schema as Schema
use Rattle.schema_core.proofs.row.Scope.TheSendSync as Scope
use Rattle.slab.proofs.Slab.TheSendSync as Slab
use Rattle.sync_room.specs.contracts.room.Room as Room
use Rattle.sync_room.specs.contracts.session.Phase as Phase
use Rattle.sync_room.specs.contracts.session.Session as Session
use Rattle.sync_room.specs.contracts.sessions.Sessions as Sessions
use Rattle.room_run.proofs.CrossingValueLemmas.{of_diffs, plain}

-- migrations
MigStep-send : IsSend MigStep.the_row
MigStep-send = search of_diffs depth 20

Migration-send : IsSend Migration.the_row
Migration-send = search (MigStep-send, MigScope.the_field_send, Filter.the_field_send, plain) depth 20

Sequence-send : IsSend Sequence.the_row
Sequence-send = search (Migration-send, plain) depth 20

Sequences-send : IsSend Sequences.the_field.row
Sequences-send = search (Sequence-send, plain) depth 20

-- a schema, whose checks hold themselves
Check-send : IsSend Check.the_field.row
Check-send = search (checks.crosses, Texts.the_send, plain) depth 60 fits 20000

RecordType-send : IsSend RecordType.the_row
RecordType-send = search (Check-send, Scope.the_field_send, plain) depth 20

Schema-send : IsSend Schema.the_field.row
Schema-send = search (RecordType-send, Sequences-send, plain) depth 20

-- a document
Slots-send : IsSend Slots.the_field.row
Slots-send = search (maps.crosses, of_diffs) depth 20

Journal-send : IsSend Journal.the_row
Journal-send = search (maps.crosses, of_diffs) depth 20

MapDoc-send : IsSend MapDoc.the_field.row
MapDoc-send = search (Slots-send, Journal-send, plain) depth 20

-- a history
Author-send : IsSend Author.the_row
Author-send = search of_diffs depth 20

Entry-send : IsSend Entry.the_field.row
Entry-send = search (Author-send, of_diffs) depth 20

RecentEntry-send : IsSend RecentEntry.the_row
RecentEntry-send = search (Entry-send, of_diffs) depth 20

Kept-send : IsSend Kept.the_field.row
Kept-send = search (Schema-send, MapDoc-send, DocumentSize.the_field_send, ChangeList.the_send, HeapCircularBuffer.the_send, RecentEntry-send, plain) depth 20

RoomHistory-send : IsSend RoomHistory.the_field.row
RoomHistory-send = search (Kept-send, plain) depth 20

-- sessions
Removal-send : IsSend Removal.the_row
Removal-send = search of_diffs depth 20

Phase-send : IsSend Phase.the_field.row
Phase-send = search (SessionPlan.the_field_send, plain) depth 20

Session-send : IsSend Session.the_row
Session-send = search (Phase-send, Removal-send, plain) depth 20

Sessions-send : IsSend Sessions.the_field.row
Sessions-send = search (Session-send, Slab.the_send, plain) depth 20

-- a room
pub Room-send : IsSend Room.the_row
Room-send = search (RoomHistory-send, Sessions-send, plain) depth 20

pub Room-field-send : IsSend Room.the_field.row
Room-field-send = search (RoomHistory-send, Sessions-send, plain) depth 20
