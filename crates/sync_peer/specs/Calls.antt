-- What a client with its base shows, and what the calls of a peer return.
use Rattle.std.specs.Prelude.{ℕ, List, [], ◌∷◌, Option, Some, None, Result, Ok, Err}
use Rattle.std.specs.Option.{option_map_or}
use Rattle.rooms_val.specs.Data.{Data, Pairs}
use Rattle.field_ops.specs.RecordOps.{RecordOps}
use Rattle.doc_model.specs.Documents.{replay}
use Rattle.doc_model.specs.Inverses.{inverse_diff}
use Rattle.doc_model.specs.Marks.{Marks, undo_diff, redo_diff, bail_diff, after_edit, after_undo, after_redo, after_bail}
use Rattle.room_model.specs.Schemas.{WorldSchemas, records_with}
use Rattle.room_model.specs.Replicas.{Client, edit, with_work, schema_of, pending_diffs}
use Rattle.sync_client.specs.Calls.{ClientState}
use Rattle.sync_client.specs.declared.fault.PresenceFault.{PresenceFault}
use Rattle.side_effects.specs.declared.fault.EditFault.{EditFault}
use Rattle.record_store.specs.Seen as store
use Rattle.peer_schemas.specs.Clients.{edit_fault_of}
use Rattle.undo_marks.specs.declared.fault.BailFault.{BailFault}
use Rattle.undo_marks.specs.declared.fault.BailFault.TheVariants.{NoMark}

module _ (schemas : WorldSchemas EditFault) (state : ClientState) where
  -- what a client shows: the document of its base, with its pending edits replayed
  abbrev pub shown : Pairs
  shown = replay (schema_of schemas state.client).admits (records_with schemas.room.is_document state.base) (pending_diffs state.client)

  -- the presence of others that it shows
  abbrev pub others_shown : Pairs
  others_shown = records_with schemas.room.is_presence state.base

  -- what an edit is completed to, or why it is refused
  abbrev pub completion : RecordOps → Result RecordOps EditFault
  completion wanted = (schema_of schemas state.client).complete shown wanted

  -- why a record can't be its presence, if it can't
  abbrev pub refusal : Data → Option EditFault
  refusal d = (schema_of schemas state.client).presence_fault d

-- an edit is done where it is completed
abbrev pub done_by : Result RecordOps EditFault → Result (Unit {0}) EditFault
done_by (Ok diff) = Ok tt
done_by (Err fault) = Err fault

-- a presence is set where nothing refuses it
abbrev pub done_unless : Option EditFault → Result (Unit {0}) EditFault
done_unless None = Ok tt
done_unless (Some fault) = Err fault

-- what a call returns that sets a presence, with the fault of an edit
abbrev pub as_edit : Result (Unit {0}) PresenceFault → Result (Unit {0}) EditFault
as_edit (Ok done) = Ok done
as_edit (Err fault) = Err (edit_fault_of fault)

-- the records of a store
abbrev pub records_of : store.Seen → Pairs
records_of = store.records

-- a client with its base and other marks
abbrev pub with_marks : Marks → ClientState → ClientState
with_marks marks state = record state { client = record state.client { marks = marks } }

-- a diff is pending, unless it is empty
abbrev pub with_diff : RecordOps → Client → Client
with_diff [] client = client
with_diff (c ∷ diff) client = with_work (edit (c ∷ diff)) client

-- a diff that marks gave was done, and the marks are these
abbrev pub with_marked : RecordOps → Marks → ClientState → ClientState
with_marked diff marks state = record state { client = with_diff diff (with_marks marks state).client }

-- whether there is a mark of the name to bail to
abbrev pub bail_done : List ℕ → Marks → Result (Unit {0}) BailFault
bail_done name marks = option_map_or (λ diff. Ok tt) (bail_diff name marks) (Err NoMark)

module _ (schemas : WorldSchemas EditFault) where
  -- the inverse of what acts of a diff in what a client shows
  abbrev pub back_of : ClientState → RecordOps → RecordOps
  back_of state diff = inverse_diff (schema_of schemas state.client).admits (shown schemas state) diff

  -- a client with a further edit, which was completed
  abbrev pub edited : RecordOps → ClientState → ClientState
  edited diff state = record state { client = with_work (edit diff) (with_marks (after_edit (back_of state diff) state.client.marks) state).client }

  -- a client after an undo, a redo, and a bail to a mark of a name; as it was where there is nothing to do
  abbrev pub undone : ClientState → ClientState
  undone state = option_map_or (λ diff. with_marked diff (after_undo (back_of state diff) state.client.marks) state) (undo_diff state.client.marks) state

  abbrev pub redone : ClientState → ClientState
  redone state = option_map_or (λ diff. with_marked diff (after_redo (back_of state diff) state.client.marks) state) (redo_diff state.client.marks) state

  abbrev pub bailed : List ℕ → ClientState → ClientState
  bailed name state = option_map_or (λ diff. with_marked diff (after_bail name state.client.marks) state) (bail_diff name state.client.marks) state
