-- What a peer stands for, said by the schema that it has.
use Rattle.std.proofs.Common.{◌≡◌, ℕ, List, [], ◌∷◌, Bool, true, false, ◌&&◌, cond, map, Option, None, Some, option_map, Result, Ok, Err, refl, sym, ap, subst, ◌∙◌}
use Rattle.std.specs.Prelude.{unwrap_or, nat_lt}
use Rattle.std.specs.Option.{option_map_or}
use Rattle.std.specs.Result.{IsErr, IsErrAnd}
use Rattle.rooms_val.specs.Answers.{Gives}
use Rattle.rooms_val.specs.Data.{Data, Pairs}
use Rattle.rooms_val.specs.Maps.{AreRising}
use Rattle.field_ops.specs.RecordOps.{RecordOps}
use Rattle.record_store.specs.Seen.{Seen}
use Rattle.doc_model.specs.Documents.{replay}
use Rattle.doc_model.specs.Inverses.{inverse_diff}
use Rattle.doc_model.specs.Marks.{Marks}
use Rattle.doc_model.proofs.PlainLemmas.{plain_inverse_diff}
use Rattle.migrate_seq.specs.Plans.{newest_versions}
use Rattle.schema_core.specs.SchemaOf.{schema_tree}
use Rattle.schema_core.specs.declared.schema.Schema.{Schema}
use Rattle.tl_tables.specs.Tables.{IsVersion, IsSchemaAt}
use Rattle.sync_msgs.specs.declared.end_reason.EndReason.{EndReason}
use Rattle.sync_msgs.specs.declared.end_reason.EndReason.TheVariants.{ClientTooOld, ServerTooOld, InvalidRecord, RoomFull, Slow}
use Rattle.sync_msgs.specs.declared.server_message.ServerMessage.{ServerMessage}
use Rattle.sync_msgs.specs.declared.server_message.ServerMessage.TheVariants as message
use Rattle.room_model.specs.Schemas.{WorldSchemas, ClientSchema, records_with}
use Rattle.room_model.specs.Replicas as model
use Rattle.room_model.specs.Replicas.{Client, with_work, is_open, first_unsent, pending_diffs, push_one, push_none, schema_of, after_end}
use Rattle.room_model.specs.declared.limits.TheConstants.{MOST_PUSHES}
use Rattle.client_replica.specs.Standing.{admits_of, document_of, presence_of, IsReplica}
use Rattle.client_replica.specs.Works.{work_of}
use Rattle.client_replica.specs.declared.replica.Replica.{Replica}
use Rattle.doc_store.specs.Checking.{IsChecked}
use Rattle.side_effects.specs.Completed.{completed}
use Rattle.side_effects.proofs.ActingLemmas.{completed_acts}
use Rattle.side_effects.specs.declared.fault.EditFault.{EditFault}
use Rattle.side_effects.specs.declared.fault.EditFault.TheVariants as edit
use Rattle.sync_client.specs.Calls.{ClientState, pushed, after_message, replica_of}
use Rattle.sync_client.specs.Presences.{presence_fault, with_presence}
use Rattle.sync_client.specs.Standing as client
use Rattle.sync_client.specs.declared.client.SyncClient.{SyncClient}
use Rattle.sync_client.specs.declared.fault.PresenceFault.{PresenceFault}
use Rattle.sync_client.specs.declared.fault.PresenceFault.TheVariants as presence
use Rattle.sync_client.proofs.ClientLemmas.{shows}
use Rattle.peer_schemas.specs.Clients.{client_at, edit_fault_of, IsDecidedBy}
use Rattle.peer_schemas.proofs.ClientLemmas.{decided_by}
use Rattle.peer_schemas.proofs.TypeLemmas.{same_document, same_presence}
use Rattle.undo_marks.specs.Inverses.{diff_has_append}
use Rattle.undo_marks.specs.declared.fault.BailFault.TheVariants.{NoMark}
use Rattle.undo_marks.specs.Standing as marks
use Rattle.undo_marks.proofs.MergeLemmas.{plain_each}
use Rattle.sync_peer.specs.Calls.{records_of, shown, others_shown, completion, refusal, done_unless, as_edit, with_marks, with_diff, with_marked, back_of}
use Rattle.sync_peer.specs.Standing.{Stands}
use Rattle.sync_peer.specs.declared.peer.Peer.{Peer}

module _ (schemas : WorldSchemas EditFault) (state : ClientState) (peer : Peer) (stands : Stands schemas state peer) where
  abbrev decides : IsDecidedBy (schema_tree peer.client.replica.schema) (client_at state.client.version)
  decides = decided_by state.client.version (schema_tree peer.client.replica.schema) stands.known stands.version

  schema_is : schema_of schemas state.client ≡ client_at state.client.version
  schema_is = ap (λ (x : WorldSchemas EditFault). x.client state.client.version) stands.tables.are

  -- what is decided for the client is what its schema decides
  pub admits_are : (schema_of schemas state.client).admits ≡ admits_of peer.client.replica
  admits_are = ap (λ (x : ClientSchema EditFault). x.admits) schema_is ∙ decides.admits

  pub versions_are : (schema_of schemas state.client).versions ≡ newest_versions (schema_tree peer.client.replica.schema).sequences
  versions_are = ap (λ (x : ClientSchema EditFault). x.versions) schema_is ∙ decides.versions

  pub document_is : schemas.room.is_document ≡ document_of peer.client.replica
  document_is =
      ap (λ (x : WorldSchemas EditFault). x.room.is_document) stands.tables.are
      ∙ same_document stands.tables.room (schema_tree peer.client.replica.schema) stands.tables.version state.client.version stands.tables.at.types stands.version.types

  pub presence_is : schemas.room.is_presence ≡ presence_of peer.client.replica
  presence_is =
      ap (λ (x : WorldSchemas EditFault). x.room.is_presence) stands.tables.are
      ∙ same_presence stands.tables.room (schema_tree peer.client.replica.schema) stands.tables.version state.client.version stands.tables.at.types stands.version.types

  -- its store has what it shows
  pub shown_is : shown schemas state ≡ records_of peer.client.replica.store
  shown_is =
      (λ i. replay (admits_are i) (records_with (document_is i) state.base) (pending_diffs state.client))
      ∙ sym (shows records_of state peer.client stands.client)

  pub others_are : others_shown schemas state ≡ records_with (presence_of peer.client.replica) state.base
  others_are = ap (λ test. records_with test state.base) presence_is

  -- an edit is completed by its schema
  pub completion_is : (wanted : RecordOps) → AreRising wanted
      → completion schemas state wanted ≡ completed (schema_tree peer.client.replica.schema) (records_of peer.client.replica.store) wanted
  completion_is wanted rising =
      ap (λ (x : ClientSchema EditFault). x.complete (shown schemas state) wanted) schema_is
      ∙ ap (λ m. (client_at state.client.version).complete m wanted) shown_is
      ∙ decides.completes (records_of peer.client.replica.store) wanted rising

  pub completed_at : (wanted : RecordOps) → AreRising wanted → (schema : Schema) (store : Seen)
      → schema ≡ peer.client.replica.schema → store ≡ peer.client.replica.store → completion schemas state wanted ≡ completed (schema_tree schema) (records_of store) wanted
  completed_at wanted rising schema store schema_same store_same =
      completion_is wanted rising ∙ sym (λ i. completed (schema_tree (schema_same i)) (records_of (store_same i)) wanted)

  -- and a presence is refused by it
  pub refusal_is : (d : Data) → refusal schemas state d ≡ option_map edit_fault_of (presence_fault (schema_tree peer.client.replica.schema) d)
  refusal_is d = ap (λ (x : ClientSchema EditFault). x.presence_fault d) schema_is ∙ decides.refuses d

  -- a peer stands for a client of the same version if its client does, and its schema stays
  pub stands_on : (after : ClientState) (other : Peer) → after.client.version ≡ state.client.version → other.client.replica.schema ≡ peer.client.replica.schema
      → client.Stands records_of after other.client → marks.Stands after.client.marks other.marks → Stands schemas after other
  stands_on after other same schema is marked = record {
    tables = stands.tables;
    known = subst IsVersion (sym same) stands.known;
    version = subst (λ n. IsSchemaAt n (schema_tree other.client.replica.schema)) (sym same)
        (subst (λ (s : Schema). IsSchemaAt state.client.version (schema_tree s)) (sym schema) stands.version);
    client = is;
    marks = marked;
  }

  -- the inverse of what acts in its store is that of what acts in what it shows
  pub back_is : (diff : RecordOps) → inverse_diff (admits_of peer.client.replica) (records_of peer.client.replica.store) diff ≡ back_of schemas state diff
  back_is diff = sym (λ i. inverse_diff (admits_are i) (shown_is i) diff)

-- each patch of what an edit is completed to acts
pub completed_at_acts : (replica : Replica Seen) (schema : Schema) (store : Seen) (wanted diff : RecordOps) → schema ≡ replica.schema → store ≡ replica.store
    → completed (schema_tree schema) (records_of store) wanted ≡ Ok diff → IsChecked true (admits_of replica) (records_of replica.store) diff
completed_at_acts replica schema store wanted diff schema_same store_same is = λ _.
    completed_acts (schema_tree replica.schema) (records_of replica.store) wanted diff
    (sym (λ i. completed (schema_tree (schema_same i)) (records_of (store_same i)) wanted) ∙ is)

-- a client by itself knows no marks
pub marks_free : (m : Marks) (state : ClientState) (c : SyncClient Seen) → client.Stands records_of state c → client.Stands records_of (with_marks m state) c
marks_free m state c is = record {
  replica = is.replica;
  connection = is.connection;
  reached = is.reached;
  presence = is.presence;
  refused = is.refused;
  pushes = is.pushes;
  pending = is.pending;
  sent = is.sent;
  closed = is.closed;
}

-- a diff of marks changes neither version nor marks
diff_version : (diff : RecordOps) (c : Client) → (with_diff diff c).version ≡ c.version
diff_version [] c = refl
diff_version (d ∷ diff) c = refl

diff_marks : (diff : RecordOps) (c : Client) → (with_diff diff c).marks ≡ c.marks
diff_marks [] c = refl
diff_marks (d ∷ diff) c = refl

-- a peer stands for a client for which such a diff was done
pub marked : (schemas : WorldSchemas EditFault) (state : ClientState) (old other : Peer) → Stands schemas state old → (diff : RecordOps) (m : Marks) → other.client.replica.schema ≡ old.client.replica.schema
    → ((state : ClientState) → client.Stands records_of state old.client → client.Stands records_of (record state { client = with_diff diff state.client }) other.client) → marks.Stands m other.marks
    → Stands schemas (with_marked diff m state) other
marked schemas state old other stands diff m schema done is =
    stands_on schemas state old stands (with_marked diff m state) other (diff_version diff (with_marks m state).client) schema (done (with_marks m state) (marks_free m state old.client stands.client))
    (subst (λ n. marks.Stands n other.marks) (sym (diff_marks diff (with_marks m state).client)) is)

pub bail_found : (o : Option RecordOps) (d : RecordOps) → option_map_or (λ diff. Ok diff) o (Err NoMark) ≡ Ok d → o ≡ Some d
bail_found None d is = absurd (cc)
bail_found (Some x) d is = let same : x ≡ d = cc in ap Some same

-- no inverse has an append
pub plain_back : (admits : List ℕ → Data → Bool) (m : Pairs) (diff back : RecordOps) → back ≡ inverse_diff admits m diff → diff_has_append back ≡ false
plain_back admits m diff back is = ap diff_has_append is ∙ plain_each (inverse_diff admits m diff) (plain_inverse_diff admits m diff).1

-- no call changes a client's version
pub push_version : (c : Client) → (pushed c).client.version ≡ c.version
push_version c = elim (is_open c.connection && nat_lt c.pushes MOST_PUSHES) as (λ b. (unwrap_or (cond b (option_map (push_one c) (first_unsent c.pending)) None) (push_none c)).client.version ≡ c.version) [
  | true ↦ elim (first_unsent c.pending) as (λ o. (unwrap_or (option_map (push_one c) o) (push_none c)).client.version ≡ c.version) [ None ↦ refl | Some work ↦ refl ]
  | false ↦ refl
]

pub presence_version : (d : Data) (c : Client) → (with_presence d c).version ≡ c.version
presence_version d c =
    let set : Client = record c { presence = Some d } in
    elim (is_open c.connection) as (λ b. (cond b (with_work (model.presence d) set) set).version ≡ c.version) [ true ↦ refl | false ↦ refl ]

-- nor its marks
pub end_marks : (reason : EndReason) (c : Client) → (after_end reason c).marks ≡ c.marks
end_marks ClientTooOld c = refl
end_marks ServerTooOld c = refl
end_marks InvalidRecord c = refl
end_marks RoomFull c = refl
end_marks Slow c = refl

pub message_marks : (admits : List ℕ → Data → Bool) (is_doc : List ℕ → Bool) (state : ClientState) (said : ServerMessage) → (after_message admits is_doc state said).client.marks ≡ state.client.marks
message_marks admits is_doc state (message.Connect hydration request protocol versions diff clock readonly) = refl
message_marks admits is_doc state (message.Data events) = refl
message_marks admits is_doc state message.Pong = refl

pub message_version : (admits : List ℕ → Data → Bool) (is_doc : List ℕ → Bool) (state : ClientState) (said : ServerMessage) → (after_message admits is_doc state said).client.version ≡ state.client.version
message_version admits is_doc state (message.Connect hydration request protocol versions diff clock readonly) = refl
message_version admits is_doc state (message.Data events) = refl
message_version admits is_doc state message.Pong = refl

-- a presence is refused as an edit is, by the fault of the same name
pub answers : (result : Result (Unit {0}) PresenceFault) (fault : Option PresenceFault)
    → Gives presence.OutOfMemory (λ done. done) result (option_map_or (λ e. Err e) fault (Ok tt))
    → Gives edit.OutOfMemory (λ done. done) (as_edit result) (done_unless (option_map edit_fault_of fault))
answers (Ok done) None given = refl
answers (Ok done) (Some e) given = absurd (let no : Err e ≡ Ok done = given in cc)
answers (Err e) None given = λ other. absurd (let no : Ok tt ≡ Err e = given (λ is. other (ap edit_fault_of is)) in cc)
answers (Err e) (Some f) given = λ other.
    let same : Err f ≡ Err e = given (λ is. other (ap edit_fault_of is)) in
    let is : f ≡ e = cc in
    ap (λ x. Err (edit_fault_of x)) is

-- an edit is refused as completion refuses it
pub refused : (result : Result (Unit {0}) EditFault) (answer : Result (Unit {0}) EditFault) (fault : EditFault) → IsErr result × IsErrAnd result (λ e. e ≡ fault)
    → (¬ (fault ≡ edit.OutOfMemory) → answer ≡ Err fault) → Gives edit.OutOfMemory (λ done. done) result answer
refused (Ok done) answer fault is given = absurd (let no : false ≡ true = is.0 in cc)
refused (Err e) answer fault is given = λ other. given (λ same. other (is.1 ∙ same)) ∙ ap Err (sym is.1)

-- a peer still stands for what it stood for where its store has the same records
pub still_stands : (schemas : WorldSchemas EditFault) (state : ClientState) (peer : Peer) (store : Seen) → Stands schemas state peer → records_of store ≡ records_of peer.client.replica.store
    → Stands schemas state (record peer { client = record peer.client { replica = record peer.client.replica { store = store } } })
still_stands schemas state peer store stands same =
    let is = stands.client in
    let r = peer.client.replica in
    record {
      tables = stands.tables;
      known = stands.known;
      version = stands.version;
      client = record {
        replica = (subst (λ m. IsReplica (schema_tree r.schema) m (map work_of r.works.items) r.stash r.others (replica_of state)) (sym same) is.replica.0, is.replica.1);
        connection = is.connection;
        reached = is.reached;
        presence = is.presence;
        refused = is.refused;
        pushes = is.pushes;
        pending = is.pending;
        sent = is.sent;
        closed = is.closed;
      };
      marks = stands.marks;
    }
