-- Each value is that of one message at most, on either side.
use Rattle.std.proofs.Common.{◌≡◌, ℕ, ℤ, List, [], ◌∷◌, Bool, codes, Option, Some, None, refl, sym, ap, ◌∙◌}
use Rattle.std.specs.Prelude as std
use Rattle.rooms_val.specs.Data.{Data, Pairs, null, boolean, whole, text, list, Items, no_items, item, items_of}
use Rattle.field_ops.specs.RecordOps.{RecordOps}
use Rattle.field_ops.specs.ViewRecordOps.{change_of}
use Rattle.field_ops.specs.WireRecordOps.{change_data, diff_data}
use Rattle.field_ops.specs.declared.record_op.RecordOp.{RecordOp}
use Rattle.field_ops.proofs.ViewLemmas.{same_op}
use Rattle.field_ops.proofs.WireLemmas.{same_map, one_change, one_diff}
use Rattle.migrate_seq.specs.Versions.{Versions, versions_in, numbers_of, schema_of}
use Rattle.migrate_seq.proofs.Numbers.{versions_in-numbers_of}
use Rattle.migrate_seq.proofs.SerializedLemmas.{same_schemas}
use Rattle.sync_msgs.specs.declared.client_message.ClientMessage.{ClientMessage}
use Rattle.sync_msgs.specs.declared.client_message.ClientMessage.TheVariants as client
use Rattle.sync_msgs.specs.declared.data_event.Action.{Action}
use Rattle.sync_msgs.specs.declared.data_event.Action.TheVariants as action
use Rattle.sync_msgs.specs.declared.data_event.DataEvent.{DataEvent}
use Rattle.sync_msgs.specs.declared.data_event.DataEvent.TheVariants as event
use Rattle.sync_msgs.specs.declared.server_message.Hydration.{Hydration}
use Rattle.sync_msgs.specs.declared.server_message.Hydration.TheVariants as hydration
use Rattle.sync_msgs.specs.declared.server_message.ServerMessage.{ServerMessage}
use Rattle.sync_msgs.specs.declared.server_message.ServerMessage.TheVariants as server
use Rattle.wire_msgs.specs.Events.{action_val, rebase_fields, event_fields, event_val}
use Rattle.wire_msgs.specs.Messages.{client_fields, client_val, maybe_diff, maybe_op, hydration_word, server_fields, server_val}
use Rattle.wire_msgs.specs.Readings.{type_in}
use Rattle.wire_msgs.proofs.ClientLemmas as clients
use Rattle.wire_msgs.proofs.PushLemmas.{later, diff_first, presence_next}
use Rattle.wire_msgs.proofs.ServerLemmas as servers
use Rattle.wire_msgs.specs.Rows.{first_at, past}

-- ---- the value of a field, by its place

abbrev rest : Pairs → Pairs
rest [] = []
rest (p ∷ ps) = ps

abbrev first : Pairs → Data
first [] = null
first (p ∷ ps) = p.1

abbrev at_1 : Pairs → Data
at_1 ps = first (rest ps)

abbrev at_2 : Pairs → Data
at_2 ps = first (rest (rest ps))

abbrev at_3 : Pairs → Data
at_3 ps = first (rest (rest (rest ps)))

abbrev at_4 : Pairs → Data
at_4 ps = first (rest (rest (rest (rest ps))))

abbrev at_5 : Pairs → Data
at_5 ps = first (rest (rest (rest (rest (rest ps)))))

abbrev at_6 : Pairs → Data
at_6 ps = first (rest (rest (rest (rest (rest (rest ps))))))

one_whole : (a b : ℤ) → whole a ≡ whole b → a ≡ b
one_whole a b is = cc

one_text : (a b : List ℕ) → text a ≡ text b → a ≡ b
one_text a b is = cc

one_truth : (a b : Bool) → boolean a ≡ boolean b → a ≡ b
one_truth a b is = cc

one_schema : (a b : Versions) → schema_of a ≡ schema_of b → a ≡ b
one_schema a b is = sym (versions_in-numbers_of a) ∙ ap versions_in (same_schemas (numbers_of a) (numbers_of b) is) ∙ versions_in-numbers_of b

one_maybe_diff : (a b : Option RecordOps) → maybe_diff a ≡ maybe_diff b → a ≡ b
one_maybe_diff None None is = refl
one_maybe_diff None (Some y) is = absurd (cc)
one_maybe_diff (Some x) None is = absurd (cc)
one_maybe_diff (Some x) (Some y) is = ap Some (one_diff x y (let same : diff_data x ≡ diff_data y = cc in same))

one_maybe_op : (a b : Option RecordOp) → maybe_op a ≡ maybe_op b → a ≡ b
one_maybe_op None None is = refl
one_maybe_op None (Some y) is = absurd (cc)
one_maybe_op (Some x) None is = absurd (cc)
one_maybe_op (Some x) (Some y) is =
    ap Some (same_op x y (one_change (change_of x) (change_of y) (let same : change_data (change_of x) ≡ change_data (change_of y) = cc in same)))

-- ---- messages of a client

push_diff : (a b : Option RecordOps) (p q : Option RecordOp) → later (maybe_diff a) (maybe_op p) ≡ later (maybe_diff b) (maybe_op q) → a ≡ b
push_diff a b p q is = one_maybe_diff a b (sym (diff_first _ _) ∙ ap (first_at (codes "diff")) is ∙ diff_first _ _)

push_op : (a b : Option RecordOps) (p q : Option RecordOp) → later (maybe_diff a) (maybe_op p) ≡ later (maybe_diff b) (maybe_op q) → p ≡ q
push_op a b p q is =
    one_maybe_op p q (sym (presence_next (maybe_diff a) (maybe_op p)) ∙ ap (λ ps. first_at (codes "presence") (past (codes "diff") ps)) is ∙ presence_next (maybe_diff b) (maybe_op q))

same_client : (a b : ClientMessage) → clients.type_of a ≡ clients.type_of b → client_fields a ≡ client_fields b → a ≡ b
same_client (client.Connect request clock version schema) (client.Connect request_2 clock_2 version_2 schema_2) kinds is =
    λ i. client.Connect (one_text request request_2 (ap first is) i) (one_whole clock clock_2 (ap at_1 is) i) (one_whole version version_2 (ap at_2 is) i) (one_schema schema schema_2 (ap at_3 is) i)
same_client (client.Push clock diff presence) (client.Push clock_2 diff_2 presence_2) kinds is =
    λ i. client.Push (one_whole clock clock_2 (ap first is) i) (push_diff diff diff_2 presence presence_2 (ap rest is) i) (push_op diff diff_2 presence presence_2 (ap rest is) i)
same_client client.Ping client.Ping kinds is = refl
same_client (client.Connect request clock version schema) (client.Push clock_2 diff_2 presence_2) kinds is = absurd (cc)
same_client (client.Connect request clock version schema) client.Ping kinds is = absurd (cc)
same_client (client.Push clock diff presence) (client.Connect request_2 clock_2 version_2 schema_2) kinds is = absurd (cc)
same_client (client.Push clock diff presence) client.Ping kinds is = absurd (cc)
same_client client.Ping (client.Connect request_2 clock_2 version_2 schema_2) kinds is = absurd (cc)
same_client client.Ping (client.Push clock_2 diff_2 presence_2) kinds is = absurd (cc)

pub one_client : (a b : ClientMessage) → client_val a ≡ client_val b → a ≡ b
one_client a b is =
    same_client a b (clients.one_type (clients.type_of a) (clients.type_of b) (sym (clients.says a) ∙ ap type_in is ∙ clients.says b)) (same_map (client_fields a) (client_fields b) is)

-- ---- events

one_action : (a b : Action) → action_val a ≡ action_val b → a ≡ b
one_action action.Commit action.Commit is = refl
one_action action.Commit action.Discard is = absurd (let same : codes "commit" ≡ codes "discard" = one_text _ _ is in cc)
one_action action.Commit (action.Rebase diff) is = absurd (cc)
one_action action.Discard action.Commit is = absurd (let same : codes "discard" ≡ codes "commit" = one_text _ _ is in cc)
one_action action.Discard action.Discard is = refl
one_action action.Discard (action.Rebase diff) is = absurd (cc)
one_action (action.Rebase diff) action.Commit is = absurd (cc)
one_action (action.Rebase diff) action.Discard is = absurd (cc)
one_action (action.Rebase diff) (action.Rebase diff_2) is =
    ap action.Rebase (one_diff diff diff_2 (ap first (same_map (rebase_fields diff) (rebase_fields diff_2) is)))

same_event : (a b : DataEvent) → event_fields a ≡ event_fields b → a ≡ b
same_event (event.Patch diff clock) (event.Patch diff_2 clock_2) is = λ i. event.Patch (one_diff diff diff_2 (ap first is) i) (one_whole clock clock_2 (ap at_1 is) i)
same_event (event.Patch diff clock) (event.PushResult push clock_2 done) is = absurd (let short : [] ≡ _ = ap (λ ps. rest (rest (rest ps))) is in cc)
same_event (event.PushResult push clock done) (event.Patch diff clock_2) is = absurd (let short : _ ≡ [] = ap (λ ps. rest (rest (rest ps))) is in cc)
same_event (event.PushResult push clock done) (event.PushResult push_2 clock_2 done_2) is =
    λ i. event.PushResult (one_whole push push_2 (ap at_1 is) i) (one_whole clock clock_2 (ap at_2 is) i) (one_action done done_2 (ap first is) i)

one_event : (a b : DataEvent) → event_val a ≡ event_val b → a ≡ b
one_event a b is = same_event a b (same_map (event_fields a) (event_fields b) is)

abbrev first_item : Items → Data
first_item no_items = null
first_item (item d ds) = d

abbrev more_items : Items → Items
more_items no_items = no_items
more_items (item d ds) = ds

same_events : (a b : List DataEvent) → items_of (std.map event_val a) ≡ items_of (std.map event_val b) → a ≡ b
same_events [] [] is = refl
same_events [] (y ∷ b) is = absurd (cc)
same_events (x ∷ a) [] is = absurd (cc)
same_events (x ∷ a) (y ∷ b) is = λ i. one_event x y (ap first_item is) i ∷ same_events a b (ap more_items is) i

one_list : (a b : Items) → list a ≡ list b → a ≡ b
one_list a b is = cc

-- ---- messages of a room

one_hydration : (a b : Hydration) → hydration_word a ≡ hydration_word b → a ≡ b
one_hydration hydration.WipeAll hydration.WipeAll is = refl
one_hydration hydration.WipeAll hydration.WipePresence is = absurd (cc)
one_hydration hydration.WipePresence hydration.WipeAll is = absurd (cc)
one_hydration hydration.WipePresence hydration.WipePresence is = refl

same_server : (a b : ServerMessage) → servers.type_of a ≡ servers.type_of b → server_fields a ≡ server_fields b → a ≡ b
same_server (server.Connect keeps request version schema diff clock readonly) (server.Connect keeps_2 request_2 version_2 schema_2 diff_2 clock_2 readonly_2) kinds is =
    λ i. server.Connect (one_hydration keeps keeps_2 (one_text _ _ (ap at_2 is)) i) (one_text request request_2 (ap first is) i) (one_whole version version_2 (ap at_4 is) i)
    (one_schema schema schema_2 (ap at_5 is) i) (one_diff diff diff_2 (ap at_1 is) i) (one_whole clock clock_2 (ap at_6 is) i) (one_truth readonly readonly_2 (ap at_3 is) i)
same_server (server.Data events) (server.Data events_2) kinds is = ap server.Data (same_events events events_2 (one_list _ _ (ap first is)))
same_server server.Pong server.Pong kinds is = refl
same_server (server.Connect keeps request version schema diff clock readonly) (server.Data events_2) kinds is = absurd (cc)
same_server (server.Connect keeps request version schema diff clock readonly) server.Pong kinds is = absurd (cc)
same_server (server.Data events) (server.Connect keeps_2 request_2 version_2 schema_2 diff_2 clock_2 readonly_2) kinds is = absurd (cc)
same_server (server.Data events) server.Pong kinds is = absurd (cc)
same_server server.Pong (server.Connect keeps_2 request_2 version_2 schema_2 diff_2 clock_2 readonly_2) kinds is = absurd (cc)
same_server server.Pong (server.Data events_2) kinds is = absurd (cc)

pub one_server : (a b : ServerMessage) → server_val a ≡ server_val b → a ≡ b
one_server a b is =
    same_server a b (servers.one_type (servers.type_of a) (servers.type_of b) (sym (servers.says a) ∙ ap type_in is ∙ servers.says b)) (same_map (server_fields a) (server_fields b) is)
