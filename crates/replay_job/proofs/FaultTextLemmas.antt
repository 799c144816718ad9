-- Each fault that the definitions give of an event has a text, since none is want of memory.
use Rattle.std.proofs.Common.{◌≡◌, ℕ, zero, suc, nat_le, nat_lt, Bool, true, false, not, ◌&&◌, List, [], ◌∷◌, length, if◌then◌else◌, codes, Option, Some, None, is_some, IfSome, option_map, option_and_then, slice_get, Result, Ok, Err, IfErr, refl, ap, subst, sym}
use Rattle.std.specs.Option.{option_map_or}
use Rattle.rooms_val.specs.Data.{Data, Pairs}
use Rattle.rooms_val.specs.Maps.{value_at, with_key}
use Rattle.rooms_val.specs.View.{data_of}
use Rattle.field_ops.specs.Patched.{raw}
use Rattle.field_ops.specs.RecordOps.{RecordOpTree, put, patch, remove, RecordOps}
use Rattle.schema_core.specs.Admits.{is_document, first_fault}
use Rattle.schema_core.specs.Tree.{SchemaTree}
use Rattle.schema_core.specs.declared.fault.RecordFault.{RecordFault}
use Rattle.index_keys.specs.Between.{between, is_key_or_none, is_less_or_open, values_between, text_that_fits}
use Rattle.index_keys.specs.Digits.{values_of}
use Rattle.index_keys.specs.Several as keys
use Rattle.index_keys.specs.Several.{Keys, rising_from, several}
use Rattle.index_keys.specs.declared.fault.BetweenFault.{BetweenFault}
use Rattle.doc_model.specs.Documents.{fold_raw}
use Rattle.doc_model.specs.Marks as marks
use Rattle.side_effects.specs.Completed.{wrong_scope, no_record, invalid, first_refusal, or_else, unless, not_whole, unfit, indexed, completed}
use Rattle.side_effects.specs.Placed.{and_then, or_no_key, placing, placed, unplaced, all_placed, greatest_index, with_index}
use Rattle.side_effects.specs.Records.{parent_of, from_of, to_of}
use Rattle.side_effects.specs.Removed.{with_removes}
use Rattle.side_effects.specs.Whole.{has_page, has_parent, has_shape, parent_at, meets_itself, binding_at, no_parent, under_itself, no_end}
use Rattle.side_effects.specs.declared.fault.EditFault.{EditFault}
use Rattle.clip_content.specs.Copied.{first_missing, first_again, is_too_much, copied, taken}
use Rattle.clip_content.specs.Pasted as pasting
use Rattle.clip_content.specs.Pasted.{first_taken, keys_behind, tops, pasted}
use Rattle.fault_texts.specs.Texts.{with_word, between_fault_text, edit_fault_text, clip_fault_text, paste_fault_text, step_fault_text}
use Rattle.room_model.specs.Clips.{ClipTree, TargetTree}
use Rattle.room_model.specs.Schemas.{WorldSchemas}
use Rattle.room_model.specs.Replicas.{Client, session_of}
use Rattle.room_model.specs.Rooms.{Notice, session_at, next_for}
use Rattle.room_model.specs.Worlds as model
use Rattle.room_model.specs.Worlds.{World, Channel, at_client, at_channel, at_session, deliver_first, is_at_limit, connect_if_allowed, shown_in, take_edit, on_edit, take_clip, edit_pasted, handle_first, after_event}
use Rattle.room_model.specs.declared.clip_fault.ClipFault.{ClipFault}
use Rattle.room_model.specs.declared.clip_fault.PasteFault.{PasteFault}
use Rattle.room_model.specs.declared.event.Event.{Event}
use Rattle.room_model.specs.declared.event.Event.TheVariants as event
use Rattle.room_model.specs.declared.fault.StepFault.{StepFault}
use Rattle.room_model.specs.declared.fault.StepFault.TheVariants.{Edit}
use Rattle.room_model.specs.declared.limits.TheConstants.{MOST_CLIENTS}
use Rattle.room_schemas.specs.Decided.{decided, is_presence}
use Rattle.signal_core.specs.declared.watch.TheConstants.{MOST_WATCHES}
use Rattle.sync_client.specs.Presences.{id_of, presence_fault}
use Rattle.sync_client.specs.declared.fault.PresenceFault.TheVariants.{WrongScope, Invalid}
use Rattle.sync_msgs.specs.declared.client_message.ClientMessage.{ClientMessage}
use Rattle.sync_msgs.specs.declared.end_reason.EndReason.{EndReason}
use Rattle.rec_format.specs.declared.recorded.RecordedEvent.{RecordedEvent}
use Rattle.rec_format.specs.declared.recorded.RecordedEvent.TheVariants as recorded
use Rattle.peer_schemas.specs.Clients.{types_at, by_id, edit_fault_of, schemas_of, AreOfTables}
use Rattle.world_views.specs.Views.{Viewed, with_made, after_recorded}

-- an answer or a refusal, whichever it is: each refusal is a P
module _ {E : Type 0} (P : E → Type 0) where
  err_or : {A B : Type 0} (o : Option A) (next : A → Result B E) (other : Result B E) → ((a : A) → IfErr (next a) P) → IfErr other P → IfErr (option_map_or next o other) P
  err_or None next other each last = last
  err_or (Some a) next other each last = each a

  err_if : {B : Type 0} (b : Bool) (r s : Result B E) → IfErr r P → IfErr s P → IfErr (if b then r else s) P
  err_if true r s one two = one
  err_if false r s one two = two

  some_then : {A : Type 0} (o : Option A) (next : A → Option E) → ((a : A) → IfSome (next a) P) → IfSome (option_and_then next o) P
  some_then None next each = tt
  some_then (Some a) next each = each a

  some_map : {A : Type 0} (o : Option A) (f : A → E) → ((a : A) → P (f a)) → IfSome (option_map f o) P
  some_map None f each = tt
  some_map (Some a) f each = each a

  some_if : (b : Bool) (o p : Option E) → IfSome o P → IfSome p P → IfSome (if b then o else p) P
  some_if true o p one two = one
  some_if false o p one two = two

abbrev BetweenHasText : BetweenFault → Type 0
BetweenHasText f = (text : List ℕ) × (between_fault_text f ≡ Some text)

abbrev EditHasText : EditFault → Type 0
EditHasText f = (text : List ℕ) × (edit_fault_text f ≡ Some text)

abbrev pub HasText : StepFault EditFault → Type 0
HasText f = (text : List ℕ) × (step_fault_text f ≡ Some text)

-- of the faults of keys
fitting : (o : Option (List ℕ)) → IfErr (text_that_fits o) BetweenHasText
fitting None = (_, refl)
fitting (Some values) = err_if BetweenHasText (nat_lt 256 (length values)) _ _ (_, refl) tt

between_texts : (below above : Option (List ℕ)) → IfErr (between below above) BetweenHasText
unfolding between
between_texts below above =
    err_if BetweenHasText (not (is_key_or_none below && is_key_or_none above)) _ _ (_, refl)
    (err_if BetweenHasText (not (is_less_or_open below above)) _ _ (_, refl) (fitting (values_between (option_map values_of below) (option_map values_of above))))

keyed : (r : Result (List ℕ) BetweenFault) (rest : List ℕ → Keys) → IfErr r BetweenHasText → ((key : List ℕ) → IfErr (rest key) BetweenHasText) → IfErr (keys.with_key r rest) BetweenHasText
keyed (Ok key) rest has each = each key
keyed (Err fault) rest has each = has

joined : (r : Keys) (rest : List (List ℕ) → List (List ℕ)) → IfErr r BetweenHasText → IfErr (keys.with_keys r (λ found. Ok (rest found))) BetweenHasText
joined (Ok found) rest has = tt
joined (Err fault) rest has = has

rising_texts : (count : ℕ) (below : Option (List ℕ)) → IfErr (rising_from count below) BetweenHasText
rising_texts zero below = tt
rising_texts (suc count) below =
    keyed (between below None) _ (between_texts below None) (λ key. joined (rising_from count (Some key)) (λ rest. key ∷ rest) (rising_texts count (Some key)))

several_texts : (below : Option (List ℕ)) (count : ℕ) → IfErr (several below None count) BetweenHasText
several_texts None count = rising_texts count None
several_texts (Some below) count = rising_texts count (Some below)

no_key : (r : Result (List ℕ) BetweenFault) → IfErr r BetweenHasText → IfErr (or_no_key r) EditHasText
no_key (Ok key) has = tt
no_key (Err fault) has = (with_word (codes "NoKey") has.0, ap (option_map (with_word (codes "NoKey"))) has.1)

-- of those of edits
both : {A B : Type 0} (r : Result A EditFault) (next : A → Result B EditFault) → IfErr r EditHasText → ((a : A) → IfErr (next a) EditHasText) → IfErr (and_then r next) EditHasText
both (Ok a) next has each = each a
both (Err fault) next has each = has

refused_or : {A : Type 0} (o : Option EditFault) (next : Result A EditFault) → IfSome o EditHasText → IfErr next EditHasText → IfErr (unless o next) EditHasText
refused_or None next has last = last
refused_or (Some fault) next has last = has

either : (o p : Option EditFault) → IfSome o EditHasText → IfSome p EditHasText → IfSome (or_else o p) EditHasText
either None p has last = last
either (Some fault) p has last = has

-- a rule names no fault without a text
abbrev Names : (List ℕ → RecordOpTree → Option EditFault) → Type 0
Names rule = (id : List ℕ) (c : RecordOpTree) → IfSome (rule id c) EditHasText

first_named : (rule : List ℕ → RecordOpTree → Option EditFault) → Names rule → (diff : RecordOps) → IfSome (first_refusal rule diff) EditHasText
first_named rule names [] = tt
first_named rule names (c ∷ diff) = either (rule c.0 c.1) _ (names c.0 c.1) (first_named rule names diff)

named_record : (m : Pairs) → Names (no_record m)
named_record m id (put d) = tt
named_record m id (patch p) = some_if EditHasText (is_some (value_at m id)) None _ tt (_, refl)
named_record m id remove = some_if EditHasText (is_some (value_at m id)) None _ tt (_, refl)

module _ (s : SchemaTree) (m : Pairs) where
  unfit_named : (wanted : RecordOps) → IfSome (unfit s m wanted) EditHasText
  unfit_named wanted =
      either _ _
      (either _ _ (first_named (wrong_scope s) (λ id c. some_if EditHasText (is_document s id) None _ tt (_, refl)) wanted) (first_named (no_record m) (named_record m) wanted))
      (first_named (invalid s m) (λ id c. some_then EditHasText (raw c (value_at m id)) _ (λ d. some_map EditHasText (first_fault s id d) _ (λ fault. (_, refl)))) (placed m wanted))

  placing_texts : (after : Pairs) (id : List ℕ) (c : RecordOpTree) → IfErr (placing s after id c) EditHasText
  placing_texts after id (put d) =
      both (or_no_key (between (greatest_index after (parent_of d)) None)) _ (no_key _ (between_texts (greatest_index after (parent_of d)) None))
      (λ key. err_or EditHasText (first_fault s id (with_index d key)) _ _ (λ fault. (_, refl)) tt)
  placing_texts after id (patch p) = tt
  placing_texts after id remove = tt

  placed_texts : (diff more : RecordOps) → IfErr (all_placed s m diff more) EditHasText
  placed_texts diff [] = tt
  placed_texts diff (c ∷ more) = both (placing s (fold_raw m diff) c.0 c.1) _ (placing_texts (fold_raw m diff) c.0 c.1) (λ op. placed_texts (with_key diff c.0 op) more)

  whole_named : (wanted all : RecordOps) → IfSome (not_whole m wanted all) EditHasText
  whole_named wanted all =
      let after = fold_raw m all in
      either _ _ (some_if EditHasText (has_page m && not (has_page after)) _ None (_, refl) tt)
      (either _ _
      (either _ _
      (first_named (no_parent after) (λ id c. some_then EditHasText (parent_at after id) _ (λ parent. some_if EditHasText (has_parent after parent) None _ tt (_, refl))) wanted)
      (first_named (under_itself after) (λ id c. some_if EditHasText (meets_itself after id) _ None (_, refl) tt) wanted))
      (first_named (no_end after) (λ id c. some_then EditHasText (binding_at after id) _ (λ d. some_if EditHasText (has_shape after (from_of d) && has_shape after (to_of d)) None _ tt (_, refl))) wanted))

  completed_texts : (wanted : RecordOps) → IfErr (completed s m wanted) EditHasText
  completed_texts wanted =
      err_if EditHasText (nat_lt 8192 (length wanted)) _ _ (_, refl)
      (both (indexed s m wanted) _ (refused_or (unfit s m wanted) _ (unfit_named wanted) (placed_texts (placed m wanted) (unplaced m wanted))) (λ diff.
      let all = with_removes m diff in
      refused_or (not_whole m wanted all) _ (whole_named wanted all) (err_if EditHasText (nat_lt 8192 (length all)) _ _ (_, refl) tt)))

presence_texts : (s : SchemaTree) (d : Data) → IfSome (option_map edit_fault_of (presence_fault s d)) EditHasText
presence_texts s d = by (is_presence s (id_of d)) (first_fault s (id_of d) d)
  where
    by : (b : Bool) (o : Option RecordFault) → IfSome (option_map edit_fault_of (if b then option_map (λ fault. Invalid (id_of d) fault) o else Some (WrongScope (id_of d)))) EditHasText
    by true None = tt
    by true (Some fault) = (_, refl)
    by false o = (_, refl)

-- of those of copies and pastes
abbrev ClipHasText : ClipFault → Type 0
ClipHasText f = (text : List ℕ) × (clip_fault_text f ≡ Some text)

abbrev PasteHasText : PasteFault → Type 0
PasteHasText f = (text : List ℕ) × (paste_fault_text f ≡ Some text)

copied_texts : (m : Pairs) (ids : List (List ℕ)) → IfErr (taken m ids) ClipHasText
copied_texts m ids =
    err_or ClipHasText (first_missing m ids) _ _ (λ id. (_, refl))
    (err_or ClipHasText (first_again [] ids) _ _ (λ id. (_, refl)) (err_if ClipHasText (is_too_much (copied m ids)) _ _ (_, refl) tt))

put_by : (r : Keys) (diff : List (List ℕ) → RecordOps) → IfErr r BetweenHasText → IfErr (pasting.with_keys (pasting.or_no_key r) diff) PasteHasText
put_by (Ok found) diff has = tt
put_by (Err fault) diff has = (with_word (codes "NoKey") has.0, ap (option_map (with_word (codes "NoKey"))) has.1)

pasted_texts : (clip : ClipTree) (m : Pairs) (target : TargetTree) → IfErr (pasted clip m target) PasteHasText
pasted_texts clip m target =
    err_or PasteHasText (first_taken clip target m) _ _ (λ id. (_, refl))
    (put_by (keys_behind clip m target.parent) _ (several_texts (greatest_index m target.parent) (length (tops clip))))

-- of those of events, where the tables decide
module _ (s : SchemaTree) where
  edited : (number : ℕ) (world : World) (client : Client) (r : Result RecordOps EditFault) → IfErr r EditHasText → IfErr (take_edit (schemas_of s) number world client r) HasText
  edited number world client (Ok diff) has = tt
  edited number world client (Err fault) has = has

  clipped : (number : ℕ) (world : World) (client : Client) (r : Result ClipTree ClipFault) → IfErr r ClipHasText → IfErr (take_clip (schemas_of s) number world client r) HasText
  clipped number world client (Ok clip) has = tt
  clipped number world client (Err fault) has = has

  pasted_or : (number : ℕ) (world : World) (r : Result RecordOps PasteFault) → IfErr r PasteHasText → ((wanted : RecordOps) → IfErr (on_edit (schemas_of s) number wanted world) HasText)
      → IfErr (edit_pasted (schemas_of s) number world r) HasText
  pasted_or number world (Ok wanted) has each = each wanted
  pasted_or number world (Err fault) has each = has

  set : {A : Type 0} (o : Option EditFault) (r : Result A (StepFault EditFault)) → IfSome o EditHasText → IfErr r HasText → IfErr (option_map_or (λ fault. Err (Edit fault)) o r) HasText
  set None r has last = last
  set (Some fault) r has last = has

  connected : (number : ℕ) (readonly : Bool) (world : World) (client : Client) (o : Option EndReason) → IfErr (connect_if_allowed (schemas_of s) number readonly world client o) HasText
  connected number readonly world client (Some reason) = (_, refl)
  connected number readonly world client None = err_if HasText (is_at_limit world) _ _ (_, refl) tt

  delivered : (number session : ℕ) (world : World) (client : Client) (channel : Channel) (notices : List Notice) → IfErr (deliver_first {F = EditFault} number session world client channel notices) HasText
  delivered number session world client channel [] = (_, refl)
  delivered number session world client channel (notice ∷ notices) = tt

  handled : (trace : Bool) (session : ℕ) (world : World) (channel : Channel) (said : List ClientMessage) → IfErr (handle_first (schemas_of s) trace session world channel said) HasText
  handled trace session world channel [] = (_, refl)
  handled trace session world channel (message ∷ said) = tt

  module _ (world : World) where
    with_client_texts : (number : ℕ) (next : Client → model.Outcome EditFault) → ((client : Client) → IfErr (next client) HasText) → IfErr (at_client number world next) HasText
    with_client_texts number next each = err_or HasText (slice_get world.clients number) next _ each (_, refl)

    with_channel_texts : (session : ℕ) (next : Channel → model.Outcome EditFault) → ((channel : Channel) → IfErr (next channel) HasText) → IfErr (at_channel session world next) HasText
    with_channel_texts session next each = err_or HasText (slice_get world.channels session) next _ each (_, refl)

    with_session_texts : (session : ℕ) (next : Channel → model.Outcome EditFault) → ((channel : Channel) → IfErr (next channel) HasText) → IfErr (at_session session world next) HasText
    with_session_texts session next each = err_or HasText (session_at session world.room) _ _ (λ there. with_channel_texts session next each) (_, refl)

    edit_texts : (number : ℕ) (diff : RecordOps) → IfErr (on_edit (schemas_of s) number diff world) HasText
    edit_texts number diff =
        with_client_texts number _ (λ client. edited number world client _ (completed_texts (types_at client.version) (shown_in (schemas_of s) world client) (by_id diff)))

    event_texts : (trace : Bool) (e : Event) → IfErr (after_event (schemas_of s) trace world e) HasText
    event_texts trace (event.Client version) = err_if HasText (nat_le MOST_CLIENTS (length world.clients)) _ _ (_, refl) tt
    event_texts trace (event.Connect number readonly) =
        with_client_texts number _ (λ client. err_or HasText (session_of client.connection) _ _ (λ session. (_, refl)) (connected number readonly world client client.refused))
    event_texts trace (event.Edit number diff) = edit_texts number diff
    event_texts trace (event.Presence number val) = with_client_texts number _ (λ client. set _ _ (presence_texts (types_at client.version) (data_of val)) tt)
    event_texts trace (event.Mark number name) = with_client_texts number _ (λ client. tt)
    event_texts trace (event.Undo number) = with_client_texts number _ (λ client. err_or HasText (marks.undo_diff client.marks) _ _ (λ diff. tt) tt)
    event_texts trace (event.Redo number) = with_client_texts number _ (λ client. err_or HasText (marks.redo_diff client.marks) _ _ (λ diff. tt) tt)
    event_texts trace (event.Bail number name) = with_client_texts number _ (λ client. err_or HasText (marks.bail_diff name client.marks) _ _ (λ diff. tt) (_, refl))
    event_texts trace (event.Copy number ids) = with_client_texts number _ (λ client. clipped number world client _ (copied_texts (shown_in (schemas_of s) world client) ids))
    event_texts trace (event.Paste number dx dy parent prefix) =
        let target : TargetTree = record { prefix = prefix; parent = parent; dx = dx; dy = dy } in
        with_client_texts number _ (λ client.
        err_or HasText client.clip _ _ (λ clip. pasted_or number world _ (pasted_texts clip (shown_in (schemas_of s) world client) target) (edit_texts number)) (_, refl))
    event_texts trace (event.Handle session) = with_session_texts session _ (λ channel. handled trace session world channel channel.to_room)
    event_texts trace (event.Send session) = with_session_texts session _ (λ channel. err_or HasText (next_for (decided s) world.room session) _ _ (λ given. tt) (_, refl))
    event_texts trace (event.Deliver number) =
        with_client_texts number _ (λ client.
        err_or HasText (session_of client.connection) _ _ (λ session. with_channel_texts session _ (λ channel. delivered number session world client channel channel.to_client)) (_, refl))
    event_texts trace (event.Cut number) = with_client_texts number _ (λ client. err_or HasText (session_of client.connection) _ _ (λ session. tt) (_, refl))
    event_texts trace (event.Lose session) = with_session_texts session _ (λ channel. tt)
    event_texts trace (event.Show number) = with_client_texts number _ (λ client. tt)
    event_texts trace event.End = tt

  made_texts : (e : Event) (viewed : Viewed) (o : model.Outcome EditFault) → IfErr o HasText → IfErr (with_made (schemas_of s) e viewed o) HasText
  made_texts e viewed (Ok made) has = tt
  made_texts e viewed (Err fault) has = has

  recorded_texts : (trace : Bool) (viewed : Viewed) (e : RecordedEvent) → IfErr (after_recorded (schemas_of s) trace viewed e) HasText
  recorded_texts trace viewed (recorded.World e) = made_texts e viewed _ (event_texts viewed.world trace e)
  recorded_texts trace viewed (recorded.Watch number view) =
      err_or HasText (slice_get viewed.watched number) _ _ (λ ws. err_if HasText (nat_le MOST_WATCHES (length ws)) _ _ (_, refl) tt) (_, refl)
  recorded_texts trace viewed (recorded.Query number type query) = err_or HasText (slice_get viewed.world.clients number) _ _ (λ client. tt) (_, refl)

-- an event that can't happen is refused with a text
pub fault_text_found : (trace : Bool) (schemas : WorldSchemas EditFault) (viewed : Viewed) (e : RecordedEvent) → AreOfTables schemas → IfErr (after_recorded schemas trace viewed e) HasText
fault_text_found trace schemas viewed e tables = subst (λ s. IfErr (after_recorded s trace viewed e) HasText) (sym tables.are) (recorded_texts tables.room trace viewed e)
