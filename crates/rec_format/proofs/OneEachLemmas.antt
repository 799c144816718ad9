-- Each value is that of one event at most, and of one header.
use Rattle.std.proofs.Common.{◌≡◌, ℕ, ℤ, ◌<◌, ◌≤◌, List, [], ◌∷◌, Bool, false, Result, Ok, Err, IfOk, IfErr, MatchResult, Some, refl, sym, ap, ◌∙◌}
use Rattle.std.specs.Prelude.{pos}
use Rattle.rooms_val.proofs.Truths.{le_lt_absurd, one_ok, ok_not_err}
use Rattle.rooms_val.specs.Data as data'
use Rattle.rooms_val.specs.Data.{Data, Items, Pairs, null, pairs_of}
use Rattle.rooms_val.specs.View.{val_of}
use Rattle.rooms_val.proofs.DataLemmas.{pairs_of-members_of, val_of-data_of}
use Rattle.field_ops.proofs.WireLemmas.{same_map}
use Rattle.field_ops.specs.RecordOps.{RecordOps}
use Rattle.field_ops.specs.WireRecordOps.{change_in, change_in-change_data, diff_pairs, diff_data}
use Rattle.room_model.specs.declared.event.Event.{Event}
use Rattle.room_model.specs.declared.event.Event.TheVariants as event
use Rattle.room_model.specs.declared.event.Header.{Header}
use Rattle.shape_tree.specs.Views.{ids_data}
use Rattle.view_vals.specs.Queries.{query_data}
use Rattle.view_vals.specs.Views.{view_data}
use Rattle.view_vals.proofs.AskingLemmas.{ask_the_same}
use Rattle.view_vals.proofs.ViewsLemmas.{one_view}
use Rattle.rec_format.specs.Events.{event_fields, header_fields, header_val}
use Rattle.rec_format.specs.Laws.{IsSame}
use Rattle.rec_format.specs.Lines.{IsEvent, IsHeader, IsUnknown, RefusesLine, RefusesHeader, word_in}
use Rattle.rec_format.specs.Recorded.{recorded_fields, recorded_val}
use Rattle.rec_format.specs.Verbs.{word_of}
use Rattle.rec_format.specs.declared.fault.LineFault.{LineFault}
use Rattle.rec_format.specs.declared.fault.LineFault.TheVariants as line_fault
use Rattle.rec_format.specs.declared.recorded.RecordedEvent.{RecordedEvent}
use Rattle.rec_format.specs.declared.recorded.RecordedEvent.TheVariants as recorded
use Rattle.rec_format.specs.declared.verb.Verb.{Verb}
use Rattle.rec_format.specs.declared.verb.Verb.TheVariants as verb
use Rattle.rec_format.proofs.EventLemmas.{verb_of, says, some_one}

abbrev first : Pairs → Data
first [] = null
first (p ∷ ps) = p.1

abbrev rest : Pairs → Pairs
rest [] = []
rest (p ∷ ps) = ps

abbrev second : Pairs → Data
second ps = first (rest ps)

abbrev third : Pairs → Data
third ps = first (rest (rest ps))

abbrev fourth : Pairs → Data
fourth ps = first (rest (rest (rest ps)))

abbrev number_in : Data → ℕ
number_in (data'.whole (pos n)) = n
number_in d = 0

abbrev text_in : Data → List ℕ
text_in (data'.text t) = t
text_in d = []

abbrev whole_in : Data → ℤ
whole_in (data'.whole z) = z
whole_in d = pos 0

abbrev each_text : Items → List (List ℕ)
each_text data'.no_items = []
each_text (data'.item d ds) = text_in d ∷ each_text ds

abbrev texts_in : Data → List (List ℕ)
texts_in (data'.list ds) = each_text ds
texts_in d = []

pub texts_in-ids_data : (ids : List (List ℕ)) → texts_in (ids_data ids) ≡ ids
texts_in-ids_data [] = refl
texts_in-ids_data (id ∷ ids) = ap (λ rest. id ∷ rest) (texts_in-ids_data ids)

abbrev truth_in : Data → Bool
truth_in (data'.boolean b) = b
truth_in d = false

abbrev changes_in : Pairs → RecordOps
changes_in [] = []
changes_in (p ∷ ps) = (p.0, change_in p.1) ∷ changes_in ps

pub changes_in-diff_pairs : (cs : RecordOps) → changes_in (diff_pairs cs) ≡ cs
changes_in-diff_pairs [] = refl
changes_in-diff_pairs (c ∷ cs) = λ i. (c.0, change_in-change_data c.1 i) ∷ changes_in-diff_pairs cs i

abbrev diff_in : Data → RecordOps
diff_in (data'.map ms) = changes_in (pairs_of ms)
diff_in d = []

diff_in-diff_data : (cs : RecordOps) → diff_in (diff_data cs) ≡ cs
diff_in-diff_data cs = ap changes_in (pairs_of-members_of (diff_pairs cs)) ∙ changes_in-diff_pairs cs

-- what an event says, with the values of its view or query
data Said : Type 0 where
  world : Event → Said
  watch : ℕ → Data → Said
  query : ℕ → List ℕ → Data → Said

abbrev said_by : RecordedEvent → Said
said_by (recorded.World e) = world e
said_by (recorded.Watch c view) = watch c (view_data view)
said_by (recorded.Query c type where') = query c type (query_data where')

-- what the event of a verb says that has these fields
abbrev said_with : Verb → Pairs → Said
said_with verb.Client ps = world (event.Client (number_in (second ps)))
said_with verb.Connect ps = world (event.Connect (number_in (first ps)) (truth_in (third ps)))
said_with verb.Edit ps = world (event.Edit (number_in (first ps)) (diff_in (second ps)))
said_with verb.Presence ps = world (event.Presence (number_in (first ps)) (val_of (third ps)))
said_with verb.Mark ps = world (event.Mark (number_in (first ps)) (text_in (third ps)))
said_with verb.Undo ps = world (event.Undo (number_in (first ps)))
said_with verb.Redo ps = world (event.Redo (number_in (first ps)))
said_with verb.Bail ps = world (event.Bail (number_in (first ps)) (text_in (third ps)))
said_with verb.Copy ps = world (event.Copy (number_in (first ps)) (texts_in (third ps)))
said_with verb.Paste ps = world (event.Paste (number_in (first ps)) (whole_in (third ps)) (whole_in (fourth ps)) (text_in (first (rest (rest (rest (rest ps))))))
    (text_in (first (rest (rest (rest (rest (rest ps))))))))
said_with verb.Handle ps = world (event.Handle (number_in (second ps)))
said_with verb.Send ps = world (event.Send (number_in (second ps)))
said_with verb.Deliver ps = world (event.Deliver (number_in (first ps)))
said_with verb.Cut ps = world (event.Cut (number_in (first ps)))
said_with verb.Lose ps = world (event.Lose (number_in (second ps)))
said_with verb.Watch ps = watch (number_in (first ps)) (third ps)
said_with verb.Query ps = query (number_in (first ps)) (text_in (third ps)) (fourth ps)
said_with verb.Show ps = world (event.Show (number_in (first ps)))
said_with verb.End ps = world event.End

said_in : (e : Event) → said_with (verb_of (recorded.World e)) (event_fields e) ≡ world e
said_in (event.Client v) = refl
said_in (event.Connect c readonly) = refl
said_in (event.Edit c diff) = ap (λ d. world (event.Edit c d)) (diff_in-diff_data diff)
said_in (event.Presence c r) = ap (λ x. world (event.Presence c x)) (val_of-data_of r)
said_in (event.Mark c name) = refl
said_in (event.Undo c) = refl
said_in (event.Redo c) = refl
said_in (event.Bail c name) = refl
said_in (event.Copy c ids) = ap (λ t. world (event.Copy c t)) (texts_in-ids_data ids)
said_in (event.Paste c dx dy parent prefix) = refl
said_in (event.Handle s) = refl
said_in (event.Send s) = refl
said_in (event.Deliver c) = refl
said_in (event.Cut c) = refl
said_in (event.Lose s) = refl
said_in (event.Show c) = refl
said_in event.End = refl

said_with-recorded_fields : (e : RecordedEvent) → said_with (verb_of e) (recorded_fields e) ≡ said_by e
said_with-recorded_fields (recorded.World e) = said_in e
said_with-recorded_fields (recorded.Watch c view) = refl
said_with-recorded_fields (recorded.Query c type where') = refl

-- two events that say the same are the same
same_said : (a b : RecordedEvent) → said_by a ≡ said_by b → IsSame a b
same_said (recorded.World a) (recorded.World b) is = let same : a ≡ b = cc in same
same_said (recorded.World a) (recorded.Watch d view) is = cc
same_said (recorded.World a) (recorded.Query d type where') is = cc
same_said (recorded.Watch c view) (recorded.World b) is = cc
same_said (recorded.Watch c view) (recorded.Watch d other) is = (
  let clients : c ≡ d = cc in clients,
  one_view view other (let views : view_data view ≡ view_data other = cc in views),
)
same_said (recorded.Watch c view) (recorded.Query d type where') is = cc
same_said (recorded.Query c type where') (recorded.World b) is = cc
same_said (recorded.Query c type where') (recorded.Watch d view) is = cc
same_said (recorded.Query c type where') (recorded.Query d other query') is = (
  let clients : c ≡ d = cc in clients,
  let types : type ≡ other = cc in types,
  ask_the_same where' query' (let queries : query_data where' ≡ query_data query' = cc in queries),
)

pub one_event : (a b : RecordedEvent) → recorded_val a ≡ recorded_val b → IsSame a b
one_event a b is =
    let fields = same_map (recorded_fields a) (recorded_fields b) is in
    let verbs = some_one (verb_of a) (verb_of b) (sym (says a) ∙ ap word_in is ∙ says b) in
    same_said a b (sym (said_with-recorded_fields a) ∙ (λ i. said_with (verbs i) (fields i)) ∙ said_with-recorded_fields b)

pub one_header : (a b : Header) → header_val a ≡ header_val b → a ≡ b
one_header a b is =
    let fields = same_map (header_fields a) (header_fields b) is in
    λ i. record { version = number_in (second (fields i)) }

no_unknown : (d : Data) (e : RecordedEvent) → d ≡ recorded_val e → ¬ IsUnknown d
no_unknown d e is u =
    let it : Some u.0 ≡ Some (word_of (verb_of e)) = sym u.1 ∙ ap word_in is ∙ says e in
    u.2 (verb_of e) (let same : u.0 ≡ word_of (verb_of e) = cc in same)

pub reads_event : (line : List ℕ) (r : Result RecordedEvent LineFault) → IfOk r (IsEvent line) → IfErr r (RefusesLine line)
    → (e : RecordedEvent) → IsEvent line e → MatchResult r (λ x. IsSame x e) (λ f. f ≡ line_fault.OutOfMemory)
reads_event line (Ok x) found refused e is = one_event x e (one_ok _ _ _ found.0.1 is.0.1)
reads_event line (Err line_fault.LineTooLong) found refused e is = le_lt_absurd _ _ is.0.0 refused
reads_event line (Err (line_fault.Val f)) found refused e is = ok_not_err _ _ _ is.0.1 refused.1
reads_event line (Err line_fault.NoHeader) found refused e is = absurd refused
reads_event line (Err line_fault.UnknownEvent) found refused e is = absurd (no_unknown refused.0 e (one_ok _ _ _ refused.1.1 is.0.1) refused.2)
reads_event line (Err line_fault.Field) found refused e is = absurd (refused.3 e is.1 (one_ok _ _ _ refused.1.1 is.0.1))
reads_event line (Err line_fault.OutOfMemory) found refused e is = refl

pub reads_header : (line : List ℕ) (r : Result Header LineFault) → IfOk r (IsHeader line) → IfErr r (RefusesHeader line)
    → (h : Header) → IsHeader line h → MatchResult r (λ x. x ≡ h) (λ f. f ≡ line_fault.OutOfMemory)
reads_header line (Ok x) found refused h is = one_header x h (one_ok _ _ _ found.0.1 is.0.1)
reads_header line (Err line_fault.LineTooLong) found refused h is = le_lt_absurd _ _ is.0.0 refused
reads_header line (Err (line_fault.Val f)) found refused h is = ok_not_err _ _ _ is.0.1 refused.1
reads_header line (Err line_fault.NoHeader) found refused h is = absurd (refused.2 h is.1 (one_ok _ _ _ refused.1.1 is.0.1))
reads_header line (Err line_fault.UnknownEvent) found refused h is = absurd refused
reads_header line (Err line_fault.Field) found refused h is = absurd refused
reads_header line (Err line_fault.OutOfMemory) found refused h is = refl
