-- Each line is a header's or is refused as one, and an event's or is refused as one, with a text.
use Rattle.std.proofs.Common.{◌≡◌, ℕ, zero, suc, ◌<◌, ◌≤◌, Bool, true, false, List, [], ◌∷◌, length, ◌⊎◌, inl, inr, if◌then◌else◌, codes, not, nat_lt, Option, Some, None, Result, Ok, Err, IfErr, refl, sym, ap, subst, ◌∙◌}
use Rattle.std.proofs.lemmas.Bool.{cases_lt}
use Rattle.std.proofs.lemmas.Slice.Eq.{bytes_eq-Decides}
use Rattle.std.specs.Option.{ok_or}
use Rattle.std.specs.Prelude.{ℤ, pos, neg_ℤ, IsTrue, IsSomeAnd, Contains}
use Rattle.std.specs.Str.{bytes_eq, is_utf8}
use Rattle.serde_json.specs.Data as json
use Rattle.serde_json.specs.Read.{read}
use Rattle.serde_json.specs.Written.{has_float}
use Rattle.rooms_val.specs.Data as data'
use Rattle.rooms_val.specs.Data.{Data, Items, Pairs, null, pairs_of}
use Rattle.rooms_val.specs.Json.{value_of, value_in, checked_if_read, is_within, deepest, greatest_whole}
use Rattle.rooms_val.specs.View.{val_of}
use Rattle.rooms_val.specs.declared.fault.ValFault.{ValFault}
use Rattle.rooms_val.specs.declared.fault.ValFault.TheVariants as val
use Rattle.rooms_val.proofs.DataLemmas.{pairs_of-members_of, val_of-data_of}
use Rattle.field_ops.specs.RecordOps.{RecordOps}
use Rattle.field_ops.specs.WireRecordOps.{change_in, diff_pairs}
use Rattle.record_valid.specs.Ids.{type_part}
use Rattle.room_model.specs.Clips.{is_prefix}
use Rattle.room_model.specs.declared.event.Event.{Event}
use Rattle.room_model.specs.declared.event.Event.TheVariants as event
use Rattle.room_model.specs.declared.event.Header.{Header}
use Rattle.tl_tables.specs.Tables.{IsVersion}
use Rattle.tl_tables.specs.declared.tables.TheConstants.{NEWEST_VERSION}
use Rattle.rec_format.specs.Events.{client_is, does, header_val, IsMove, IsParentId}
use Rattle.rec_format.specs.Lines.{IsEvent, IsHeader, IsNoEvent, IsUnknown, word_in}
use Rattle.rec_format.specs.Recorded.{recorded_fields, recorded_val, IsProperRecorded}
use Rattle.rec_format.specs.Verbs.{word_of}
use Rattle.rec_format.specs.declared.fault.LineFault.TheVariants as line_fault
use Rattle.rec_format.specs.declared.read.TheConstants.{LONGEST_LINE}
use Rattle.rec_format.specs.declared.recorded.RecordedEvent.{RecordedEvent}
use Rattle.rec_format.specs.declared.recorded.RecordedEvent.TheVariants as recorded
use Rattle.rec_format.specs.declared.verb.Verb.{Verb}
use Rattle.rec_format.specs.declared.verb.Verb.TheVariants as verb
use Rattle.rec_format.proofs.EventLemmas.{verb_of, says, says_nothing, some_one}
use Rattle.rec_format.proofs.OneEachLemmas.{texts_in-ids_data as texts_again, changes_in-diff_pairs as changes_again}
use Rattle.fault_texts.specs.Texts.{val_fault_text}
use Rattle.replay_job.specs.Taking.{IsRefusedHeader, IsRefusedEvent}
use Rattle.replay_job.proofs.DecideLemmas.{Decided, decide_both, decide_at_most, decide_true, decide_int_at_most, decide_contains, decide_same, decide_diff}
use Rattle.replay_job.proofs.AskedLemmas.{query_in, query_again, view_in, view_again}

abbrev pairs_in : Data → Pairs
pairs_in (data'.map ms) = pairs_of ms
pairs_in d = []

-- the value in a place
abbrev at : ℕ → Pairs → Data
at n [] = null
at zero (p ∷ ps) = p.1
at (suc n) (p ∷ ps) = at n ps

abbrev number_in : Data → ℕ
number_in (data'.whole (pos n)) = n
number_in d = 0

abbrev text_in : Data → List ℕ
text_in (data'.text t) = t
text_in d = []

abbrev whole_in : Data → ℤ
whole_in (data'.whole z) = z
whole_in d = pos 0

abbrev each_text : Items → List (List ℕ)
each_text data'.no_items = []
each_text (data'.item d ds) = text_in d ∷ each_text ds

abbrev texts_in : Data → List (List ℕ)
texts_in (data'.list ds) = each_text ds
texts_in d = []

abbrev truth_in : Data → Bool
truth_in (data'.boolean b) = b
truth_in d = false

abbrev changes_in : Pairs → RecordOps
changes_in [] = []
changes_in (p ∷ ps) = (p.0, change_in p.1) ∷ changes_in ps

-- the event of a verb that has these fields, where one has them
abbrev event_with : Verb → Pairs → RecordedEvent
event_with verb.Client ps = recorded.World (event.Client (number_in (at 1 ps)))
event_with verb.Connect ps = recorded.World (event.Connect (number_in (at 0 ps)) (truth_in (at 2 ps)))
event_with verb.Edit ps = recorded.World (event.Edit (number_in (at 0 ps)) (changes_in (pairs_in (at 1 ps))))
event_with verb.Presence ps = recorded.World (event.Presence (number_in (at 0 ps)) (val_of (at 2 ps)))
event_with verb.Mark ps = recorded.World (event.Mark (number_in (at 0 ps)) (text_in (at 2 ps)))
event_with verb.Undo ps = recorded.World (event.Undo (number_in (at 0 ps)))
event_with verb.Redo ps = recorded.World (event.Redo (number_in (at 0 ps)))
event_with verb.Bail ps = recorded.World (event.Bail (number_in (at 0 ps)) (text_in (at 2 ps)))
event_with verb.Copy ps = recorded.World (event.Copy (number_in (at 0 ps)) (texts_in (at 2 ps)))
event_with verb.Paste ps = recorded.World (event.Paste (number_in (at 0 ps)) (whole_in (at 2 ps)) (whole_in (at 3 ps)) (text_in (at 4 ps)) (text_in (at 5 ps)))
event_with verb.Handle ps = recorded.World (event.Handle (number_in (at 1 ps)))
event_with verb.Send ps = recorded.World (event.Send (number_in (at 1 ps)))
event_with verb.Deliver ps = recorded.World (event.Deliver (number_in (at 0 ps)))
event_with verb.Cut ps = recorded.World (event.Cut (number_in (at 0 ps)))
event_with verb.Lose ps = recorded.World (event.Lose (number_in (at 1 ps)))
event_with verb.Watch ps = recorded.Watch (number_in (at 0 ps)) (view_in (at 2 ps))
event_with verb.Query ps = recorded.Query (number_in (at 0 ps)) (text_in (at 2 ps)) (query_in (at 3 ps))
event_with verb.Show ps = recorded.World (event.Show (number_in (at 0 ps)))
event_with verb.End ps = recorded.World event.End

abbrev of_its_fields : RecordedEvent → RecordedEvent
of_its_fields e = event_with (verb_of e) (recorded_fields e)

world_again : (e : Event) → of_its_fields (recorded.World e) ≡ recorded.World e
world_again (event.Edit c diff) = ap (λ cs. recorded.World (event.Edit c cs)) (ap changes_in (pairs_of-members_of (diff_pairs diff)) ∙ changes_again diff)
world_again (event.Presence c r) = ap (λ x. recorded.World (event.Presence c x)) (val_of-data_of r)
world_again (event.Copy c ids) = ap (λ texts. recorded.World (event.Copy c texts)) (texts_again ids)
world_again e = refl

-- it has the value of that one, and is proper if that one is
event_again : (e : RecordedEvent) → (recorded_val (of_its_fields e) ≡ recorded_val e) × (IsProperRecorded e → IsProperRecorded (of_its_fields e))
event_again (recorded.World e) = (ap recorded_val (world_again e), subst IsProperRecorded (sym (world_again e)))
event_again (recorded.Watch c view) =
    (ap (λ d. data'.map (data'.members_of (client_is c ∷ does verb.Watch ∷ (codes "view", d) ∷ []))) (view_again view), λ proper. tt)
event_again (recorded.Query c type query) =
    (ap (λ d. data'.map (data'.members_of (client_is c ∷ does verb.Query ∷ (codes "type", data'.text type) ∷ (codes "where", d) ∷ []))) (query_again query), λ proper. tt)

decide_version : (version : ℕ) → Decided (IsVersion version)
decide_version version = decide_both (decide_at_most 1 version) (decide_at_most version NEWEST_VERSION)

decide_move : (z : ℤ) → Decided (IsMove z)
decide_move z = decide_both (decide_int_at_most (neg_ℤ (pos greatest_whole)) z) (decide_int_at_most z (pos greatest_whole))

decide_parent : (id : List ℕ) → Decided (IsParentId id)
decide_parent id = by (type_part id)
  where
    by : (o : Option (List ℕ)) → Decided (IsSomeAnd o (Contains (codes "page" ∷ codes "shape" ∷ [])))
    by None = inr (λ h. h)
    by (Some name) = decide_contains (codes "page" ∷ codes "shape" ∷ []) name

decide_paste : (dx dy : ℤ) (parent prefix : List ℕ) → Decided (IsMove dx × IsMove dy × IsParentId parent × IsTrue (is_prefix prefix))
decide_paste dx dy parent prefix = elim (decide_both (decide_both (decide_move dx) (decide_move dy)) (decide_both (decide_parent parent) (decide_true (is_prefix prefix)))) [
  | inl h ↦ inl (h.0.0, h.0.1, h.1.0, h.1.1)
  | inr none ↦ inr (λ h. none ((h.0, h.1), (h.2, h.3)))
]

decide_proper : (e : RecordedEvent) → Decided (IsProperRecorded e)
decide_proper (recorded.World (event.Client version)) = decide_version version
decide_proper (recorded.World (event.Edit c diff)) = decide_diff diff
decide_proper (recorded.World (event.Paste c dx dy parent prefix)) = decide_paste dx dy parent prefix
decide_proper e = inl tt

-- a value that says a verb is that of an event, or of none
found_event : (d : Data) (v : Verb) → word_in d ≡ Some (word_of v) → ((e : RecordedEvent) × IsProperRecorded e × (d ≡ recorded_val e)) ⊎ IsNoEvent d
found_event d v says_v = elim (decide_both (decide_proper given) (decide_same d (recorded_val given))) [
  | inl is ↦ inl (given, is.0, is.1)
  | inr none ↦ inr (λ e proper is. none (subst IsProperRecorded (sym (same e is)) ((event_again e).1 proper), is ∙ sym ((event_again e).0) ∙ ap recorded_val (sym (same e is))))
]
  where
    given : RecordedEvent
    given = event_with v (pairs_in d)

    same : (e : RecordedEvent) → d ≡ recorded_val e → event_with v (pairs_in d) ≡ of_its_fields e
    same e is =
        let verbs = some_one v (verb_of e) (sym says_v ∙ ap word_in is ∙ says e) in
        let fields : pairs_in d ≡ recorded_fields e = ap pairs_in is ∙ pairs_of-members_of (recorded_fields e) in
        λ i. event_with (verbs i) (fields i)

-- the first of some verbs that has the word
abbrev named : List Verb → List ℕ → Verb
named [] word = verb.End
named (v ∷ vs) word = if bytes_eq word (word_of v) then v else named vs word

abbrev verb_named : List ℕ → Verb
verb_named =
    named (verb.Client ∷ verb.Connect ∷ verb.Edit ∷ verb.Presence ∷ verb.Mark ∷ verb.Undo ∷ verb.Redo ∷ verb.Bail ∷ verb.Copy ∷ verb.Paste
    ∷ verb.Handle ∷ verb.Send ∷ verb.Deliver ∷ verb.Cut ∷ verb.Lose ∷ verb.Watch ∷ verb.Query ∷ verb.Show ∷ [])

verb_again : (v : Verb) → verb_named (word_of v) ≡ v
verb_again verb.End = refl
verb_again v = refl

-- a word is that of a verb, or of none
found_verb : (word : List ℕ) → ((v : Verb) × (word ≡ word_of v)) ⊎ ((v : Verb) → ¬ (word ≡ word_of v))
found_verb word = by (bytes_eq word (word_of (verb_named word))) refl
  where
    by : (b : Bool) → bytes_eq word (word_of (verb_named word)) ≡ b → ((v : Verb) × (word ≡ word_of v)) ⊎ ((v : Verb) → ¬ (word ≡ word_of v))
    by true is = inl (verb_named word, (bytes_eq-Decides word (word_of (verb_named word))).0 is)
    by false is = inr (λ v same.
        let again : word ≡ word_of (verb_named word) = same ∙ ap word_of (sym (verb_again v) ∙ ap verb_named (sym same)) in
        let never : false ≡ true = sym is ∙ (bytes_eq-Decides word (word_of (verb_named word))).1 again in cc)

-- what is said of bytes that are no value has a text
abbrev pub ValHasText : ValFault → Type 0
ValHasText f = (text : List ℕ) × (val_fault_text f ≡ Some text)

pub val_texts : (bytes : List ℕ) → IfErr (value_of bytes) ValHasText
val_texts bytes = by (is_utf8 bytes) (read bytes)
  where
    checked_texts : (j : json.Data) (float within deep : Bool) → IfErr (if float then Err val.NotWhole else if not within then Err val.OutOfRange else if deep then Err val.TooDeep else Ok (value_in j)) ValHasText
    checked_texts j true within deep = (_, refl)
    checked_texts j false false deep = (_, refl)
    checked_texts j false true true = (_, refl)
    checked_texts j false true false = tt

    by : (b : Bool) (o : Option json.Data) → IfErr (checked_if_read (if b then ok_or o val.BadJson else Err val.BadJson)) ValHasText
    by true (Some j) = checked_texts j (has_float j) (is_within j) (nat_lt deepest (json.depth j))
    by true None = (_, refl)
    by false o = (_, refl)

module _ (line : List ℕ) where
  -- what follows of a line that is too long, no value or a value
  by_value : {A : Type 0} → (LONGEST_LINE < length line → A)
      → (length line ≤ LONGEST_LINE → (f : ValFault) (text : List ℕ) → value_of line ≡ Err f → val_fault_text f ≡ Some text → A)
      → (length line ≤ LONGEST_LINE → (d : Data) → value_of line ≡ Ok d → A) → A
  by_value {A} long bad good = elim (cases_lt LONGEST_LINE (length line)) [ inl far ↦ long far | inr short ↦ by short (value_of line) refl (val_texts line) ]
    where
      by : length line ≤ LONGEST_LINE → (r : Result Data ValFault) → value_of line ≡ r → IfErr r ValHasText → A
      by short (Ok d) is has = good short d is
      by short (Err f) is has = bad short f has.0 is has.1

  -- it stands for a header, or is refused as one with a text
  abbrev pub AsHeader : Type 0
  AsHeader = ((h : Header) × IsHeader line h) ⊎ ((text : List ℕ) × IsRefusedHeader line text)

  pub found_header : AsHeader
  found_header = by_value (λ long. inr (_, (line_fault.LineTooLong, long, refl))) (λ short f text is has. inr (text, (line_fault.Val f, (short, is), has))) of_value
    where
      of_value : length line ≤ LONGEST_LINE → (d : Data) → value_of line ≡ Ok d → AsHeader
      of_value short d is =
          let given : Header = record { version = number_in (at 1 (pairs_in d)) } in
          elim (decide_both (decide_version given.version) (decide_same d (header_val given))) [
            | inl same ↦ inl (given, ((short, is ∙ ap Ok same.1), same.0))
            | inr none ↦ inr (
              _,
              (
                line_fault.NoHeader,
                (
                  d,
                  (short, is),
                  (λ h known same.
                      let again : given.version ≡ h.version = ap (λ x. number_in (at 1 (pairs_in x))) same in
                      none (subst IsVersion (sym again) known, same ∙ λ i. header_val (record { version = sym again i }))),
                ),
                refl,
              ),
            )
          ]

  -- the same of an event
  abbrev pub AsEvent : Type 0
  AsEvent = ((e : RecordedEvent) × IsEvent line e) ⊎ ((text : List ℕ) × IsRefusedEvent line text)

  pub found_recorded : AsEvent
  found_recorded =
      by_value (λ long. inr (_, (line_fault.LineTooLong, long, refl))) (λ short f text is has. inr (text, (line_fault.Val f, (short, is), has)))
      (λ short d is. of_word short d is (word_in d) refl)
    where
      none_of : length line ≤ LONGEST_LINE → (d : Data) → value_of line ≡ Ok d → ¬ IsUnknown d → IsNoEvent d → AsEvent
      none_of short d is known none = inr (_, (line_fault.Field, (d, (short, is), known, none), refl))

      of_word : length line ≤ LONGEST_LINE → (d : Data) → value_of line ≡ Ok d → (o : Option (List ℕ)) → word_in d ≡ o → AsEvent
      of_word short d is None says_none = none_of short d is (says_nothing d says_none).0 (says_nothing d says_none).1
      of_word short d is (Some word) says_word = elim (found_verb word) [
        | inr none ↦ inr (_, (line_fault.UnknownEvent, (d, (short, is), (word, says_word, none)), refl))
        | inl v ↦
            let says_verb : word_in d ≡ Some (word_of v.0) = says_word ∙ ap Some v.1 in
            let known : ¬ IsUnknown d = λ u. u.2 v.0 (let both : Some u.0 ≡ Some (word_of v.0) = sym u.1 ∙ says_verb in let same : u.0 ≡ word_of v.0 = cc in same) in
            elim (found_event d v.0 says_verb) [
              | inl e ↦ inl (e.0, ((short, is ∙ ap Ok e.2), e.1))
              | inr none ↦ none_of short d is known none
            ]
      ]
