-- Which verb an event's value says, and which values are those of no event.
use Rattle.std.proofs.Common.{◌≡◌, ℕ, List, if◌then◌else◌, codes, Some, None, option_and_then, Result, Ok, Err, IfErr, IsErrAnd, refl, sym, ap, subst, ◌∙◌}
use Rattle.std.specs.Str.{bytes_eq}
use Rattle.rooms_val.specs.Data.{Data, Pairs, map, members_of}
use Rattle.rooms_val.specs.Maps.{value_at}
use Rattle.rooms_val.proofs.DataLemmas.{pairs_of-members_of}
use Rattle.field_ops.proofs.WireLemmas.{same_map}
use Rattle.room_model.specs.declared.event.Event.{Event}
use Rattle.room_model.specs.declared.event.Event.TheVariants as event
use Rattle.rec_format.specs.Events.{event_fields, event_val, IsProper}
use Rattle.rec_format.specs.Recorded.{recorded_fields, recorded_val, IsProperRecorded}
use Rattle.rec_format.specs.Lines.{text_in, word_in, IsUnknown, IsNoEvent, RefusesVal}
use Rattle.rec_format.specs.Rows.{IsOfNoEvent, RefusesRow}
use Rattle.rec_format.specs.Verbs.{word_of}
use Rattle.rec_format.specs.declared.fault.LineFault.{LineFault}
use Rattle.rec_format.specs.declared.fault.LineFault.TheVariants as line_fault
use Rattle.rec_format.specs.declared.recorded.RecordedEvent.{RecordedEvent}
use Rattle.rec_format.specs.declared.recorded.RecordedEvent.TheVariants as recorded
use Rattle.rec_format.specs.declared.verb.Verb.{Verb}
use Rattle.rec_format.specs.declared.verb.Verb.TheVariants as verb

abbrev verb_of_event : Event → Verb
verb_of_event (event.Client v) = verb.Client
verb_of_event (event.Connect c readonly) = verb.Connect
verb_of_event (event.Edit c diff) = verb.Edit
verb_of_event (event.Presence c r) = verb.Presence
verb_of_event (event.Mark c name) = verb.Mark
verb_of_event (event.Undo c) = verb.Undo
verb_of_event (event.Redo c) = verb.Redo
verb_of_event (event.Bail c name) = verb.Bail
verb_of_event (event.Copy c ids) = verb.Copy
verb_of_event (event.Paste c dx dy parent prefix) = verb.Paste
verb_of_event (event.Handle s) = verb.Handle
verb_of_event (event.Send s) = verb.Send
verb_of_event (event.Deliver c) = verb.Deliver
verb_of_event (event.Cut c) = verb.Cut
verb_of_event (event.Lose s) = verb.Lose
verb_of_event (event.Show c) = verb.Show
verb_of_event event.End = verb.End

abbrev pub verb_of : RecordedEvent → Verb
verb_of (recorded.World e) = verb_of_event e
verb_of (recorded.Watch c view) = verb.Watch
verb_of (recorded.Query c type query) = verb.Query

-- each event's value says its verb
says_event : (e : Event) → word_in (event_val e) ≡ Some (word_of (verb_of_event e))
says_event (event.Client v) = refl
says_event (event.Connect c readonly) = refl
says_event (event.Edit c diff) = refl
says_event (event.Presence c r) = refl
says_event (event.Mark c name) = refl
says_event (event.Undo c) = refl
says_event (event.Redo c) = refl
says_event (event.Bail c name) = refl
says_event (event.Copy c ids) = refl
says_event (event.Paste c dx dy parent prefix) = refl
says_event (event.Handle s) = refl
says_event (event.Send s) = refl
says_event (event.Deliver c) = refl
says_event (event.Cut c) = refl
says_event (event.Lose s) = refl
says_event (event.Show c) = refl
says_event event.End = refl

pub says : (e : RecordedEvent) → word_in (recorded_val e) ≡ Some (word_of (verb_of e))
says (recorded.World e) = says_event e
says (recorded.Watch c view) = refl
says (recorded.Query c type query) = refl

-- the verb of a word; `end` where it has none
abbrev named : List ℕ → Verb
named word =
    if bytes_eq word (codes "client") then verb.Client
    else if bytes_eq word (codes "connect") then verb.Connect
    else if bytes_eq word (codes "edit") then verb.Edit
    else if bytes_eq word (codes "presence") then verb.Presence
    else if bytes_eq word (codes "mark") then verb.Mark
    else if bytes_eq word (codes "undo") then verb.Undo
    else if bytes_eq word (codes "redo") then verb.Redo
    else if bytes_eq word (codes "bail") then verb.Bail
    else if bytes_eq word (codes "copy") then verb.Copy
    else if bytes_eq word (codes "paste") then verb.Paste
    else if bytes_eq word (codes "handle") then verb.Handle
    else if bytes_eq word (codes "send") then verb.Send
    else if bytes_eq word (codes "deliver") then verb.Deliver
    else if bytes_eq word (codes "cut") then verb.Cut
    else if bytes_eq word (codes "lose") then verb.Lose
    else if bytes_eq word (codes "watch") then verb.Watch
    else if bytes_eq word (codes "query") then verb.Query
    else if bytes_eq word (codes "show") then verb.Show
    else verb.End

named-word_of : (v : Verb) → named (word_of v) ≡ v
named-word_of verb.Client = refl
named-word_of verb.Connect = refl
named-word_of verb.Edit = refl
named-word_of verb.Presence = refl
named-word_of verb.Mark = refl
named-word_of verb.Undo = refl
named-word_of verb.Redo = refl
named-word_of verb.Bail = refl
named-word_of verb.Copy = refl
named-word_of verb.Paste = refl
named-word_of verb.Handle = refl
named-word_of verb.Send = refl
named-word_of verb.Deliver = refl
named-word_of verb.Cut = refl
named-word_of verb.Lose = refl
named-word_of verb.Watch = refl
named-word_of verb.Query = refl
named-word_of verb.Show = refl
named-word_of verb.End = refl

-- two verbs have two words
pub one_word : (v w : Verb) → word_of v ≡ word_of w → v ≡ w
one_word v w is = sym (named-word_of v) ∙ ap named is ∙ named-word_of w

-- fields that are those of no event of the verb aren't those of an event that has it
none_of_event : (ps : Pairs) (e : Event) → IsOfNoEvent (verb_of_event e) ps → IsProper e → ¬ (ps ≡ event_fields e)
none_of_event ps (event.Client v) none proper is = none v proper is
none_of_event ps (event.Connect c readonly) none proper is = none c readonly is
none_of_event ps (event.Edit c diff) none proper is = none c diff proper is
none_of_event ps (event.Presence c r) none proper is = none c r is
none_of_event ps (event.Mark c name) none proper is = none c name is
none_of_event ps (event.Undo c) none proper is = none c is
none_of_event ps (event.Redo c) none proper is = none c is
none_of_event ps (event.Bail c name) none proper is = none c name is
none_of_event ps (event.Copy c ids) none proper is = none c ids is
none_of_event ps (event.Paste c dx dy parent prefix) none proper is = none c dx dy parent prefix proper is
none_of_event ps (event.Handle s) none proper is = none s is
none_of_event ps (event.Send s) none proper is = none s is
none_of_event ps (event.Deliver c) none proper is = none c is
none_of_event ps (event.Cut c) none proper is = none c is
none_of_event ps (event.Lose s) none proper is = none s is
none_of_event ps (event.Show c) none proper is = none c is
none_of_event ps event.End none proper is = none is

none_of : (ps : Pairs) (e : RecordedEvent) → IsOfNoEvent (verb_of e) ps → IsProperRecorded e → ¬ (ps ≡ recorded_fields e)
none_of ps (recorded.World e) none proper is = none_of_event ps e none proper is
none_of ps (recorded.Watch c view) none proper is = none c view is
none_of ps (recorded.Query c type query) none proper is = none c type query is

-- what a map says to do is the text under `do`
pub says_in : (ps : Pairs) → word_in (map (members_of ps)) ≡ option_and_then text_in (value_at ps (codes "do"))
says_in ps = ap (λ q. option_and_then text_in (value_at q (codes "do"))) (pairs_of-members_of ps)

-- a value that doesn't say what to do is that of no event
pub says_nothing : (d : Data) → word_in d ≡ None → (¬ IsUnknown d) × IsNoEvent d
says_nothing d none = (
  λ u. let it : Some u.0 ≡ None = sym u.1 ∙ none in cc,
  λ e proper is. let it : Some (word_of (verb_of e)) ≡ None = sym (says e) ∙ sym (ap word_in is) ∙ none in cc,
)

pub some_one : (v w : Verb) → Some (word_of v) ≡ Some (word_of w) → v ≡ w
some_one v w is = one_word v w (let same : word_of v ≡ word_of w = cc in same)

-- a map that says a verb, and isn't one of its events, is that of none
says_no_event : (ps : Pairs) (v : Verb) → word_in (map (members_of ps)) ≡ Some (word_of v) → IsOfNoEvent v ps
    → (¬ IsUnknown (map (members_of ps))) × IsNoEvent (map (members_of ps))
says_no_event ps v says_v none = (
  λ u. u.2 v (let same : u.0 ≡ word_of v = (let it : Some u.0 ≡ Some (word_of v) = sym u.1 ∙ says_v in cc) in same),
  λ e proper is.
      let it : v ≡ verb_of e = some_one v (verb_of e) (sym says_v ∙ ap word_in is ∙ says e) in
      none_of ps e (subst (λ w. IsOfNoEvent w ps) it none) proper (same_map ps (recorded_fields e) is),
)

refuses : (ps : Pairs) (v : Verb) (f : LineFault) → word_in (map (members_of ps)) ≡ Some (word_of v) → RefusesRow (IsOfNoEvent v ps) f
    → RefusesVal (map (members_of ps)) f
refuses ps v line_fault.LineTooLong is none = none
refuses ps v (line_fault.Val fault) is none = none
refuses ps v line_fault.NoHeader is none = none
refuses ps v line_fault.UnknownEvent is none = absurd none
refuses ps v line_fault.Field is none = says_no_event ps v is none
refuses ps v line_fault.OutOfMemory is none = none

-- what refuses the fields of a verb refuses the value
pub refuses_val : {T : Type 0} (r : Result T LineFault) (ps : Pairs) (v : Verb) (f : LineFault)
    → word_in (map (members_of ps)) ≡ Some (word_of v) → IsErrAnd r (λ g. g ≡ f) → RefusesRow (IsOfNoEvent v ps) f
    → IfErr r (RefusesVal (map (members_of ps)))
refuses_val (Ok x) ps v f says_v is none = tt
refuses_val (Err g) ps v f says_v is none = subst (RefusesVal (map (members_of ps))) (sym is) (refuses ps v f says_v none)
