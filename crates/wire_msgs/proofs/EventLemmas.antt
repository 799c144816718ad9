-- Which event has which fields, and which list of values is that of no events.
use Rattle.std.proofs.Common.{◌≡◌, ℕ, zero, suc, ◌+◌, ◌<◌, ℤ, List, [], ◌∷◌, ◌++◌, length, get_or, take, refl, sym, ap, subst, ◌∙◌, arith}
use Rattle.std.proofs.lemmas.List.{map-append, take_more}
use Rattle.std.specs.Prelude as std
use Rattle.rooms_val.specs.Data.{Data, Pairs, null, list, map, members_of, items_of, list_of}
use Rattle.rooms_val.proofs.DataLemmas.{list_of-items_of, items_view-push}
use Rattle.rooms_val.specs.declared.val.Val.TheVariants as val
use Rattle.rooms_val.specs.View.{data_of, items_view, pairs_view}
use Rattle.rooms_val.specs.declared.val.Val.{Val}
use Rattle.field_ops.specs.RecordOps.{RecordOps, IsSoundDiff}
use Rattle.field_ops.proofs.WireLemmas.{same_map}
use Rattle.sync_msgs.specs.declared.data_event.Action.{Action}
use Rattle.sync_msgs.specs.declared.data_event.Action.TheVariants as action
use Rattle.sync_msgs.specs.declared.data_event.DataEvent.{DataEvent}
use Rattle.sync_msgs.specs.declared.data_event.DataEvent.TheVariants as event
use Rattle.wire_msgs.specs.Events.{action_val, rebase_fields, event_fields, event_val, IsProperAction, IsProperEvent, AreProperEvents}

-- a map that doesn't name a diff alone is no action
pub no_rebase : (ps : Pairs) → ((diff : RecordOps) → IsSoundDiff diff → ¬ (ps ≡ rebase_fields diff))
    → (a : Action) → IsProperAction a → ¬ (map (members_of ps) ≡ action_val a)
no_rebase ps none action.Commit proper is = cc
no_rebase ps none action.Discard proper is = cc
no_rebase ps none (action.Rebase diff) proper is = none diff proper (same_map ps (rebase_fields diff) is)

-- three fields that are those of no patch are those of no event
pub three : (es : List (List ℕ × Val)) → length es ≡ 3
    → ((diff : RecordOps) (clock : ℤ) → IsProperEvent (event.Patch diff clock) → ¬ (pairs_view es ≡ event_fields (event.Patch diff clock)))
    → (e : DataEvent) → IsProperEvent e → ¬ (pairs_view es ≡ event_fields e)
three es count none (event.Patch diff clock) proper is = none diff clock proper is
three [] count none (event.PushResult push clock done) proper is = absurd (omega arith)
three (a ∷ []) count none (event.PushResult push clock done) proper is = absurd (omega arith)
three (a ∷ b ∷ []) count none (event.PushResult push clock done) proper is = absurd (omega arith)
three (a ∷ b ∷ c ∷ []) count none (event.PushResult push clock done) proper is = cc
three (a ∷ b ∷ c ∷ d ∷ es) count none (event.PushResult push clock done) proper is = absurd (omega arith)

-- other fields that are those of no answer to a push are those of no event
pub not_three : (es : List (List ℕ × Val)) → ¬ (length es ≡ 3)
    → ((push clock : ℤ) (done : Action) → IsProperEvent (event.PushResult push clock done) → ¬ (pairs_view es ≡ event_fields (event.PushResult push clock done)))
    → (e : DataEvent) → IsProperEvent e → ¬ (pairs_view es ≡ event_fields e)
not_three es count none (event.PushResult push clock done) proper is = none push clock done proper is
not_three [] count none (event.Patch diff clock) proper is = cc
not_three (a ∷ []) count none (event.Patch diff clock) proper is = cc
not_three (a ∷ b ∷ []) count none (event.Patch diff clock) proper is = cc
not_three (a ∷ b ∷ c ∷ []) count none (event.Patch diff clock) proper is = count refl
not_three (a ∷ b ∷ c ∷ d ∷ es) count none (event.Patch diff clock) proper is = cc

abbrev first_of : List Data → Data
first_of [] = null
first_of (d ∷ ds) = d

abbrev later_of : List Data → List Data
later_of [] = []
later_of (d ∷ ds) = ds

-- a list with a value that is no event is that of no events
pub no_events : (s : List Val) (i : ℕ) (x : Val) → i < length s → x ≡ get_or s i x → ((e : DataEvent) → IsProperEvent e → ¬ (data_of x ≡ event_val e))
    → (events : List DataEvent) → AreProperEvents events → ¬ (items_view s ≡ std.map event_val events)
no_events [] i x within here none events proper is = absurd (omega arith)
no_events (y ∷ s) i x within here none [] proper is = cc
no_events (y ∷ s) zero x within here none (e ∷ events) proper is = none e proper.0 (ap data_of here ∙ ap first_of is)
no_events (y ∷ s) (suc i) x within here none (e ∷ events) proper is = no_events s i x (omega arith) here none events proper.1 (ap later_of is)

-- a list that is a value is that of its items alone
pub one_items : (a b : List Data) (v : Val) → v ≡ val.List a → data_of v ≡ list (items_of b) → a ≡ b
one_items a b v v_is is =
    let it : list (items_of a) ≡ list (items_of b) = sym (ap data_of v_is) ∙ is in
    let same : items_of a ≡ items_of b = cc in
    sym (list_of-items_of a) ∙ ap list_of same ∙ list_of-items_of b

-- a further value that is an event is that of a further event
pub further : (s : List Val) (i : ℕ) (x : Val) (events next : List DataEvent) (e : DataEvent) → i < length s → x ≡ get_or s i x
    → items_view (take i s) ≡ std.map event_val events → data_of x ≡ event_val e → next ≡ events ++ e ∷ []
    → items_view (take (i + 1) s) ≡ std.map event_val next
further s i x events next e within here so_far is next_is =
    ap items_view (take_more s i x within ∙ ap (λ y. take i s ++ y ∷ []) (sym here))
    ∙ items_view-push (take i s) x
    ∙ (λ j. so_far j ++ is j ∷ [])
    ∙ sym (map-append event_val events (e ∷ []))
    ∙ ap (std.map event_val) (sym next_is)

proper_more : (events : List DataEvent) (e : DataEvent) → AreProperEvents events → IsProperEvent e → AreProperEvents (events ++ e ∷ [])
proper_more [] e all one = (one, tt)
proper_more (x ∷ events) e all one = (all.0, proper_more events e all.1 one)

pub proper_further : (events next : List DataEvent) (e : DataEvent) → AreProperEvents events → IsProperEvent e → next ≡ events ++ e ∷ [] → AreProperEvents next
proper_further events next e all one is = subst AreProperEvents (sym is) (proper_more events e all one)
