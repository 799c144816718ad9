-- What is wrong with events, one after the other.
use Rattle.std.proofs.Common.{◌≡◌, ◌≤◌, ◌+◌, ◌-◌, ℕ, zero, suc, ℤ, pos, Bool, cond, List, [], ◌∷◌, ◌++◌, length, drop, zero-add, Option, Some, None, option_map, refl, ap, subst, ◌∙◌, arith}
use Rattle.std.specs.Prelude.{sum_by}
use Rattle.std.proofs.lemmas.List.Sums.{sum_by-append}
use Rattle.std.proofs.lemmas.List.{drop-drop}
use Rattle.std.proofs.lemmas.Bool.Decides.{Decides-eqb}
use Rattle.std.proofs.lemmas.Option.{same_Some}
use Rattle.std.specs.Option.{option_map_or, option_or}
use Rattle.sync_msgs.specs.declared.data_event.DataEvent.{DataEvent}
use Rattle.sync_msgs.specs.declared.data_event.DataEvent.TheVariants.{Patch, PushResult}
use Rattle.room_model.specs.Replicas.{Work, Pending}
use Rattle.client_replica.specs.Works.{ended_by}
use Rattle.sync_client.specs.declared.fault.TakeFault.{TakeFault}
use Rattle.sync_client.specs.declared.fault.TakeFault.TheVariants.{NoPending, WrongPending}
use Rattle.sync_client.specs.Numbers.{numbered, expected}
use Rattle.sync_client.specs.Faults.{first_number, number_fault, event_fault, events_fault, clock_of, pending_after}
use Rattle.sync_client.proofs.NumberLemmas.{numbered-drop, number-numbered}

left_after : (items : List Pending) (k : ℕ) (event : DataEvent) → pending_after (drop k items) event ≡ drop (k + ended_by event) items
left_after items k (Patch diff clock) = ap (λ n. drop n items) (let it : k ≡ k + 0 = omega arith in it)
left_after items k (PushResult number clock action) = drop-drop 1 k items

-- the number that is expected is at no fault
pub number-expected : (o : Option ℕ) (number : ℤ) → option_map pos o ≡ Some number → option_map_or (number_fault number) o (Some (NoPending number)) ≡ None
number-expected None number is = absurd (cc)
number-expected (Some n) number is =
    subst (λ z. number_fault z n ≡ None) (same_Some (pos n) number is) (ap (λ (b : Bool). cond {A = Option TakeFault} b None (Some (WrongPending (pos n) (pos n)))) ((Decides-eqb n n).1 refl))

-- an event without fault leaves the others
pub fault-next : (items : List Pending) (k : ℕ) (reached : ℤ) (n : Option ℕ) (event : DataEvent) (events : List DataEvent) → first_number (drop k items) ≡ n → event_fault n reached event ≡ None
    → events_fault (drop k items) reached (event ∷ events) ≡ events_fault (drop (k + ended_by event) items) (clock_of event) events
fault-next items k reached n event events number none =
    (λ i. option_or (event_fault (number i) reached event) (events_fault (left_after items k event i) (clock_of event) events))
    ∙ ap (λ o. option_or o (events_fault (drop (k + ended_by event) items) (clock_of event) events)) none

-- the first event at fault decides
pub fault-here : (items : List Pending) (k : ℕ) (reached : ℤ) (n : Option ℕ) (event : DataEvent) (events : List DataEvent) (fault : TakeFault) → first_number (drop k items) ≡ n → event_fault n reached event ≡ Some fault
    → events_fault (drop k items) reached (event ∷ events) ≡ Some fault
fault-here items k reached n event events fault number some =
    (λ i. option_or (event_fault (number i) reached event) (events_fault (pending_after (drop k items) event) (clock_of event) events))
    ∙ ap (λ o. option_or o (events_fault (pending_after (drop k items) event) (clock_of event) events)) some

expected-left : (first sent k left : ℕ) → left + k ≡ sent → expected (first + k) left 0 ≡ expected first sent k
expected-left first sent k left is = grind arith

length-left : {X : Type 0} (k : ℕ) (xs : List X) (left : ℕ) → left + k ≤ length xs → left ≤ length (drop k xs)
length-left zero xs left within = omega arith
length-left (suc k) [] left within = omega arith
length-left (suc k) (x ∷ xs) left within = length-left k xs left (omega arith)

-- the number of the first item that is left
pub number-left : (first sent k : ℕ) (works : List Work) → k ≤ sent → sent ≤ length works → first_number (drop k (numbered first sent works)) ≡ expected first sent k
number-left first sent k works some within =
    let left = sent - k in
    let is : left + k ≡ sent = omega arith in
    ap first_number (numbered-drop first sent k works left is)
    ∙ number-numbered (first + k) left (drop k works) (length-left k works left (omega arith))
    ∙ expected-left first sent k left is

-- one event more
pub ended_more : (events : List DataEvent) (event : DataEvent) → sum_by ended_by (events ++ event ∷ []) ≡ sum_by ended_by events + ended_by event
ended_more events event = sum_by-append ended_by events (event ∷ []) ∙ ap (λ n. sum_by ended_by events + n) (zero-add (ended_by event))
