-- Pending works one by one: their diffs, and what events take of them.
use Rattle.std.proofs.Common.{◌≡◌, ◌≤◌, ◌+◌, ℕ, zero, suc, add-one, List, [], ◌∷◌, ◌++◌, length, map, take, drop, Bool, true, false, cond, ◌||◌, Some, option_map, slice_get, zero-add, add-zero, le_refl, refl, sym, ap, subst, ◌∙◌, arith}
use Rattle.std.specs.Prelude.{is_some, filter}
use Rattle.std.proofs.lemmas.List.Sums.{sum_by-cons, sum_by-append}
use Rattle.std.proofs.lemmas.List.Folds.{list_any-append}
use Rattle.rooms_val.proofs.Truths.{or_left, or_right}
use Rattle.rooms_val.specs.Data.{Data, Pairs}
use Rattle.rooms_val.specs.Maps.{value_at}
use Rattle.field_ops.specs.RecordOps.{RecordOps}
use Rattle.doc_model.specs.Documents.{step, replay}
use Rattle.room_model.specs.Replicas.{Work, edit, presence, Pending, diff_in, all_unsent}
use Rattle.room_model.specs.Taking.{first_diff}
use Rattle.sync_msgs.specs.declared.data_event.Action.TheVariants.{Commit, Discard, Rebase}
use Rattle.sync_msgs.specs.declared.data_event.DataEvent.{DataEvent}
use Rattle.sync_msgs.specs.declared.data_event.DataEvent.TheVariants.{Patch, PushResult}
use Rattle.std.proofs.lemmas.List.{drop-map}
use Rattle.client_replica.specs.declared.work.Work as code
use Rattle.client_replica.specs.Works.{work_of, works_in, diffs_in, operations, pushed_diff, event_diff, brought_diff, brought, ended_by, ended, ended_diff}
use Rattle.client_replica.specs.Stashes.{is_named}
use Rattle.client_replica.specs.NewBases.{HasIdsOf}

-- the first of the works from a place on
pub first_left : (items : List Pending) (k : ℕ) → first_diff (drop k items) ≡ pushed_diff (slice_get (works_in items) k)
first_left [] zero = refl
first_left [] (suc k) = refl
first_left (item ∷ items) zero = refl
first_left (item ∷ items) (suc k) = first_left items k

pub at-map : {X Y : Type 0} (f : X → Y) (xs : List X) (k : ℕ) → slice_get (map f xs) k ≡ option_map f (slice_get xs k)
at-map f [] zero = refl
at-map f [] (suc k) = refl
at-map f (x ∷ xs) zero = refl
at-map f (x ∷ xs) (suc k) = at-map f xs k

ops_cons : (work : Work) (works : List Work) → operations (diffs_in (work ∷ works)) ≡ length (pushed_diff (Some work)) + operations (diffs_in works)
ops_cons (edit diff) works = sum_by-cons length diff (diffs_in works)
ops_cons (presence d) works = omega arith

-- the operations from a place on are those of the work there and of what follows it
pub ops_left : (works : List Work) (k : ℕ) → operations (diffs_in (drop k works)) ≡ length (pushed_diff (slice_get works k)) + operations (diffs_in (drop (suc k) works))
ops_left [] zero = refl
ops_left [] (suc k) = refl
ops_left (work ∷ works) zero = ops_cons work works
ops_left (work ∷ works) (suc k) = ops_left works k

ended_cost : (works : List Work) (k e b : ℕ) → e ≤ b + length (pushed_diff (slice_get works k)) → e + operations (diffs_in (drop (k + 1) works)) ≤ b + operations (diffs_in (drop k works))
ended_cost works k e b less = let left = ops_left works k in rw add-one (omega arith)

-- an event that works answer costs no more than it brings and those works have
pub event_cost : (works : List Work) (k : ℕ) (event : DataEvent)
    → length (event_diff (slice_get works k) event) + operations (diffs_in (drop (k + ended_by event) works)) ≤ length (brought_diff event) + operations (diffs_in (drop k works))
event_cost works k (Patch diff clock) = subst (λ n. length diff + operations (diffs_in (drop n works)) ≤ length diff + operations (diffs_in (drop k works))) (let same : k ≡ k + 0 = omega arith in same) (le_refl _)
event_cost works k (PushResult client clock Commit) = ended_cost works k (length (pushed_diff (slice_get works k))) 0 (omega arith)
event_cost works k (PushResult client clock Discard) = ended_cost works k 0 0 (omega arith)
event_cost works k (PushResult client clock (Rebase diff)) = ended_cost works k (length diff) (length diff) (omega arith)

-- the same of the code's works
pub item_cost : (items : List code.Work) (k : ℕ) (event : DataEvent)
    → length (event_diff (option_map work_of (slice_get items k)) event) + operations (diffs_in (map work_of (drop (k + ended_by event) items))) ≤ length (brought_diff event) + operations (diffs_in (map work_of (drop k items)))
item_cost items k event =
    let cost = event_cost (map work_of items) k event in
    let first = ap (λ o. length (event_diff o event)) (at-map work_of items k) in
    let after = ap (λ ws. operations (diffs_in ws)) (drop-map work_of (k + ended_by event) items) in
    let before = ap (λ ws. operations (diffs_in ws)) (drop-map work_of k items) in
    omega arith

-- one event more
pub brought-more : (events : List DataEvent) (event : DataEvent) → brought (events ++ event ∷ []) ≡ brought events + length (brought_diff event)
brought-more events event = sum_by-append (λ e. length (brought_diff e)) events (event ∷ []) ∙ ap (λ n. brought events + n) (zero-add (length (brought_diff event)))

or_false : (b : Bool) → b || false ≡ b
or_false true = refl
or_false false = refl

pub named-more : (diffs : List RecordOps) (diff : RecordOps) (id : List ℕ) → is_named (diffs ++ diff ∷ []) id ≡ is_named diffs id || is_some (value_at diff id)
named-more diffs diff id = list_any-append (λ d. is_some (value_at d id)) diffs (diff ∷ []) ∙ ap (λ b. is_named diffs id || b) (or_false (is_some (value_at diff id)))

pub ops-more : (diffs : List RecordOps) (diff : RecordOps) → operations (diffs ++ diff ∷ []) ≡ operations diffs + length diff
ops-more diffs diff = sum_by-append length diffs (diff ∷ []) ∙ ap (λ n. operations diffs + n) (zero-add (length diff))

-- the edits alone
pub edits_left : (works : List Work) → filter (λ w. is_some (diff_in w)) works ≡ map edit (diffs_in works)
edits_left [] = refl
edits_left (edit diff ∷ works) = ap (λ ws. edit diff ∷ ws) (edits_left works)
edits_left (presence d ∷ works) = edits_left works

pub works-unsent : (works : List Work) → works_in (all_unsent works) ≡ works
works-unsent [] = refl
works-unsent (work ∷ works) = ap (λ ws. work ∷ ws) (works-unsent works)

pub diffs-edits : (diffs : List RecordOps) → diffs_in (map edit diffs) ≡ diffs
diffs-edits [] = refl
diffs-edits (diff ∷ diffs) = ap (λ ds. diff ∷ ds) (diffs-edits diffs)

pub works-drop : (k : ℕ) (items : List Pending) → works_in (drop k items) ≡ drop k (works_in items)
works-drop zero items = refl
works-drop (suc k) [] = refl
works-drop (suc k) (item ∷ items) = works-drop k items

pub works-append : (items more : List Pending) → works_in (items ++ more) ≡ works_in items ++ works_in more
works-append [] more = refl
works-append (item ∷ items) more = ap (λ ws. item.work ∷ ws) (works-append items more)

pub diffs-append : (works more : List Work) → diffs_in (works ++ more) ≡ diffs_in works ++ diffs_in more
diffs-append [] more = refl
diffs-append (edit diff ∷ works) more = ap (λ ds. diff ∷ ds) (diffs-append works more)
diffs-append (presence d ∷ works) more = diffs-append works more

pub named-append : (diffs more : List RecordOps) (id : List ℕ) → is_named (diffs ++ more) id ≡ is_named diffs id || is_named more id
named-append diffs more id = list_any-append (λ d. is_some (value_at d id)) diffs more

pub ops-append : (diffs more : List RecordOps) → operations (diffs ++ more) ≡ operations diffs + operations more
ops-append diffs more = sum_by-append length diffs more

-- the first work is replayed first
pub replay-first : (admits : List ℕ → Data → Bool) (m : Pairs) (work : Work) (works : List Work)
    → replay admits m (diffs_in (work ∷ works)) ≡ replay admits (replay admits m (diffs_in (work ∷ []))) (diffs_in works)
replay-first admits m (edit diff) works = refl
replay-first admits m (presence d) works = refl

pub ops-first : (work : Work) (works : List Work) → operations (diffs_in (work ∷ works)) ≡ operations (diffs_in (work ∷ [])) + operations (diffs_in works)
ops-first work works = ap operations (diffs-append (work ∷ []) works) ∙ ops-append (diffs_in (work ∷ [])) (diffs_in works)

pub named-first : (work : Work) (works : List Work) (id : List ℕ) → is_named (diffs_in (work ∷ works)) id ≡ is_named (diffs_in (work ∷ [])) id || is_named (diffs_in works) id
named-first work works id = ap (λ ds. is_named ds id) (diffs-append (work ∷ []) works) ∙ named-append (diffs_in (work ∷ [])) (diffs_in works) id

pub map-filter : {X Y : Type 0} (f : X → Y) (test : Y → Bool) (xs : List X) → map f (filter (λ x. test (f x)) xs) ≡ filter test (map f xs)
map-filter f test [] = refl
map-filter f test (x ∷ xs) =
    elim (test (f x)) as (λ b. map f (cond b (x ∷ filter (λ x. test (f x)) xs) (filter (λ x. test (f x)) xs)) ≡ cond b (f x ∷ filter test (map f xs)) (filter test (map f xs))) [
      | true ↦ ap (λ ys. f x ∷ ys) (map-filter f test xs)
      | false ↦ map-filter f test xs
    ]

-- an event ends one work at most
pub few_more : (k i : ℕ) (event : DataEvent) (n : ℕ) → n ≡ ended_by event → k ≤ i → k + n ≤ i + 1
few_more k i (Patch diff clock) n is few = omega arith
few_more k i (PushResult client clock action) n is few = omega arith

-- an edit alone is replayed as a step
pub replay-one : (admits : List ℕ → Data → Bool) (m : Pairs) (work : Work) → replay admits m (diffs_in (work ∷ [])) ≡ step admits m (pushed_diff (Some work))
replay-one admits m (edit diff) = refl
replay-one admits m (presence d) = refl

-- one work more is replayed
pub replay-next : (admits : List ℕ → Data → Bool) (m : Pairs) (works : List Work) (i : ℕ)
    → replay admits m (diffs_in (take (suc i) works)) ≡ step admits (replay admits m (diffs_in (take i works))) (pushed_diff (slice_get works i))
replay-next admits m [] zero = refl
replay-next admits m [] (suc i) = refl
replay-next admits m (work ∷ works) zero = replay-one admits m work
replay-next admits m (work ∷ works) (suc i) =
    replay-first admits m work (take (suc i) works) ∙ replay-next admits (replay admits m (diffs_in (work ∷ []))) works i
    ∙ ap (λ n. step admits n (pushed_diff (slice_get works i))) (sym (replay-first admits m work (take i works)))

named-one : (work : Work) (id : List ℕ) → is_named (diffs_in (work ∷ [])) id ≡ is_some (value_at (pushed_diff (Some work)) id)
named-one (edit diff) id = or_false (is_some (value_at diff id))
named-one (presence d) id = refl

or_left_along : (a b d e : Bool) → b ≡ d || e → a || b ≡ (a || d) || e
or_left_along true b d e is = refl
or_left_along false b d e is = is

-- and names its ids
pub named-next : (works : List Work) (i : ℕ) (id : List ℕ)
    → is_named (diffs_in (take (suc i) works)) id ≡ is_named (diffs_in (take i works)) id || is_some (value_at (pushed_diff (slice_get works i)) id)
named-next [] zero id = refl
named-next [] (suc i) id = refl
named-next (work ∷ works) zero id = named-one work id
named-next (work ∷ works) (suc i) id =
    let one = is_named (diffs_in (work ∷ [])) id in
    let last = is_some (value_at (pushed_diff (slice_get works i)) id) in
    named-first work (take (suc i) works) id
    ∙ or_left_along one (is_named (diffs_in (take (suc i) works)) id) (is_named (diffs_in (take i works)) id) last (named-next works i id)
    ∙ ap (λ b. b || last) (sym (named-first work (take i works) id))

-- what one work names is named
pub named_there : (works : List Work) (i : ℕ) (id : List ℕ) → is_some (value_at (pushed_diff (slice_get works i)) id) ≡ true → is_named (diffs_in works) id ≡ true
named_there [] zero id is = absurd cc
named_there [] (suc i) id is = absurd cc
named_there (work ∷ works) zero id is =
    named-first work works id ∙ or_left (is_named (diffs_in (work ∷ [])) id) (is_named (diffs_in works) id) (named-one work id ∙ is)
named_there (work ∷ works) (suc i) id is =
    named-first work works id ∙ or_right (is_named (diffs_in (work ∷ [])) id) (is_named (diffs_in works) id) (named_there works i id is)

-- how many works events end
pub ended-more : (events : List DataEvent) (event : DataEvent) → ended (events ++ event ∷ []) ≡ ended events + ended_by event
ended-more events event = sum_by-append ended_by events (event ∷ []) ∙ ap (λ n. ended events + n) (zero-add (ended_by event))

ops_next : (works : List Work) (k : ℕ) → operations (diffs_in (take (suc k) works)) ≡ operations (diffs_in (take k works)) + length (pushed_diff (slice_get works k))
ops_next [] zero = refl
ops_next [] (suc k) = refl
ops_next (work ∷ works) zero = let one = ops_cons work [] in omega (arith, one)
ops_next (work ∷ works) (suc k) =
    let next = ops_next works k in let more = ops_cons work (take (suc k) works) in let was = ops_cons work (take k works) in omega (arith, next, more, was)

-- the works that events ended by a further one have its own work's operations too
pub ended_ops : (works : List Work) (k : ℕ) (event : DataEvent) → operations (diffs_in (take (k + ended_by event) works)) ≡ operations (diffs_in (take k works)) + length (ended_diff (slice_get works k) event)
ended_ops works k (Patch diff clock) = let same : k + 0 ≡ k = omega arith in ap (λ n. operations (diffs_in (take n works))) same ∙ sym (add-zero (operations (diffs_in (take k works))))
ended_ops works k (PushResult client clock action) = rw add-one (ops_next works k)

-- and its ids
pub ended_named : {X : Type 0} (works : List Work) (k : ℕ) (event : DataEvent) (old new : List (List ℕ × X)) → ((q : List ℕ) → is_named (diffs_in (take k works)) q ≡ true → is_some (value_at old q) ≡ true)
    → HasIdsOf old new → HasIdsOf (ended_diff (slice_get works k) event) new → (q : List ℕ) → is_named (diffs_in (take (k + ended_by event) works)) q ≡ true → is_some (value_at new q) ≡ true
ended_named works k (Patch diff clock) old new touched more held q named =
    let same : k + 0 ≡ k = omega arith in more q (touched q (sym (ap (λ n. is_named (diffs_in (take n works)) q) same) ∙ named))
ended_named works k (PushResult client clock action) old new touched more held q named =
    let before = is_named (diffs_in (take k works)) q in
    let parts : before || is_some (value_at (pushed_diff (slice_get works k)) q) ≡ true = sym (rw add-one (named-next works k q)) ∙ named in
    elim before as (λ b. before ≡ b → b || is_some (value_at (pushed_diff (slice_get works k)) q) ≡ true → is_some (value_at new q) ≡ true) [
      | true ↦ λ is all. more q (touched q is)
      | false ↦ λ is all. held q all
    ] refl parts
