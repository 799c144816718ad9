-- A base that goes on beside a store and a stash: what changed of it, and what is shown then.
use Rattle.std.proofs.Common.{◌≡◌, ◌≤◌, ◌+◌, ℕ, List, [], ◌∷◌, ◌++◌, length, drop, Result, Ok, Err, Bool, true, false, cond, ◌||◌, Option, Some, None, slice_get, refl, sym, ap, subst, ◌∙◌, arith}
use Rattle.std.specs.Prelude.{is_some, unwrap_or, IfOk}
use Rattle.std.specs.FinMap.Entries as entries
use Rattle.std.proofs.lemmas.Cmp.{nat_list_cmp_total}
use Rattle.std.proofs.lemmas.List.{drop-drop}
use Rattle.rooms_val.proofs.Truths.{or_left}
use Rattle.rooms_val.specs.Data.{Data, Pairs}
use Rattle.std.specs.Ordering.{is_eq}
use Rattle.rooms_val.specs.Maps.{order, AreRising, value_at, set_at, with_key, ties}
use Rattle.rooms_val.proofs.MapsLemmas.{by_tie, order_itself, none_later, at-set_at, at-with_key}
use Rattle.field_ops.specs.RecordOps.{RecordOpTree, RecordOps}
use Rattle.schema_core.specs.Tree.{SchemaTree}
use Rattle.schema_core.specs.Admits.{is_admitted, is_document}
use Rattle.doc_model.specs.Documents.{step_at, step, replay}
use Rattle.doc_model.specs.Inverses.{record_after}
use Rattle.doc_model.proofs.InverseLemmas.{at-step_at, rising-step}
use Rattle.doc_store.specs.Slots.{Slots}
use Rattle.room_model.specs.Schemas.{records_with}
use Rattle.room_model.specs.Replicas.{Pending}
use Rattle.room_model.specs.Taking.{Replica, first_diff, result_diff, after_event}
use Rattle.room_schemas.specs.Decided.{is_presence}
use Rattle.sync_msgs.specs.declared.data_event.DataEvent.{DataEvent}
use Rattle.sync_msgs.specs.declared.data_event.DataEvent.TheVariants.{Patch, PushResult}
use Rattle.client_replica.specs.Parts.{ops_with}
use Rattle.client_replica.specs.Works.{works_in, pushed_diff, event_diff, ended_by}
use Rattle.client_replica.specs.Stashes.{under, kept}
use Rattle.client_replica.specs.NewBases.{laid, IsLaid, AreStepped, HasIdsOf, IsOf, IsAhead}
use Rattle.client_replica.proofs.PartLemmas.{part-step}
use Rattle.client_replica.proofs.WorkLemmas.{first_left}
use Rattle.client_replica.proofs.StashLemmas.{or_flip, exact-kept, some_or, few-cond}
use Rattle.client_replica.proofs.OwnLemmas.{never}
use Rattle.room_model.proofs.LookUpLemmas.{or_assoc}

-- an id that joins a map
exact-put : {X : Type 0} (es : List (List ℕ × X)) (k : List ℕ) (v : X) (q : List ℕ) → is_some (value_at (with_key es k v) q) ≡ is_some (value_at es q) || ties q k
exact-put es k v q = ap is_some (at-with_key es k q v) ∙ some_or (ties q k) v (value_at es q) ∙ or_flip (ties q k) (is_some (value_at es q))

pub if_ok : {T E : Type 0} {A B : T → Type 0} (r : Result T E) → ((x : T) → A x → B x) → IfOk r A → IfOk r B
if_ok (Ok x) f told = f x told
if_ok (Err e) f told = tt

pub more_put : {X : Type 0} (es : List (List ℕ × X)) (k : List ℕ) (v : X) → HasIdsOf es (with_key es k v)
more_put es k v q is = exact-put es k v q ∙ or_left (is_some (value_at es q)) (ties q k) is

pub few_put : {X : Type 0} (es : List (List ℕ × X)) (k : List ℕ) (v : X) → AreRising es → length (with_key es k v) ≤ length es + 1
few_put es k v rising = few-cond (is_some (value_at es k)) (length es) (length (with_key es k v)) (entries.length-put order nat_list_cmp_total k v es rising)

module _ (admits : List ℕ → Data → Bool) where
  -- one operation more, of those on ids that pass a test
  pub ops-last : (test : List ℕ → Bool) (m : Pairs) (front : RecordOps) (c : List ℕ × RecordOpTree)
      → step admits (step admits m (ops_with test front)) (ops_with test (c ∷ [])) ≡ step admits m (ops_with test (front ++ c ∷ []))
  ops-last test m [] c = refl
  ops-last test m (d ∷ front) c =
      elim (test d.0) as (λ b. step admits (step admits m (cond b (d ∷ ops_with test front) (ops_with test front))) (ops_with test (c ∷ []))
      ≡ step admits m (cond b (d ∷ ops_with test (front ++ c ∷ [])) (ops_with test (front ++ c ∷ [])))) [
        | true ↦ ops-last test (step_at admits m d.0 d.1) front c
        | false ↦ ops-last test m front c
      ]

  -- an operation is done to the base beside store and stash
  pub laid-step : (base m : Pairs) (stash changes : Slots) (k : List ℕ) (c : RecordOpTree) → IsLaid base m stash changes
      → IsLaid (step_at admits base k c) m stash (with_key changes k (record_after admits k (Some c) (laid changes stash m k)))
  laid-step base m stash changes k c lies = λ q.
      let r = record_after admits k (Some c) (laid changes stash m k) in
      ap (λ o. unwrap_or o (under stash m q)) (at-with_key changes k q r)
      ∙ by_tie (λ t. unwrap_or (cond t (Some r) (value_at changes q)) (under stash m q) ≡ cond t (record_after admits k (Some c) (value_at base k)) (value_at base q)) q k
      (λ same. ap (record_after admits k (Some c)) (lies k)) (lies q)
      ∙ sym (at-step_at admits base k q c)

  step_same : (diff : RecordOps) (m n : Pairs) (q : List ℕ) → value_at m q ≡ value_at n q → value_at (step admits m diff) q ≡ value_at (step admits n diff) q
  step_same [] m n q same = same
  step_same (c ∷ diff) m n q same =
      step_same diff (step_at admits m c.0 c.1) (step_at admits n c.0 c.1) q
      (at-step_at admits m c.0 q c.1
      ∙ by_tie (λ t. cond t (record_after admits c.0 (Some c.1) (value_at m c.0)) (value_at m q) ≡ cond t (record_after admits c.0 (Some c.1) (value_at n c.0)) (value_at n q)) q c.0
      (λ tie. ap (record_after admits c.0 (Some c.1)) (ap (value_at m) (sym tie) ∙ same ∙ ap (value_at n) tie)) same
      ∙ sym (at-step_at admits n c.0 q c.1))

  -- under an id with the same record the replay of the same diffs leaves the same
  pub replay_same : (diffs : List RecordOps) (m n : Pairs) (q : List ℕ) → value_at m q ≡ value_at n q → value_at (replay admits m diffs) q ≡ value_at (replay admits n diffs) q
  replay_same [] m n q same = same
  replay_same (diff ∷ diffs) m n q same = replay_same diffs (step admits m diff) (step admits n diff) q (step_same diff m n q same)

-- a document of one record, or of none
pub alone_at : (k : List ℕ) (r : Option Data) → value_at (set_at [] k r) k ≡ r
alone_at k r = at-set_at [] k k r ∙ ap (λ o. cond (is_eq o) r None) (order_itself k)

-- an id that is held as it is
pub laid-kept : (base m : Pairs) (stash changes : Slots) (k : List ℕ) → IsLaid base m stash changes → IsLaid base m stash (kept changes k (laid changes stash m k))
laid-kept base m stash changes k lies = λ q.
    elim (is_some (value_at changes k)) as (λ b. unwrap_or (value_at (cond b changes (with_key changes k (laid changes stash m k))) q) (under stash m q) ≡ value_at base q) [
      | true ↦ lies q
      | false ↦
          ap (λ o. unwrap_or o (under stash m q)) (at-with_key changes k q (laid changes stash m k))
          ∙ by_tie (λ t. unwrap_or (cond t (Some (laid changes stash m k)) (value_at changes q)) (under stash m q) ≡ value_at base q) q k
          (λ same. lies k ∙ ap (value_at base) (sym same)) (lies q)
    ]

-- an id more of a list that is gone through
pub held-next : {X : Type 0} (es : Slots) (r : Option Data) (x : List ℕ × X) (left : List (List ℕ × X)) (q : List ℕ)
    → is_some (value_at (kept es x.0 r) q) || is_some (value_at left q) ≡ is_some (value_at es q) || is_some (value_at (x ∷ left) q)
held-next es r x left q =
    ap (λ b. b || is_some (value_at left q)) (exact-kept es x.0 r q)
    ∙ or_assoc (is_some (value_at es q)) (ties q x.0) (is_some (value_at left q))
    ∙ ap (λ b. is_some (value_at es q) || b) (sym (some_or (ties q x.0) x.1 (value_at left q)))

of_some : (o : Option (Option Data)) (x b : Option Data) → is_some o ≡ true → unwrap_or o x ≡ b → o ≡ Some b
of_some (Some r) x b some is = ap (λ y. Some y) is
of_some None x b some is = never _ some

-- what changed is the base's
pub is_of : (base m : Pairs) (stash changes : Slots) → IsLaid base m stash changes → IsOf base changes
is_of base m stash changes lies q some = of_some (value_at changes q) (under stash m q) (value_at base q) some (lies q)

-- the first of what is held is the base's
pub first_is : (k : List ℕ) (r : Option Data) (rest : Slots) (base : Pairs) → IsOf base ((k, r) ∷ rest) → value_at base k ≡ r
first_is k r rest base are =
    let here : value_at ((k, r) ∷ rest) k ≡ Some r = ap (λ o. cond (is_eq o) (Some r) (value_at rest k)) (order_itself k) in
    ap (λ o. unwrap_or o r) (sym (are k (ap is_some here)) ∙ here)

-- and so are those that follow
pub rest_is : (k : List ℕ) (r : Option Data) (rest : Slots) (base : Pairs) → AreRising ((k, r) ∷ rest) → IsOf base ((k, r) ∷ rest) → IsOf base rest
rest_is k r rest base rising are q some =
    by_tie (λ t. (is_some (cond t (Some r) (value_at rest q)) ≡ true → cond t (Some r) (value_at rest q) ≡ Some (value_at base q)) → value_at rest q ≡ Some (value_at base q)) q k
    (λ same was. never _ (sym (ap (λ x. is_some (value_at rest x)) same ∙ ap is_some (none_later (k, r) rest rising)) ∙ some))
    (λ was. was some) (are q)

choose : {X : Type 0} (b : Bool) (x y : X) → y ≡ x → cond b x y ≡ x
choose true x y is = refl
choose false x y is = is

-- one record more is replayed
pub replayed-next : (values : List ℕ → Option Data) (k : List ℕ) (r after : Option Data) (rest shown : Slots) (q : List ℕ) → values k ≡ after
    → cond (is_some (value_at rest q)) (Some (values q)) (value_at (with_key shown k after) q) ≡ cond (is_some (value_at ((k, r) ∷ rest) q)) (Some (values q)) (value_at shown q)
replayed-next values k r after rest shown q is =
    ap (cond (is_some (value_at rest q)) (Some (values q))) (at-with_key shown k q after)
    ∙ by_tie (λ t. cond (is_some (value_at rest q)) (Some (values q)) (cond t (Some after) (value_at shown q)) ≡ cond (is_some (cond t (Some r) (value_at rest q))) (Some (values q)) (value_at shown q)) q k
    (λ same. choose (is_some (value_at rest q)) (Some (values q)) (Some after) (ap (λ o. Some o) (sym is ∙ ap values (sym same)))) refl

module _ (s : SchemaTree) where
  -- an operation on an id of the document
  pub laid_put : (m : Pairs) (stash old new : Slots) (id : List ℕ) (c : RecordOpTree) → is_document s id ≡ true → new ≡ with_key old id (record_after (is_admitted s) id (Some c) (laid old stash m id))
      → AreStepped s ((id, c) ∷ []) m stash old new
  laid_put m stash old new id c document is base lies =
      subst (λ b. IsLaid (step (is_admitted s) base (cond b ((id, c) ∷ []) [])) m stash new) (sym document)
      (subst (IsLaid (step_at (is_admitted s) base id c) m stash) (sym is) (laid-step (is_admitted s) base m stash old id c lies))

  abbrev admits : List ℕ → Data → Bool
  admits = is_admitted s

  pub ahead_diff : (base : Pairs) (diff : RecordOps) (now then : List Pending) (m : Pairs) (stash old new : Slots) (others others' : Pairs) → AreRising base
      → IsLaid (records_with (is_document s) base) m stash old → records_with (is_presence s) base ≡ others
      → AreStepped s diff m stash old new → others' ≡ step admits others (ops_with (is_presence s) diff) → now ≡ then
      → IsAhead s (record { base = step admits base diff; pending = now }) then m stash new others'
  ahead_diff base diff now then m stash old new others others' rising doc pres document_is others_is same = record {
    document = subst (λ b. IsLaid b m stash new) (sym (part-step admits (is_document s) base diff rising)) (document_is (records_with (is_document s) base) doc);
    presence = part-step admits (is_presence s) base diff rising ∙ ap (λ n. step admits n (ops_with (is_presence s) diff)) pres ∙ sym others_is;
    left = same;
    rising = rising-step admits diff base rising;
  }

  -- an event is done to a base beside store and stash
  pub ahead_event : (replica : Replica) (pending : List Pending) (k : ℕ) (event : DataEvent) (m : Pairs) (stash old new : Slots) (others others' : Pairs) → IsAhead s replica (drop k pending) m stash old others
      → AreStepped s (event_diff (slice_get (works_in pending) k) event) m stash old new
      → others' ≡ step admits others (ops_with (is_presence s) (event_diff (slice_get (works_in pending) k) event))
      → IsAhead s (after_event admits replica event) (drop (k + ended_by event) pending) m stash new others'
  ahead_event replica pending k (Patch diff clock) m stash old new others others' ahead document_is others_is =
      ahead_diff replica.base diff replica.pending (drop (k + 0) pending) m stash old new others others' ahead.rising ahead.document ahead.presence document_is others_is (ahead.left ∙ ap (λ n. drop n pending) (omega arith))
  ahead_event replica pending k (PushResult client clock action) m stash old new others others' ahead document_is others_is =
      let diff = result_diff (first_diff replica.pending) action in
      let same : result_diff (pushed_diff (slice_get (works_in pending) k)) action ≡ diff = ap (λ d. result_diff d action) (sym (ap first_diff ahead.left ∙ first_left pending k)) in
      ahead_diff replica.base diff (drop 1 replica.pending) (drop (k + 1) pending) m stash old new others others' ahead.rising ahead.document ahead.presence
      (subst (λ d. AreStepped s d m stash old new) same document_is)
      (others_is ∙ ap (λ d. step admits others (ops_with (is_presence s) d)) same)
      (ap (drop 1) ahead.left ∙ drop-drop 1 k pending)
