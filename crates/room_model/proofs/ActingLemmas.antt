-- The entries that rooms make act where they stand.
use Rattle.std.proofs.Common.{◌≡◌, ℕ, Bool, true, false, ◌&&◌, ◌||◌, ◌==◌, cond, not, T, List, [], ◌∷◌, length, filter, Option, Some, None, Ordering, Less, Equal, Greater, is_eq, refl, sym, ap, subst, ◌∙◌}
use Rattle.std.specs.List.{list_all}
use Rattle.std.specs.Option.{option_map_or, option_and_then}
use Rattle.std.specs.Ordering.{is_lt, ordering_reverse}
use Rattle.std.proofs.lemmas.Cmp.{nat_list_cmp_total}
use Rattle.std.specs.FinMap.Entries.{below_all, by_order}
use Rattle.rooms_val.proofs.Truths.{and_left, and_right, and_true, or_left, or_right, and_holds, bytes_eq_itself}
use Rattle.rooms_val.specs.Data.{Data, Pairs}
use Rattle.rooms_val.specs.Maps.{value_at, order, AreRising, with_key, set_at, added, ties}
use Rattle.rooms_val.proofs.MapsLemmas.{first, second, ties_same, order_itself, same_key, at-set_at, rising-with_key}
use Rattle.field_ops.specs.RecordOps.{RecordOpTree, put, patch, remove, RecordOps}
use Rattle.field_ops.specs.Patched.{raw}
use Rattle.doc_model.specs.Documents.{acts_on}
use Rattle.room_model.specs.Schemas.{Schemas, AreLawful, Plan, Member, presence_id, is_own}
use Rattle.room_model.specs.Histories.{records_of}
use Rattle.room_model.specs.Accepting.{Push, on_put, tried_op, is_put_admitted, is_fit, is_taken, is_accepted, accept_ops, document_part, presence_part, entry_of, action_of, is_empty}
use Rattle.room_model.specs.Acting.{IsActionOf, document_ops, is_sure, IsActing}
use Rattle.room_model.specs.Rooms.{Room, is_present, removal}
use Rattle.room_model.specs.declared.history.Author.{Author}
use Rattle.room_model.proofs.HistoryLemmas.{Each, each-two}
use Rattle.room_model.proofs.AcceptLemmas.{accepted_acts}
use Rattle.sync_msgs.specs.declared.data_event.Action.TheVariants.{Commit, Rebase}

pub differ : true ≡ false → ⊥
differ is = cc

smaller : (o : Ordering) → T (is_lt o) → is_eq (ordering_reverse o) ≡ false
smaller Less h = refl
smaller Equal h = absurd h
smaller Greater h = absurd h

-- the ids after the first of rising ones are others
others_after : {V : Type 0} (k : List ℕ) (es : List (List ℕ × V)) → T (below_all order k es) → Each (λ e. ties e.0 k ≡ false) es
others_after k [] h = tt
others_after k (e ∷ es) h = (ap is_eq (nat_list_cmp_total.antisymm e.0 k) ∙ smaller _ (first (is_lt (order k e.0)) (below_all order k es) h), others_after k es (second _ _ h))

-- a test of what is put and of all pairs holds of all pairs afterwards
pub all-with_key : {V : Type 0} (test : List ℕ × V → Bool) (es : List (List ℕ × V)) (k : List ℕ) (v : V) → list_all test es ≡ true → test (k, v) ≡ true → list_all test (with_key es k v) ≡ true
all-with_key test [] k v all new = and_true _ _ new refl
all-with_key {V} test (e ∷ es) k v all new =
    elim (order k e.0) as (λ o. order k e.0 ≡ o → list_all test (by_order o ((k, v) ∷ e ∷ es) ((e.0, v) ∷ es) (e ∷ with_key es k v)) ≡ true) [
      | Less ↦ λ is. and_true _ _ new all
      | Equal ↦ λ is. and_true _ _ (ap (λ key. test (key, v)) (sym (same_key k e.0 is)) ∙ new) (and_right _ _ all)
      | Greater ↦ λ is. and_true _ _ (and_left _ _ all) (all-with_key test es k v (and_right _ _ all) new)
    ] refl

-- a test that asks less passes too
pub all-imp : {X : Type 0} (f g : X → Bool) → ((x : X) → f x ≡ true → g x ≡ true) → (xs : List X) → list_all f xs ≡ true → list_all g xs ≡ true
all-imp f g more [] all = refl
all-imp f g more (x ∷ xs) all = and_true _ _ (more x (and_left _ _ all)) (all-imp f g more xs (and_right _ _ all))

-- a session's presence is its own
pub own_itself : (session : ℕ) → is_own session (presence_id session) ≡ true
own_itself session = bytes_eq_itself (presence_id session)

-- pairs that all pass a test, and a further one that doesn't, are told apart by it
pub filter_all : {V : Type 0} (test : List ℕ → Bool) (es : List (List ℕ × V)) → list_all (λ e. test e.0) es ≡ true → filter (λ e. test e.0) es ≡ es
filter_all test [] all = refl
filter_all test (e ∷ es) all = ap (λ b. cond b (e ∷ filter (λ e. test e.0) es) (filter (λ e. test e.0) es)) (and_left _ _ all) ∙ ap (λ rest. e ∷ rest) (filter_all test es (and_right _ _ all))

pub filter-with_key : {V : Type 0} (test : List ℕ → Bool) (es : List (List ℕ × V)) (k : List ℕ) (v : V) → list_all (λ e. test e.0) es ≡ true → test k ≡ false → filter (λ e. test e.0) (with_key es k v) ≡ es
filter-with_key test [] k v all out = ap (λ b. cond b ((k, v) ∷ []) []) out
filter-with_key {V} test (e ∷ es) k v all out =
    elim (order k e.0) as (λ o. order k e.0 ≡ o → filter (λ e. test e.0) (by_order o ((k, v) ∷ e ∷ es) ((e.0, v) ∷ es) (e ∷ with_key es k v)) ≡ e ∷ es) [
      | Less ↦ λ is. ap (λ b. cond b ((k, v) ∷ filter (λ e. test e.0) (e ∷ es)) (filter (λ e. test e.0) (e ∷ es))) out ∙ filter_all test (e ∷ es) all
      | Equal ↦ λ is. absurd (differ (sym (ap test (same_key k e.0 is) ∙ and_left _ _ all) ∙ out))
      | Greater ↦ λ is.
          ap (λ b. cond b (e ∷ filter (λ e. test e.0) (with_key es k v)) (filter (λ e. test e.0) (with_key es k v))) (and_left _ _ all)
          ∙ ap (λ rest. e ∷ rest) (filter-with_key test es k v (and_right _ _ all) out)
    ] refl

-- what acts is sure
sure : (schemas : Schemas) (id : List ℕ) (c : RecordOpTree) (r : Option Data) → acts_on schemas.admits id c r ≡ true → is_sure schemas id c r ≡ true
sure schemas id (put d) r is = refl
sure schemas id (patch p) r is = is
sure schemas id remove r is = refl

module _ (schemas : Schemas) (plan : Plan) where
  -- the ids that are accepted are some of the diff's
  below-accepted : (k : List ℕ) (m : Pairs) (diff : RecordOps) → T (below_all order k diff) → T (below_all order k (accept_ops schemas plan m diff))
  below-accepted k m [] h = tt
  below-accepted k m (c ∷ diff) h =
      let op = tried_op schemas plan c.1 (value_at m c.0) in
      let next = set_at m c.0 (raw op (value_at m c.0)) in
      let low = first (is_lt (order k c.0)) (below_all order k diff) h in
      elim (is_accepted schemas m c.0 op) as (λ b. T (below_all order k (cond b ((c.0, op) ∷ accept_ops schemas plan next diff) (accept_ops schemas plan m diff)))) [
        | true ↦ and_holds _ _ low (below-accepted k next diff (second _ _ h))
        | false ↦ below-accepted k m diff (second _ _ h)
      ]

  pub rising-accepted : (m : Pairs) (diff : RecordOps) → AreRising diff → AreRising (accept_ops schemas plan m diff)
  rising-accepted m [] h = tt
  rising-accepted m (c ∷ diff) h =
      let op = tried_op schemas plan c.1 (value_at m c.0) in
      let next = set_at m c.0 (raw op (value_at m c.0)) in
      elim (is_accepted schemas m c.0 op) as (λ b. AreRising (cond b ((c.0, op) ∷ accept_ops schemas plan next diff) (accept_ops schemas plan m diff))) [
        | true ↦ and_holds _ _ (below-accepted c.0 next diff (first _ _ h)) (rising-accepted next diff (second _ _ h))
        | false ↦ rising-accepted m diff (second _ _ h)
      ]

  -- what is accepted acts in the records before the diff, since each id stands once
  accepted_each : (start m : Pairs) (diff : RecordOps) → AreRising diff → Each (λ c. value_at m c.0 ≡ value_at start c.0) diff
      → list_all (λ c. is_sure schemas c.0 c.1 (value_at start c.0)) (accept_ops schemas plan m diff) ≡ true
  accepted_each start m [] h same = refl
  accepted_each start m (c ∷ diff) h same =
      let op = tried_op schemas plan c.1 (value_at m c.0) in
      let next = set_at m c.0 (raw op (value_at m c.0)) in
      let later = each-two (λ d. ties d.0 c.0 ≡ false) (λ d. value_at m d.0 ≡ value_at start d.0) (λ d. value_at next d.0 ≡ value_at start d.0)
      (λ d apart is. at-set_at m c.0 d.0 (raw op (value_at m c.0)) ∙ ap (λ b. cond b (raw op (value_at m c.0)) (value_at m d.0)) apart ∙ is)
      diff (others_after c.0 diff (first _ _ h)) same.1 in
      elim (is_accepted schemas m c.0 op) as (λ b. is_accepted schemas m c.0 op ≡ b → list_all (λ d. is_sure schemas d.0 d.1 (value_at start d.0)) (cond b ((c.0, op) ∷ accept_ops schemas plan next diff) (accept_ops schemas plan m diff)) ≡ true) [
        | true ↦ λ is. and_true _ _ (subst (λ r. is_sure schemas c.0 op r ≡ true) same.0 (sure schemas c.0 op (value_at m c.0) (accepted_acts schemas m c.0 op is))) (accepted_each start next diff (second _ _ h) later)
        | false ↦ λ is. accepted_each start m diff (second _ _ h) same.1
      ] refl

  -- an id that is accepted is one of the diff's
  pub all-accepted : (test : List ℕ → Bool) (m : Pairs) (diff : RecordOps) → list_all (λ c. test c.0) diff ≡ true → list_all (λ c. test c.0) (accept_ops schemas plan m diff) ≡ true
  all-accepted test m [] all = refl
  all-accepted test m (c ∷ diff) all =
      let op = tried_op schemas plan c.1 (value_at m c.0) in
      let next = set_at m c.0 (raw op (value_at m c.0)) in
      elim (is_accepted schemas m c.0 op) as (λ b. list_all (λ d. test d.0) (cond b ((c.0, op) ∷ accept_ops schemas plan next diff) (accept_ops schemas plan m diff)) ≡ true) [
        | true ↦ and_true _ _ (and_left _ _ all) (all-accepted test next diff (and_right _ _ all))
        | false ↦ all-accepted test m diff (and_right _ _ all)
      ]

-- the action of a push says what was accepted
action_says : (plan : Plan) (diff part : RecordOps) → IsActionOf part (action_of plan diff part)
action_says plan [] part = tt
action_says plan (c ∷ diff) [] = refl
action_says plan (c ∷ diff) (d ∷ part) =
    elim (is_empty plan && length part == length diff) as (λ b. IsActionOf (d ∷ part) (cond b Commit (Rebase (d ∷ part)))) [ true ↦ tt | false ↦ refl ]

-- a presence isn't the document's
pub presence_apart : (schemas : Schemas) → AreLawful schemas → (session : ℕ) → schemas.is_document (presence_id session) ≡ false
presence_apart schemas lawful session =
    elim (schemas.is_document (presence_id session)) as (λ b. schemas.is_document (presence_id session) ≡ b → b ≡ false) [
      | true ↦ λ is. sym (lawful.presence session) ∙ lawful.apart (presence_id session) is
      | false ↦ λ is. refl
    ] refl

-- a diff that is fit names ids of the document alone
pub fit_documents : (schemas : Schemas) (plan : Plan) (diff : RecordOps) → is_fit schemas plan diff ≡ true → list_all (λ c. schemas.is_document c.0) diff ≡ true
fit_documents schemas plan [] fit = refl
fit_documents schemas plan (c ∷ diff) fit = and_true _ _ (and_left _ _ (and_left _ _ fit)) (fit_documents schemas plan diff (and_right _ _ fit))

module _ (schemas : Schemas) (lawful : AreLawful schemas) (member : Member) (m : Pairs) where
  -- what is accepted of a presence acts
  presence_acts : (c : RecordOpTree) (d : RecordOpTree) → presence_part schemas member m c ≡ Some d → acts_on schemas.admits (presence_id member.session) d (value_at m (presence_id member.session)) ≡ true
  presence_acts (put r) d = λ is. ap (λ o. option_map_or (λ e. acts_on schemas.admits (presence_id member.session) e (value_at m (presence_id member.session))) o true) (sym is)
  presence_acts (patch p) d =
      elim (acts_on schemas.admits (presence_id member.session) (patch p) (value_at m (presence_id member.session))) as (λ b. acts_on schemas.admits (presence_id member.session) (patch p) (value_at m (presence_id member.session)) ≡ b → cond b (Some (patch p)) None ≡ Some d → acts_on schemas.admits (presence_id member.session) d (value_at m (presence_id member.session)) ≡ true) [
        | true ↦ λ acts is. let same : patch p ≡ d = cc in subst (λ e. acts_on schemas.admits (presence_id member.session) e (value_at m (presence_id member.session)) ≡ true) same acts
        | false ↦ λ acts is. absurd (cc)
      ] refl
  presence_acts remove d = λ is. absurd (cc)

  outside : schemas.is_document (presence_id member.session) ≡ false
  outside = presence_apart schemas lawful member.session

  -- a diff that acts, and what acts of a presence beside it, act
  added_acts : (author : Author) → author.session ≡ member.session → (part : RecordOps) (o : Option RecordOpTree) → AreRising part
      → list_all (λ c. is_sure schemas c.0 c.1 (value_at m c.0)) part ≡ true → list_all (λ c. schemas.is_document c.0) part ≡ true
      → IsActionOf part author.action
      → ((d : RecordOpTree) → o ≡ Some d → acts_on schemas.admits (presence_id member.session) d (value_at m (presence_id member.session)) ≡ true)
      → IsActing schemas m (record { diff = added part (presence_id member.session) o; author = Some author })
  added_acts author by part None rising acts documents says present = record {
    rising = rising;
    acting = acts;
    scoped = all-imp (λ c. schemas.is_document c.0) (λ c. schemas.is_document c.0 || schemas.is_presence c.0) (λ c is. or_left _ _ is) part documents;
    own = λ a is. all-imp (λ c. schemas.is_document c.0) (λ c. schemas.is_document c.0 || is_own a.session c.0) (λ c is. or_left _ _ is) part documents;
    action = λ a is. let same : author ≡ a = cc in subst (λ b. IsActionOf (document_ops schemas part) b.action) same (subst (λ p. IsActionOf p author.action) (sym (filter_all schemas.is_document part documents)) says);
  }
  added_acts author by part (Some d) rising acts documents says present = record {
    rising = rising-with_key part (presence_id member.session) d rising;
    scoped = all-with_key (λ c. schemas.is_document c.0 || schemas.is_presence c.0) part (presence_id member.session) d
        (all-imp (λ c. schemas.is_document c.0) (λ c. schemas.is_document c.0 || schemas.is_presence c.0) (λ c is. or_left _ _ is) part documents)
        (or_right _ _ (lawful.presence member.session));
    own = λ a is. let same : author ≡ a = cc in subst (λ b. list_all (λ c. schemas.is_document c.0 || is_own b.session c.0) (with_key part (presence_id member.session) d) ≡ true) same
        (all-with_key (λ c. schemas.is_document c.0 || is_own author.session c.0) part (presence_id member.session) d
        (all-imp (λ c. schemas.is_document c.0) (λ c. schemas.is_document c.0 || is_own author.session c.0) (λ c is. or_left _ _ is) part documents)
        (or_right _ _ (subst (λ n. is_own n (presence_id member.session) ≡ true) (sym by) (own_itself member.session))));
    acting = all-with_key (λ c. is_sure schemas c.0 c.1 (value_at m c.0)) part (presence_id member.session) d acts (sure schemas (presence_id member.session) d (value_at m (presence_id member.session)) (present d refl));
    action = λ a is. let same : author ≡ a = cc in subst (λ b. IsActionOf (document_ops schemas (with_key part (presence_id member.session) d)) b.action) same (subst (λ p. IsActionOf p author.action) (sym (filter-with_key schemas.is_document part (presence_id member.session) d documents outside)) says);
  }

  each_same : (diff : RecordOps) → Each (λ c. value_at m c.0 ≡ value_at m c.0) diff
  each_same [] = tt
  each_same (c ∷ diff) = (refl, each_same diff)

  presence_of : (o : Option RecordOpTree) (d : RecordOpTree) → option_and_then (presence_part schemas member m) o ≡ Some d → acts_on schemas.admits (presence_id member.session) d (value_at m (presence_id member.session)) ≡ true
  presence_of None d is = absurd (cc)
  presence_of (Some c) d is = presence_acts c d is

  -- the entry of a push acts
  pub push_acts : (push : Push) → AreRising push.diff → is_taken schemas member push ≡ true → IsActing schemas m (entry_of schemas member m push)
  push_acts push rising taken =
      let author : RecordOps → Author = λ part. record { session = member.session; client_clock = push.client_clock; action = action_of member.plan push.diff part } in
      let o = option_and_then (presence_part schemas member m) push.presence in
      elim member.readonly as (λ b. (b || is_fit schemas member.plan push.diff) ≡ true → let part = cond b [] (accept_ops schemas member.plan m push.diff) in IsActing schemas m (record { diff = added part (presence_id member.session) o; author = Some (author part) })) [
        | true ↦ λ fit. added_acts (author []) refl [] o tt refl refl (action_says member.plan push.diff []) (presence_of push.presence)
        | false ↦ λ fit.
            let part = accept_ops schemas member.plan m push.diff in
            added_acts (author part) refl part o (rising-accepted schemas member.plan m push.diff rising)
            (accepted_each schemas member.plan m m push.diff rising (each_same push.diff))
            (all-accepted schemas member.plan schemas.is_document m push.diff (fit_documents schemas member.plan push.diff fit))
            (action_says member.plan push.diff part) (presence_of push.presence)
      ] (and_left _ _ taken)

-- the entry that removes a presence acts where the presence is
pub removal_acts : (schemas : Schemas) → AreLawful schemas → (room : Room) (session : ℕ) → IsActing schemas (records_of room.history) (removal session)
removal_acts schemas lawful room session = record {
  rising = tt;
  acting = refl;
  scoped = and_true _ _ (or_right _ _ (lawful.presence session)) refl;
  own = λ a is. absurd (cc);
  action = λ a is. absurd (cc);
}
