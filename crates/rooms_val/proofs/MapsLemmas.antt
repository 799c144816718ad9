-- Maps whose keys rise: look-ups after a change, what a change keeps, and two maps with the same look-ups.
use Rattle.std.proofs.Common.{◌≡◌, ℕ, ◌+◌, ◌<◌, nat_eq, length, get_or, drop, Bool, true, false, ◌&&◌, not, cond, T, List, [], ◌∷◌, ◌++◌, Option, Some, None, option_map, Ordering, Less, Equal, Greater, is_eq, refl, sym, ap, subst, ◌∙◌, append_assoc}
use Rattle.std.specs.Ordering.{is_lt, ordering_reverse}
use Rattle.std.specs.Cmp.{tied_itself, Equal-is}
use Rattle.std.specs.Cmp.Lexicographic.{pointwise, texts_ties}
use Rattle.std.specs.FinMap.{nat_cmp-IsAntisymmetric, slice_cmp-IsAntisymmetric}
use Rattle.std.specs.FinMap.Entries.{is_sorted, below_all, by_order, where_key, find-put, find-where_key, is_sorted-put, is_sorted-where_key, same_entries}
use Rattle.std.proofs.lemmas.Cmp.{nat_list_cmp_total}
use Rattle.rooms_val.proofs.Truths.{and_holds}
use Rattle.rooms_val.proofs.ListLemmas.{one_off}
use Rattle.rooms_val.specs.Maps.{order, ties, AreRising, value_at, with_key, without_key, set_at, added, IsTaken, keys_of, EachValue, seen}

pub first : (a b : Bool) → T (a && b) → T a
first true b h = tt
first false b h = h

pub second : (a b : Bool) → T (a && b) → T b
second true b h = h
second false b h = absurd h

pub less : (o : Ordering) → T (is_lt o) → o ≡ Less
less Less h = refl
less Equal h = absurd h
less Greater h = absurd h

pub is_eq-reverse : (o : Ordering) → is_eq (ordering_reverse o) ≡ is_eq o
is_eq-reverse Less = refl
is_eq-reverse Equal = refl
is_eq-reverse Greater = refl

pub same_key : (x y : List ℕ) → order x y ≡ Equal → x ≡ y
same_key = slice_cmp-IsAntisymmetric nat_cmp-IsAntisymmetric

pub ties_same : (q k : List ℕ) → ties q k ≡ true → q ≡ k
ties_same q k is = same_key q k ((Equal-is (order q k)).0 is)

pub order_itself : (k : List ℕ) → order k k ≡ Equal
order_itself = tied_itself nat_list_cmp_total

-- the comparison the other way round
pub flipped : (x y : List ℕ) (o : Ordering) → order x y ≡ o → order y x ≡ ordering_reverse o
flipped x y o is = nat_list_cmp_total.antisymm y x ∙ ap ordering_reverse is

pub ties_flip : (k q : List ℕ) → ties k q ≡ ties q k
ties_flip k q = ap is_eq (nat_list_cmp_total.antisymm k q) ∙ is_eq-reverse (order q k)

-- two cases: the keys are the same, or they aren't
pub by_tie : (P : Bool → Type 0) (q k : List ℕ) → (q ≡ k → P true) → P false → P (ties q k)
by_tie P q k same apart = elim (ties q k) as (λ b. ties q k ≡ b → P b) [ true ↦ λ is. same (ties_same q k is) | false ↦ λ is. apart ] refl

cond_not : {X : Type 0} (b : Bool) (x y : X) → cond (not b) x y ≡ cond b y x
cond_not true x y = refl
cond_not false x y = refl

module _ {V : Type 0} where
  pub at-with_key : (es : List (List ℕ × V)) (k q : List ℕ) (v : V) → value_at (with_key es k v) q ≡ cond (ties q k) (Some v) (value_at es q)
  at-with_key es k q v = find-put order nat_list_cmp_total q k v es

  pub at-without_key : (es : List (List ℕ × V)) (k q : List ℕ) → value_at (without_key es k) q ≡ cond (ties q k) None (value_at es q)
  at-without_key es k q =
      let test : List ℕ → Bool = λ x. not (ties k x) in
      find-where_key order test q (λ x is. ap test (sym (same_key q x is))) es
      ∙ cond_not (ties k q) (value_at es q) None
      ∙ ap (λ b. cond b None (value_at es q)) (ties_flip k q)

  pub at-set_at : (es : List (List ℕ × V)) (k q : List ℕ) (o : Option V) → value_at (set_at es k o) q ≡ cond (ties q k) o (value_at es q)
  at-set_at es k q None = at-without_key es k q
  at-set_at es k q (Some v) = at-with_key es k q v

  pub rising-with_key : (es : List (List ℕ × V)) (k : List ℕ) (v : V) → AreRising es → AreRising (with_key es k v)
  rising-with_key es k v rising = is_sorted-put order nat_list_cmp_total k v es rising

  pub rising-without_key : (es : List (List ℕ × V)) (k : List ℕ) → AreRising es → AreRising (without_key es k)
  rising-without_key es k rising = is_sorted-where_key order _ es rising

  pub rising-set_at : (es : List (List ℕ × V)) (k : List ℕ) (o : Option V) → AreRising es → AreRising (set_at es k o)
  rising-set_at es k None rising = rising-without_key es k rising
  rising-set_at es k (Some v) rising = rising-with_key es k v rising

  pub rising-added : (es : List (List ℕ × V)) (k : List ℕ) (o : Option V) → AreRising es → AreRising (added es k o)
  rising-added es k None rising = rising
  rising-added es k (Some v) rising = rising-with_key es k v rising

  -- rising maps with the same look-ups are the same
  pub same_pairs : (es fs : List (List ℕ × V)) → AreRising es → AreRising fs → ((q : List ℕ) → value_at es q ≡ value_at fs q) → es ≡ fs
  same_pairs es fs = same_entries order nat_list_cmp_total same_key es fs

  at_below : (k : List ℕ) (es : List (List ℕ × V)) → T (below_all order k es) → value_at es k ≡ None
  at_below k [] h = refl
  at_below k (e ∷ es) h = rw (less (order k e.0) (first (is_lt (order k e.0)) (below_all order k es) h)) (at_below k es (second _ _ h))

  -- the key stands with the pair that is looked at, or with those after it
  pub at_one : (es : List (List ℕ × V)) (key : List ℕ) (i : ℕ) (e : List ℕ × V) → i < length es → e ≡ get_or es i e → value_at (drop i es) key ≡ cond (pointwise nat_eq e.0 key) (Some e.1) (value_at (drop (i + 1) es) key)
  at_one es key i e within here =
      ap (λ left. value_at left key) (one_off es i e within here)
      ∙ ap (λ b. cond b (Some e.1) (value_at (drop (i + 1) es) key)) (ties_flip key e.0 ∙ sym (texts_ties e.0 key))

  -- where the map lacks the key, nothing is taken away
  pub without_absent : (es : List (List ℕ × V)) (key : List ℕ) → value_at es key ≡ None → without_key es key ≡ es
  without_absent [] key none = refl
  without_absent (e ∷ es) key none = elim (ties key e.0) as (λ b. cond b (Some e.1) (value_at es key) ≡ None → cond (not b) (e ∷ without_key es key) (without_key es key) ≡ e ∷ es) [
    | true ↦ λ is. cc
    | false ↦ λ is. ap (λ rest. e ∷ rest) (without_absent es key is)
  ] none

  under_test : (b : Bool) (v : V) (o : Option V) → cond b (Some v) (cond b None o) ≡ cond b (Some v) o
  under_test true v o = refl
  under_test false v o = refl

  -- a key that was taken away is put as one that is there is set
  pub with_key-without_key : (es : List (List ℕ × V)) (key : List ℕ) (v : V) → AreRising es → with_key (without_key es key) key v ≡ with_key es key v
  with_key-without_key es key v rising =
      same_pairs _ _ (rising-with_key (without_key es key) key v (rising-without_key es key rising)) (rising-with_key es key v rising) (λ q.
      at-with_key (without_key es key) key q v
      ∙ ap (λ o. cond (ties q key) (Some v) o) (at-without_key es key q)
      ∙ under_test (ties q key) v (value_at es q)
      ∙ sym (at-with_key es key q v))

  -- a value that a key has is put back
  pub with_key-known : (es : List (List ℕ × V)) (key : List ℕ) (v : V) → AreRising es → Some v ≡ value_at es key → with_key es key v ≡ es
  with_key-known es key v rising there =
      same_pairs _ _ (rising-with_key es key v rising) rising (λ q.
      at-with_key es key q v
      ∙ by_tie (λ b. cond b (Some v) (value_at es q) ≡ value_at es q) q key (λ same. there ∙ ap (value_at es) (sym same)) refl)

  -- the first of rising keys doesn't stand later
  pub none_later : (e : List ℕ × V) (es : List (List ℕ × V)) → AreRising (e ∷ es) → value_at es e.0 ≡ None
  none_later e es rising = at_below e.0 es (first _ _ rising)

  below_lower : (k l : List ℕ) (es : List (List ℕ × V)) → order k l ≡ Less → T (below_all order l es) → T (below_all order k es)
  below_lower k l [] lower h = tt
  below_lower k l (e ∷ es) lower h = and_holds _ _ (subst (λ o. T (is_lt o)) (sym (nat_list_cmp_total.trans k l e.0 lower (less _ (first _ _ h)))) tt) (below_lower k l es lower (second _ _ h))

  pub rising_rest : (e : List ℕ × V) (es : List (List ℕ × V)) → AreRising (e ∷ es) → AreRising es
  rising_rest e es rising = second _ _ rising

  -- the first pair is taken by its key
  pub taken_first : (e : List ℕ × V) (es : List (List ℕ × V)) → AreRising (e ∷ es) → IsTaken e.0 (Some e.1) (e ∷ es) es
  taken_first e es rising = record {
    found_is = sym (ap (λ o. cond (is_eq o) (Some e.1) (value_at es e.0)) (order_itself e.0));
    rest_is = sym (ap (λ o. cond (not (is_eq o)) (e ∷ without_key es e.0) (without_key es e.0)) (order_itself e.0) ∙ without_absent es e.0 (at_below e.0 es (first _ _ rising)));
  }

  -- a key below the first takes nothing
  pub taken_lower : (k : List ℕ) (e : List ℕ × V) (es : List (List ℕ × V)) → AreRising (e ∷ es) → order k e.0 ≡ Less → IsTaken k None (e ∷ es) (e ∷ es)
  taken_lower k e es rising lower =
      let below : T (below_all order k (e ∷ es)) = and_holds _ _ (subst (λ o. T (is_lt o)) (sym lower) tt) (below_lower k e.0 es lower (first _ _ rising)) in
      let none = at_below k (e ∷ es) below in
      record { found_is = sym none; rest_is = sym (without_absent (e ∷ es) k none) }

  pub taken_first_at : (k : List ℕ) (e : List ℕ × V) (all rest : List (List ℕ × V)) → all ≡ e ∷ rest → AreRising all → k ≡ e.0 → IsTaken k (Some e.1) all rest
  taken_first_at k e all rest is rising same =
      subst (λ l. IsTaken k (Some e.1) l rest) (sym is) (subst (λ q. IsTaken q (Some e.1) (e ∷ rest) rest) (sym same) (taken_first e rest (subst AreRising is rising)))

  pub taken_lower_at : (k : List ℕ) (e : List ℕ × V) (all rest : List (List ℕ × V)) → all ≡ e ∷ rest → AreRising all → order k e.0 ≡ Less → IsTaken k None all all
  taken_lower_at k e all rest is rising lower = subst (λ l. IsTaken k None l l) (sym is) (taken_lower k e rest (subst AreRising is rising) lower)

  below_middle : (low : List ℕ) (done : List (List ℕ × V)) (e : List ℕ × V) (more : List (List ℕ × V)) → T (below_all order low (done ++ e ∷ more)) → T (is_lt (order low e.0)) × T (below_all order low (done ++ more))
  below_middle low [] e more h = (first _ _ h, second _ _ h)
  below_middle low (d ∷ done) e more h =
      let rest = below_middle low done e more (second _ _ h) in
      (rest.0, and_holds _ _ (first _ _ h) rest.1)

  -- a key that is above those before it goes last
  pub put_last : (done : List (List ℕ × V)) (k : List ℕ) (v : V) (more : List (List ℕ × V)) → AreRising (done ++ (k, v) ∷ more) → with_key done k v ≡ done ++ (k, v) ∷ []
  put_last [] k v more h = refl
  put_last (d ∷ done) k v more h =
      let above : order k d.0 ≡ Greater = flipped d.0 k Less (less _ (below_middle d.0 done (k, v) more (first _ _ h)).0) in
      rw above (ap (λ rest. d ∷ rest) (put_last done k v more (second _ _ h)))

  -- what is found in a front is found in the whole
  pub found_in_front : (front left : List (List ℕ × V)) (k : List ℕ) (v : V) → value_at front k ≡ Some v → value_at (front ++ left) k ≡ Some v
  found_in_front [] left k v is = absurd (cc)
  found_in_front (e ∷ front) left k v is =
      elim (ties k e.0) as (λ b. cond b (Some e.1) (value_at front k) ≡ Some v → cond b (Some e.1) (value_at (front ++ left) k) ≡ Some v) [
        | true ↦ λ there. there
        | false ↦ λ there. found_in_front front left k v there
      ] is

  -- what stands under a key in the middle of rising pairs
  pub found_within : (front : List (List ℕ × V)) (k : List ℕ) (v : V) (left : List (List ℕ × V)) → AreRising (front ++ (k, v) ∷ left) → value_at (front ++ (k, v) ∷ left) k ≡ Some v
  found_within front k v left rising =
      ap (λ ps. value_at ps k) (sym (append_assoc front ((k, v) ∷ []) left))
      ∙ found_in_front (front ++ (k, v) ∷ []) left k v (ap (λ ps. value_at ps k) (sym (put_last front k v left rising)) ∙ at-with_key front k k v ∙ rw (order_itself k) refl)

  -- a pair fewer
  pub rising_without : (done : List (List ℕ × V)) (e : List ℕ × V) (more : List (List ℕ × V)) → AreRising (done ++ e ∷ more) → AreRising (done ++ more)
  rising_without [] e more h = second _ _ h
  rising_without (d ∷ done) e more h = and_holds _ _ (below_middle d.0 done e more (first _ _ h)).1 (rising_without done e more (second _ _ h))

  -- a pair more at the end of what is done
  pub rising_on : (done : List (List ℕ × V)) (e : List ℕ × V) (more : List (List ℕ × V)) → AreRising (done ++ e ∷ more) → AreRising ((done ++ e ∷ []) ++ more)
  rising_on done e more h = subst AreRising (sym (append_assoc done (e ∷ []) more)) h

  module _ (P : V → Type 0) where
    pub each-with_key : (es : List (List ℕ × V)) (k : List ℕ) (v : V) → EachValue P es → P v → EachValue P (with_key es k v)
    each-with_key [] k v each new = (new, tt)
    each-with_key (e ∷ es) k v each new = elim (order k e.0) as (λ o. EachValue P (by_order o ((k, v) ∷ e ∷ es) ((e.0, v) ∷ es) (e ∷ with_key es k v))) [
      | Less ↦ (new, each)
      | Equal ↦ (new, each.1)
      | Greater ↦ (each.0, each-with_key es k v each.1 new)
    ]

    pub each-where_key : (p : List ℕ → Bool) (es : List (List ℕ × V)) → EachValue P es → EachValue P (where_key order p es)
    each-where_key p [] each = tt
    each-where_key p (e ∷ es) each = elim (p e.0) as (λ b. EachValue P (cond b (e ∷ where_key order p es) (where_key order p es))) [
      | true ↦ (each.0, each-where_key p es each.1)
      | false ↦ each-where_key p es each.1
    ]

pub option_map-after : {A B C : Type 0} (o : Option A) (f : A → B) (g : B → C) → option_map (λ x. g (f x)) o ≡ option_map g (option_map f o)
option_map-after None f g = refl
option_map-after (Some x) f g = refl

module _ {V W : Type 0} (g : V → W) where
  option_cond : (b : Bool) (v : V) (o : Option V) → option_map g (cond b (Some v) o) ≡ cond b (Some (g v)) (option_map g o)
  option_cond true v o = refl
  option_cond false v o = refl

  pub at-seen : (es : List (List ℕ × V)) (q : List ℕ) → value_at (seen g es) q ≡ option_map g (value_at es q)
  at-seen [] q = refl
  at-seen (e ∷ es) q = rw (at-seen es q) (sym (option_cond (ties q e.0) e.1 (value_at es q)))

  seen-by_order : (o : Ordering) (a b c : List (List ℕ × V)) → seen g (by_order o a b c) ≡ by_order o (seen g a) (seen g b) (seen g c)
  seen-by_order Less a b c = refl
  seen-by_order Equal a b c = refl
  seen-by_order Greater a b c = refl

  pub seen-with_key : (es : List (List ℕ × V)) (k : List ℕ) (v : V) → seen g (with_key es k v) ≡ with_key (seen g es) k (g v)
  seen-with_key [] k v = refl
  seen-with_key (e ∷ es) k v = seen-by_order (order k e.0) _ _ _ ∙ rw (seen-with_key es k v) refl

  seen-where_key : (p : List ℕ → Bool) (es : List (List ℕ × V)) → seen g (where_key order p es) ≡ where_key order p (seen g es)
  seen-where_key p [] = refl
  seen-where_key p (e ∷ es) = elim (p e.0) as (λ b. seen g (cond b (e ∷ where_key order p es) (where_key order p es)) ≡ cond b ((e.0, g e.1) ∷ where_key order p (seen g es)) (where_key order p (seen g es))) [
    | true ↦ ap (λ rest. (e.0, g e.1) ∷ rest) (seen-where_key p es)
    | false ↦ seen-where_key p es
  ]

  pub seen-without_key : (es : List (List ℕ × V)) (k : List ℕ) → seen g (without_key es k) ≡ without_key (seen g es) k
  seen-without_key es k = seen-where_key (λ q. not (ties k q)) es

  pub keys_of-seen : (es : List (List ℕ × V)) → keys_of (seen g es) ≡ keys_of es
  keys_of-seen [] = refl
  keys_of-seen (e ∷ es) = ap (λ ks. e.0 ∷ ks) (keys_of-seen es)

  below-seen : (k : List ℕ) (es : List (List ℕ × V)) → below_all order k (seen g es) ≡ below_all order k es
  below-seen k [] = refl
  below-seen k (e ∷ es) = ap (λ b. is_lt (order k e.0) && b) (below-seen k es)

  pub rising-seen : (es : List (List ℕ × V)) → is_sorted order (seen g es) ≡ is_sorted order es
  rising-seen [] = refl
  rising-seen (e ∷ es) = λ i. below-seen e.0 es i && rising-seen es i

  -- look-ups and changes of a map that is seen as m
  module _ (es : List (List ℕ × V)) (m : List (List ℕ × W)) (is : seen g es ≡ m) (key : List ℕ) where
    pub value_seen : option_map g (value_at es key) ≡ value_at m key
    value_seen = sym (at-seen es key) ∙ ap (λ ps. value_at ps key) is

    pub with_key_seen : (v : V) → seen g (with_key es key v) ≡ with_key m key (g v)
    with_key_seen v = seen-with_key es key v ∙ ap (λ ps. with_key ps key (g v)) is

    pub without_key_seen : seen g (without_key es key) ≡ without_key m key
    without_key_seen = seen-without_key es key ∙ ap (λ ps. without_key ps key) is
