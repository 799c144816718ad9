-- What a tree's calls make of the counts that it stands for, and what a change makes of each count.
use Rattle.std.proofs.Common.{◌≡◌, ℕ, zero, suc, ◌+◌, ◌-◌, ◌<◌, ◌≤◌, add-one, List, [], ◌∷◌, length, take, get_or, Bool, true, false, not, cond, T, is_eq, nat_lt, Option, option_map, Some, None, Less, Equal, Greater, refl, sym, ap, subst, ◌∙◌, arith}
use Rattle.std.proofs.lemmas.List.{take_all}
use Rattle.std.specs.Prelude.{string_bytes, is_some, unwrap_or, Result, Ok, Err, OnOk}
use Rattle.std.specs.Ordering.{match_ordering, nat_cmp, is_lt}
use Rattle.std.specs.Cmp.Lexicographic.{slice_cmp}
use Rattle.std.specs.FinMap.Entries.{by_order, below_all, is_sorted}
use Rattle.std.specs.BTreeMap.{insert_entry, is_at}
use Rattle.std.specs.Map.{lookup, remove_entry, set_value}
use Rattle.std.specs.String.{string_cmp}
use Rattle.std.specs.declared.string.String.{String}
use Rattle.rooms_val.specs.Maps.{order, AreRising, value_at, with_key, without_key, ties, seen}
use Rattle.rooms_val.proofs.MapsLemmas.{first, second, by_tie, order_itself, rising_rest, taken_first, taken_lower, none_later, at-with_key, at-without_key, rising-with_key, rising-without_key, at-seen, rising-seen}
use Rattle.rooms_val.proofs.Truths.{and_holds}
use Rattle.edit_names.specs.Names.{Names, count_at, once, AreNames, names_view}

on_both : {X : Type 0} (b : Bool) (e : X) (x y : List X) → e ∷ cond b x y ≡ cond b (e ∷ x) (e ∷ y)
on_both true e x y = refl
on_both false e x y = refl

module _ {Y : Type 0} where
  value_at-names_view : (es : List (String Y × ℕ)) (q : List ℕ) → value_at (names_view es) q ≡ lookup (is_at (λ k. slice_cmp nat_cmp q (string_bytes k))) es
  value_at-names_view [] q = refl
  value_at-names_view (e ∷ es) q = ap (cond (ties q (string_bytes e.0)) (Some e.1)) (value_at-names_view es q)

  -- what a look-up finds, where es are a tree's entries and s the counts that it stands for
  pub found : (es : List (String Y × ℕ)) (s : Names) (q : List ℕ) (o : Option ℕ) → names_view es ≡ s → o ≡ lookup (is_at (λ k. slice_cmp nat_cmp q (string_bytes k))) es → o ≡ value_at s q
  found es s q o seen is = is ∙ sym (value_at-names_view es q) ∙ ap (λ t. value_at t q) seen

  pub names_view-insert : (es : List (String Y × ℕ)) (k : String Y) (v : ℕ) → names_view (insert_entry string_cmp es k v) ≡ with_key (names_view es) (string_bytes k) v
  names_view-insert [] k v = refl
  names_view-insert (e ∷ es) k v =
      elim (order (string_bytes k) (string_bytes e.0)) as (λ o. names_view (match_ordering o ((k, v) ∷ e ∷ es) ((e.0, v) ∷ es) (e ∷ insert_entry string_cmp es k v))
      ≡ by_order o ((string_bytes k, v) ∷ names_view (e ∷ es)) ((string_bytes e.0, v) ∷ names_view es) ((string_bytes e.0, e.1) ∷ with_key (names_view es) (string_bytes k) v)) [
        | Less ↦ refl
        | Equal ↦ refl
        | Greater ↦ ap (λ rest. (string_bytes e.0, e.1) ∷ rest) (names_view-insert es k v)
      ]

  pub names_view-remove : (es : List (String Y × ℕ)) (q : List ℕ) → AreRising (names_view es) → names_view (remove_entry (is_at (λ k. slice_cmp nat_cmp q (string_bytes k))) es) ≡ without_key (names_view es) q
  names_view-remove [] q rising = refl
  names_view-remove (e ∷ es) q rising =
      let k = string_bytes e.0 in
      let first : List ℕ × ℕ = (k, e.1) in
      by_tie (λ t. names_view (cond t es (e ∷ remove_entry (is_at (λ l. slice_cmp nat_cmp q (string_bytes l))) es)) ≡ cond (not t) (first ∷ without_key (names_view es) q) (without_key (names_view es) q)) q k
      (λ same.
      (taken_first first (names_view es) rising).rest_is
      ∙ ap (λ o. cond (not (is_eq o)) (first ∷ without_key (names_view es) k) (without_key (names_view es) k)) (order_itself k)
      ∙ ap (without_key (names_view es)) (sym same)) (ap (λ rest. first ∷ rest) (names_view-remove es q (rising_rest first (names_view es) rising)))

  -- a count that is written in place
  pub names_view-set : (es : List (String Y × ℕ)) (q : List ℕ) (v : ℕ) → AreRising (names_view es)
      → names_view (set_value (is_at (λ k. slice_cmp nat_cmp q (string_bytes k))) es v) ≡ cond (is_some (value_at (names_view es) q)) (with_key (names_view es) q v) (names_view es)
  names_view-set [] q v rising = refl
  names_view-set (e ∷ es) q v rising =
      let k = string_bytes e.0 in
      let first : List ℕ × ℕ = (k, e.1) in
      let rest = names_view es in
      let later = set_value (is_at (λ l. slice_cmp nat_cmp q (string_bytes l))) es v in
      let after = names_view-set es q v (rising_rest first rest rising) in
      elim (order q k) as (λ o. order q k ≡ o → names_view (cond (is_eq o) ((e.0, v) ∷ es) (e ∷ later))
      ≡ cond (is_some (cond (is_eq o) (Some e.1) (value_at rest q))) (by_order o ((q, v) ∷ first ∷ rest) ((k, v) ∷ rest) (first ∷ with_key rest q v)) (first ∷ rest)) [
        | Less ↦ λ is.
            let none : None ≡ value_at rest q = (taken_lower q first rest rising is).found_is ∙ ap (λ o. cond (is_eq o) (Some e.1) (value_at rest q)) is in
            ap (λ l. first ∷ l) (after ∙ ap (λ o. cond (is_some o) (with_key rest q v) rest) (sym none)) ∙ ap (λ o. cond (is_some o) ((q, v) ∷ first ∷ rest) (first ∷ rest)) none
        | Equal ↦ λ is. refl
        | Greater ↦ λ is. ap (λ l. first ∷ l) after ∙ on_both (is_some (value_at rest q)) first (with_key rest q v) rest
      ] refl

  -- the same where the id is held
  pub set_is : (es after : List (String Y × ℕ)) (s : Names) (q : List ℕ) (n w : ℕ) → AreRising (names_view es) → names_view es ≡ s
      → Some w ≡ lookup (is_at (λ k. slice_cmp nat_cmp q (string_bytes k))) es
      → after ≡ set_value (is_at (λ k. slice_cmp nat_cmp q (string_bytes k))) es n → names_view after ≡ with_key s q n
  set_is es after s q n w rising seen there is =
      ap names_view is ∙ names_view-set es q n rising
      ∙ ap (λ t. cond (is_some (value_at t q)) (with_key t q n) t) seen
      ∙ ap (λ o. cond (is_some o) (with_key s q n) s) (sym (found es s q (Some w) seen there))

-- no count is 0 after a count that isn't was put
pub names-with_key : (names : Names) (id : List ℕ) (n : ℕ) → AreNames names → 0 < n → AreNames (with_key names id n)
names-with_key names id n are some = record {
  rising = rising-with_key names id n are.rising;
  named = λ q. subst (λ o. ¬ (o ≡ Some 0)) (sym (at-with_key names id q n)) (elim (ties q id) as (λ b. ¬ (cond b (Some n) (value_at names q) ≡ Some 0)) [
    | true ↦ λ is. (let zero : n ≡ 0 = ap (λ o. unwrap_or o 0) is in omega arith)
    | false ↦ are.named q
  ]);
}

pub names-without_key : (names : Names) (id : List ℕ) → AreNames names → AreNames (without_key names id)
names-without_key names id are = record {
  rising = rising-without_key names id are.rising;
  named = λ q. subst (λ o. ¬ (o ≡ Some 0)) (sym (at-without_key names id q)) (elim (ties q id) as (λ b. ¬ (cond b None (value_at names q) ≡ Some 0)) [
    | true ↦ λ is. cc
    | false ↦ are.named q
  ]);
}

count_of : (b : Bool) (o p : Option ℕ) → unwrap_or (cond b o p) 0 ≡ cond b (unwrap_or o 0) (unwrap_or p 0)
count_of true o p = refl
count_of false o p = refl

pub count-with_key : (names : Names) (id q : List ℕ) (n : ℕ) → count_at (with_key names id n) q ≡ cond (ties q id) n (count_at names q)
count-with_key names id q n = ap (λ o. unwrap_or o 0) (at-with_key names id q n) ∙ count_of (ties q id) (Some n) (value_at names q)

pub count-without_key : (names : Names) (id q : List ℕ) → count_at (without_key names id) q ≡ cond (ties q id) 0 (count_at names q)
count-without_key names id q = ap (λ o. unwrap_or o 0) (at-without_key names id q) ∙ count_of (ties q id) None (value_at names q)

-- an id is held exactly where its count isn't 0
pub held_is : (o : Option ℕ) → ¬ (o ≡ Some 0) → is_some o ≡ nat_lt 0 (unwrap_or o 0)
held_is None apart = refl
held_is (Some n) apart = let some : ¬ (n ≡ 0) = λ is. apart (ap Some is) in grind arith

-- one more
pub raised : (names : Names) (id q : List ℕ) (n : ℕ) → n ≡ count_at names id + 1 → count_at (with_key names id n) q ≡ count_at names q + cond (ties q id) 1 0
raised names id q n is = count-with_key names id q n
    ∙ by_tie (λ b. cond b n (count_at names q) ≡ count_at names q + cond b 1 0) q id (λ same. is ∙ ap (λ k. count_at names k + 1) (sym same)) (omega arith)

-- one less
pub lowered : (names : Names) (id q : List ℕ) (n : ℕ) → n ≡ count_at names id - 1 → count_at (with_key names id n) q ≡ count_at names q - cond (ties q id) 1 0
lowered names id q n is = count-with_key names id q n
    ∙ by_tie (λ b. cond b n (count_at names q) ≡ count_at names q - cond b 1 0) q id (λ same. is ∙ ap (λ k. count_at names k - 1) (sym same)) (omega arith)

-- the last one
pub settled : (names : Names) (id q : List ℕ) → count_at names id ≤ 1 → count_at (without_key names id) q ≡ count_at names q - cond (ties q id) 1 0
settled names id q few = count-without_key names id q
    ∙ by_tie (λ b. cond b 0 (count_at names q) ≡ count_at names q - cond b 1 0) q id (λ same. let is = ap (count_at names) same in omega (arith, is, few)) (omega arith)

pub on_ok : {T E : Type 0} {A B : Type 0} (r : Result T E) → (A → B) → OnOk r A → OnOk r B
on_ok (Ok x) f told = f told
on_ok (Err e) f told = tt

module _ {V : Type 0} where
  apart : (es : List (List ℕ × V)) (i : ℕ) (x : List ℕ × V) (q : List ℕ) → i < length es → x ≡ get_or es i x → value_at es q ≡ None → ties q x.0 ≡ false
  apart [] i x q within here none = absurd (let below : i < 0 = within in omega (arith, below))
  apart (e ∷ es) zero x q within here none = rw here (elim (ties q e.0) as (λ b. cond b (Some e.1) (value_at es q) ≡ None → b ≡ false) [ true ↦ λ is. cc | false ↦ λ is. refl ] none)
  apart (e ∷ es) (suc i) x q within here none = apart es i x q (omega (arith, within)) here (elim (ties q e.0) as (λ b. cond b (Some e.1) (value_at es q) ≡ None → value_at es q ≡ None) [ true ↦ λ is. cc | false ↦ λ is. is ] none)

  named_next : (es : List (List ℕ × V)) (i : ℕ) (x : List ℕ × V) (q : List ℕ) → AreRising es → i < length es → x ≡ get_or es i x → once (take (suc i) es) q ≡ once (take i es) q + cond (ties q x.0) 1 0
  named_next [] i x q rising within here = absurd (let below : i < 0 = within in omega (arith, below))
  named_next (e ∷ es) zero x q rising within here = rw here (elim (ties q e.0) as (λ b. cond (is_some (cond b (Some e.1) None)) 1 0 ≡ 0 + cond b 1 0) [ true ↦ refl | false ↦ refl ])
  named_next (e ∷ es) (suc i) x q rising within here =
      by_tie (λ b. cond (is_some (cond b (Some e.1) (value_at (take (suc i) es) q))) 1 0 ≡ cond (is_some (cond b (Some e.1) (value_at (take i es) q))) 1 0 + cond (ties q x.0) 1 0) q e.0
      (λ same. sym (ap (λ b. 1 + cond b 1 0) (apart es i x q (omega (arith, within)) here (ap (value_at es) same ∙ none_later e es rising))))
      (named_next es i x q (rising_rest e es rising) (omega (arith, within)) here)

  below-take : (k : List ℕ) (n : ℕ) (es : List (List ℕ × V)) → T (below_all order k es) → T (below_all order k (take n es))
  below-take k zero es below = tt
  below-take k (suc n) [] below = tt
  below-take k (suc n) (e ∷ es) below = and_holds (is_lt (order k e.0)) (below_all order k (take n es)) (first (is_lt (order k e.0)) (below_all order k es) below) (below-take k n es (second (is_lt (order k e.0)) (below_all order k es) below))

  -- the first ids rise too
  pub rising-take : (n : ℕ) (es : List (List ℕ × V)) → AreRising es → AreRising (take n es)
  rising-take zero es rising = tt
  rising-take (suc n) [] rising = tt
  rising-take (suc n) (e ∷ es) rising = and_holds (below_all order e.0 (take n es)) (is_sorted order (take n es)) (below-take e.0 n es (first (below_all order e.0 es) (is_sorted order es) rising)) (rising-take n es (rising_rest e es rising))

  -- the ids of the diff so far, and one more
  pub once-next : (es : List (List ℕ × V)) (i : ℕ) (x : List ℕ × V) (q : List ℕ) → AreRising es → i < length es → x ≡ get_or es i x → once (take (i + 1) es) q ≡ once (take i es) q + cond (ties q x.0) 1 0
  once-next es i x q rising within here = rw add-one (named_next es i x q rising within here)

  pub once-all : (es : List (List ℕ × V)) (i : ℕ) (q : List ℕ) → length es ≤ i → once (take i es) q ≡ once es q
  once-all es i q past = ap (λ l. once l q) (take_all i es past)

pub some-map : {X Z : Type 0} (f : X → Z) (o : Option X) → is_some (option_map f o) ≡ is_some o
some-map f None = refl
some-map f (Some x) = refl

-- a diff names the ids of its operations
pub once-seen : {X Z : Type 0} (f : X → Z) (es : List (List ℕ × X)) (q : List ℕ) → once es q ≡ once (seen f es) q
once-seen f es q = sym (ap (λ b. cond b 1 0) (ap is_some (at-seen f es q) ∙ some-map f (value_at es q)))

pub rising-ids : {X Z : Type 0} (f : X → Z) (es : List (List ℕ × X)) (diff : List (List ℕ × Z)) → seen f es ≡ diff → AreRising diff → AreRising es
rising-ids f es diff is rising = subst T (rising-seen f es) (subst AreRising (sym is) rising)
