-- Maps that are built of those records of another that pass a test, and lists that are searched.
use Rattle.std.proofs.Common.{◌≡◌, ℕ, zero, suc, Bool, true, false, cond, ◌||◌, ◌&&◌, ◌+◌, ◌<◌, ◌≤◌, length, map, drop, get_or, subst, List, [], ◌∷◌, ◌++◌, append_assoc, Option, Some, refl, sym, ap, ◌∙◌}
use Rattle.std.specs.Prelude.{filter, is_some}
use Rattle.std.specs.List.{find}
use Rattle.std.proofs.lemmas.List.{at_drop_more, append-nil, drop_all}
use Rattle.rooms_val.specs.View.{data_of, pairs_view}
use Rattle.rooms_val.specs.declared.val.Val.{Val}
use Rattle.side_effects.proofs.FilterLemmas.{rising-filter}
use Rattle.rooms_val.specs.Data.{Data, Pairs}
use Rattle.rooms_val.specs.Maps.{AreRising, value_at, with_key, ties}
use Rattle.rooms_val.proofs.MapsLemmas.{put_last, at-with_key, rising_rest}
use Rattle.field_ops.specs.RecordOps.{put, RecordOps}
use Rattle.clip_content.specs.Pasted.{put_each}
use Rattle.shape_tree.specs.Records.{is_shape}
use Rattle.side_effects.specs.Reaching.{reaches}
use Rattle.side_effects.specs.Records.{has}
use Rattle.side_effects.specs.Whole.{parents}
use Rattle.clip_content.specs.Copied.{is_one_of, first_again, shapes_under}

module _ {V : Type 0} (test : List ℕ × V → Bool) where
  -- one record more, kept where it passes
  pub kept_more : (done more : List (List ℕ × V)) (e : List ℕ × V) → AreRising (done ++ filter test (e ∷ more))
      → cond (test e) (with_key done e.0 e.1) done ++ filter test more ≡ done ++ filter test (e ∷ more)
  kept_more done more e = elim (test e) as (λ b. AreRising (done ++ cond b (e ∷ filter test more) (filter test more)) → cond b (with_key done e.0 e.1) done ++ filter test more ≡ done ++ cond b (e ∷ filter test more) (filter test more)) [
    | true ↦ λ rising. ap (λ es. es ++ filter test more) (put_last done e.0 e.1 (filter test more) rising) ∙ append_assoc done (e ∷ []) (filter test more)
    | false ↦ λ rising. refl
  ]

-- what is left of a list begins with the item at its place
pub at_front : {X Y : Type 0} (F : List X → Y) (xs : List X) (i : ℕ) (x : X) → i < length xs → x ≡ get_or xs i x → F (drop i xs) ≡ F (x ∷ drop (i + 1) xs)
at_front F xs i x within is = at_drop_more F xs i x within ∙ ap (λ y. F (y ∷ drop (i + 1) xs)) (sym is)

module _ {X : Type 0} (test : X → Bool) where
  pub found_here : (x : X) (xs : List X) → test x ≡ true → find test (x ∷ xs) ≡ Some x
  found_here x xs is = ap (λ b. cond b (Some x) (find test xs)) is

  pub found_later : (x : X) (xs : List X) → test x ≡ false → find test (x ∷ xs) ≡ find test xs
  found_later x xs is = ap (λ b. cond b (Some x) (find test xs)) is

or_over : (a b c : Bool) → ((a || b) || c) ≡ (b || (a || c))
or_over true true c = refl
or_over true false c = refl
or_over false b c = refl

some_or : {A : Type 0} (t : Bool) (x : A) (o : Option A) → is_some (cond t (Some x) o) ≡ (t || is_some o)
some_or true x o = refl
some_or false x o = refl

-- one id more in a set of ids
pub set_more : {V : Type 0} (set : List (List ℕ × V)) (id : List ℕ) (v : V) (q : List ℕ) → is_some (value_at (with_key set id v) q) ≡ (ties q id || is_some (value_at set q))
set_more set id v q = ap is_some (at-with_key set id q v) ∙ some_or (ties q id) v (value_at set q)

pub moved_over : {V : Type 0} (set : List (List ℕ × V)) (id : List ℕ) (v : V) (q : List ℕ) (rest : Bool) → (is_some (value_at (with_key set id v) q) || rest) ≡ (is_some (value_at set q) || (ties q id || rest))
moved_over set id v q rest = ap (λ b. b || rest) (set_more set id v q) ∙ or_over (ties q id) (is_some (value_at set q)) rest

-- what a copy keeps of a document, by a set of ids
abbrev pub is_kept : Pairs → Pairs → List ℕ × Data → Bool
is_kept m set e = is_shape e.0 && reaches (parents m) (has set) (length m) e.0

pub kept_is : (m set : Pairs) (ids : List (List ℕ)) → ((q : List ℕ) → has set q ≡ is_one_of ids q) → filter (is_kept m set) m ≡ shapes_under m ids
kept_is m set ids same = λ i. filter (λ e. is_shape e.0 && reaches (parents m) (λ q. same q i) (length m) e.0) m

-- how far the search for an id that stood before has come
pub record IsAgain (ids left : List (List ℕ)) (before : Pairs) : Type 0 where
  pub met : List (List ℕ)
  pub same : first_again met left ≡ first_again [] ids
  pub set : (q : List ℕ) → has before q ≡ is_one_of met q

pub again_none : (ids : List (List ℕ)) → IsAgain ids ids []
again_none ids = record { met = []; same = refl; set = λ q. refl }

module _ (ids : List (List ℕ)) (id : List ℕ) (left : List (List ℕ)) (before : Pairs) (at : IsAgain ids (id ∷ left) before) where
  pub again_found : has before id ≡ true → first_again [] ids ≡ Some id
  again_found is = sym at.same ∙ ap (λ b. cond b (Some id) (first_again (id ∷ at.met) left)) (sym (at.set id) ∙ is)

  pub again_more : (v : Data) → has before id ≡ false → IsAgain ids left (with_key before id v)
  again_more v isnt = record {
    met = id ∷ at.met;
    same = sym (ap (λ b. cond b (Some id) (first_again (id ∷ at.met) left)) (sym (at.set id) ∙ isnt)) ∙ at.same;
    set = λ q. set_more before id v q ∙ ap (λ b. ties q id || b) (at.set q);
  }

module _ (test : List ℕ × Data → Bool) (items : List (List ℕ × Val)) (i : ℕ) where
  -- one record more of those that are looked at
  pub kept_next : (item : List ℕ × Val) → i < length items → item ≡ get_or items i item → (done new : Pairs) → done ++ filter test (pairs_view (drop i items)) ≡ filter test (pairs_view items)
      → AreRising (pairs_view items) → new ≡ cond (test (item.0, data_of item.1)) (with_key done item.0 (data_of item.1)) done → new ++ filter test (pairs_view (drop (i + 1) items)) ≡ filter test (pairs_view items)
  kept_next item within is done new so_far rising step =
      let e : List ℕ × Data = (item.0, data_of item.1) in
      let left = pairs_view (drop (i + 1) items) in
      let known : done ++ filter test (e ∷ left) ≡ filter test (pairs_view items) = ap (λ es. done ++ filter test es) (sym (at_front pairs_view items i item within is)) ∙ so_far in
      ap (λ s. s ++ filter test left) step ∙ kept_more test done left e (subst AreRising (sym known) (rising-filter test (pairs_view items) rising)) ∙ known

  -- none is left
  pub kept_all : (done : Pairs) → done ++ filter test (pairs_view (drop i items)) ≡ filter test (pairs_view items) → length items ≤ i → done ≡ filter test (pairs_view items)
  kept_all done so_far past = sym (append-nil done) ∙ ap (λ es. done ++ filter test (pairs_view es)) (sym (drop_all i items past)) ∙ so_far

-- one record more that is put
pub put_next : (make : List ℕ × Data → List ℕ × Data) (items : List (List ℕ × Val)) (i : ℕ) (item : List ℕ × Val) → i < length items → item ≡ get_or items i item
    → (before done new : RecordOps) → put_each done (map make (pairs_view (drop i items))) ≡ before → (id : List ℕ) (d : Data) → id ≡ (make (item.0, data_of item.1)).0 → d ≡ (make (item.0, data_of item.1)).1
    → new ≡ with_key done id (put d) → put_each new (map make (pairs_view (drop (i + 1) items))) ≡ before
put_next make items i item within is before done new so_far id d id_is d_is step =
    ap (λ ops. put_each ops (map make (pairs_view (drop (i + 1) items)))) (step ∙ (λ j. with_key done (id_is j) (put (d_is j))))
    ∙ sym (at_front (λ es. put_each done (map make (pairs_view es))) items i item within is)
    ∙ so_far

pub rising_drop : (n : ℕ) (items : List (List ℕ × Val)) → AreRising (pairs_view items) → AreRising (pairs_view (drop n items))
rising_drop zero items rising = rising
rising_drop (suc n) [] rising = rising
rising_drop (suc n) (x ∷ xs) rising = rising_drop n xs (rising_rest (x.0, data_of x.1) (pairs_view xs) rising)
