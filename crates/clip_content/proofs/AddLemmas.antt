-- What a copy has, and what its paste adds.
use Rattle.std.proofs.Common.{◌≡◌, ℕ, ◌<◌, Bool, true, false, ◌&&◌, ◌||◌, cond, T, List, [], ◌∷◌, ◌++◌, append_assoc, length, map, Option, Some, None, Result, Ok, Err, Less, inl, inr, refl, sym, ap, subst, ◌∙◌, arith}
use Rattle.std.specs.Prelude.{filter, is_some, nat_lt, option_map, codes}
use Rattle.std.specs.List.{find}
use Rattle.std.specs.Option.{option_map_or}
use Rattle.std.specs.FinMap.Entries.{below_all}
use Rattle.std.specs.Ordering.{is_lt}
use Rattle.std.proofs.lemmas.Bool.{or_parts}
use Rattle.std.proofs.lemmas.Bool.Decides.{nat_tests}
use Rattle.std.proofs.lemmas.List.{append-nil}
use Rattle.rooms_val.specs.Data.{Data, Pairs}
use Rattle.rooms_val.specs.Maps.{order, ties, value_at, seen, keys_of, AreRising}
use Rattle.rooms_val.proofs.MapsLemmas.{first, second, less, by_tie, flipped, order_itself, put_last, rising_on, rising-seen, at-seen, ties_flip}
use Rattle.field_ops.specs.Laws.{raw_after}
use Rattle.field_ops.specs.RecordOps.{put, RecordOps}
use Rattle.doc_model.specs.Documents.{fold_raw}
use Rattle.doc_model.proofs.MergeLemmas.{at-fold_raw}
use Rattle.shape_tree.specs.Records.{is_shape, is_binding}
use Rattle.shape_tree.specs.Trees.{children}
use Rattle.side_effects.specs.ReachingLaws.{IsIn}
use Rattle.side_effects.specs.Records.{has}
use Rattle.side_effects.proofs.FilterLemmas.{rising-filter, is_in-keys}
use Rattle.rooms_val.proofs.Truths.{and_left, and_holds}
use Rattle.room_model.specs.Clips.{ClipTree, TargetTree}
use Rattle.clip_content.specs.Copied.{is_one_of, is_copied, is_within, copied, first_missing, first_again, is_too_much, if_few, taken, shapes_under}
use Rattle.clip_content.specs.Pasted.{new_id, new_shape, new_binding, new_ids, first_taken, put_each, puts, pasted_shape, pasted_binding, pasted_shapes, pasted_bindings, indices_of, tops}
use Rattle.clip_content.specs.Laws.{IsPaste, Adds, added}
use Rattle.room_model.specs.declared.clip_fault.ClipFault.{ClipFault}
use Rattle.room_model.specs.declared.clip_fault.ClipFault.TheVariants.{NoShape, Doubled, TooMany}
use Rattle.clip_content.proofs.ChildLemmas.{IsAt, each_at, apart, clip_is_shape, children_copied}
use Rattle.clip_content.proofs.PlaceLemmas.{new_below}
use Rattle.clip_content.proofs.TopLemmas.{Each, each-weaker}

-- the diff that puts rising records has their puts
put_all : (done : RecordOps) (more : Pairs) → AreRising (done ++ seen put more) → put_each done more ≡ done ++ seen put more
put_all done [] rising = sym (append-nil done)
put_all done (e ∷ es) rising =
    ap (λ ops. put_each ops es) (put_last done e.0 (put e.1) (seen put es) rising)
    ∙ put_all (done ++ (e.0, put e.1) ∷ []) es (rising_on done (e.0, put e.1) (seen put es) rising)
    ∙ append_assoc done ((e.0, put e.1) ∷ []) (seen put es)

puts_rising : (more : Pairs) → AreRising more → AreRising (seen put more)
puts_rising more rising = subst T (sym (rising-seen put more)) rising

pub puts_are : (more : Pairs) → AreRising more → puts more ≡ seen put more
puts_are more rising = put_all [] more (puts_rising more rising)

after_put : (o r : Option Data) → raw_after (option_map put o) r ≡ option_map_or (λ d. Some d) o r
after_put None r = refl
after_put (Some d) r = refl

pub after_puts : (m more : Pairs) → AreRising more → (q : List ℕ) → value_at (fold_raw m (puts more)) q ≡ option_map_or (λ d. Some d) (value_at more q) (value_at m q)
after_puts m more rising q =
    ap (λ ops. value_at (fold_raw m ops) q) (puts_are more rising)
    ∙ at-fold_raw (seen put more) m q (puts_rising more rising)
    ∙ ap (λ o. raw_after o (value_at m q)) (at-seen put more q)
    ∙ after_put (value_at more q) (value_at m q)

-- what stands in entries that are above an id is above it
below_found : (low : List ℕ) (es : Pairs) → T (below_all order low es) → (q : List ℕ) (d : Data) → value_at es q ≡ Some d → order low q ≡ Less
below_found low [] below q d there = absurd (let never : None ≡ Some d = there in (cc))
below_found low (e ∷ es) below q d there =
    by_tie (λ t. cond t (Some e.1) (value_at es q) ≡ Some d → order low q ≡ Less) q e.0
    (λ tied _. ap (order low) tied ∙ less (order low e.0) (first _ _ below))
    (λ later. below_found low es (second _ _ below) q d later)
    there

-- rising entries under new ids
module _ (type prefix : List ℕ) (m : Pairs) (few : length m < 10000) (h : List ℕ × Data → Data) where
  abbrev as_new : List ℕ × Data → List ℕ × Data
  as_new e = (new_id type prefix m e.0, h e)

  below_new : (k : List ℕ) → is_some (value_at m k) ≡ true → (es : Pairs) → T (below_all order k es) → T (below_all order (new_id type prefix m k) (map as_new es))
  below_new k there [] below = tt
  below_new k there (e ∷ es) below =
      and_holds _ _ (subst (λ o. T (is_lt o)) (sym (new_below type prefix m few k e.0 there (less (order k e.0) (first _ _ below)))) tt) (below_new k there es (second _ _ below))

  rising_new : (es : Pairs) → Each (IsAt m) es → AreRising es → AreRising (map as_new es)
  rising_new [] each rising = tt
  rising_new (e ∷ es) each rising = and_holds _ _ (below_new e.0 (ap is_some each.0) es (first _ _ rising)) (rising_new es each.1 (second _ _ rising))

below_both : (k : List ℕ) (xs ys : Pairs) → T (below_all order k xs) → T (below_all order k ys) → T (below_all order k (xs ++ ys))
below_both k [] ys left right = right
below_both k (x ∷ xs) ys left right = and_holds _ _ (first _ _ left) (below_both k xs ys (second _ _ left) right)

rising_both : (xs ys : Pairs) → AreRising xs → AreRising ys → Each (λ e. T (below_all order e.0 ys)) xs → AreRising (xs ++ ys)
rising_both [] ys left right lower = right
rising_both (x ∷ xs) ys left right lower = and_holds _ _ (below_both x.0 xs ys (first _ _ left) lower.0) (rising_both xs ys (second _ _ left) right lower.1)

-- what a clip has that was taken
pub record IsClip (source : Pairs) (clip : ClipTree) : Type 0 where
  pub rising_shapes : AreRising clip.shapes
  pub rising_bindings : AreRising clip.bindings
  pub shapes : Each (λ e. is_shape e.0 ≡ true) clip.shapes
  pub bound : Each (λ e. (is_binding e.0 && is_within clip.shapes e.1) ≡ true) clip.bindings
  pub none : has clip.shapes [] ≡ false
  pub few_shapes : length clip.shapes < 10000
  pub few_bindings : length clip.bindings < 10000
  pub own : (p : List ℕ) → has clip.shapes p ≡ true → children clip.shapes p ≡ children source p

unless_ok : (o : Option (List ℕ)) (fault : List ℕ → ClipFault) (r : Result ClipTree ClipFault) (clip : ClipTree) → option_map_or (λ id. Err (fault id)) o r ≡ Ok clip → r ≡ Ok clip
unless_ok None fault r clip is = is
unless_ok (Some id) fault r clip is = absurd (let never : Err (fault id) ≡ Ok clip = is in (cc))

few_ok : (b : Bool) (made clip : ClipTree) → cond {A = Result ClipTree ClipFault} b (Err TooMany) (Ok made) ≡ Ok clip → (made ≡ clip) × (b ≡ false)
few_ok true made clip is = absurd (let never : Err TooMany ≡ Ok clip = is in (cc))
few_ok false made clip is = (cc is, refl)

few_enough : (n : ℕ) → nat_lt 4096 n ≡ false → n < 10000
few_enough n test = grind (arith, nat_tests)

each_passes : {X : Type 0} (test : X → Bool) (xs : List X) → Each (λ x. test x ≡ true) (filter test xs)
each_passes test [] = tt
each_passes test (x ∷ xs) = elim (test x) as (λ b. test x ≡ b → Each (λ x. test x ≡ true) (cond b (x ∷ filter test xs) (filter test xs))) [
  | true ↦ λ is. (is, each_passes test xs)
  | false ↦ λ _. each_passes test xs
] refl

pub clip_is : (source : Pairs) (ids : List (List ℕ)) (clip : ClipTree) → AreRising source → taken source ids ≡ Ok clip → IsClip source clip
clip_is source ids clip rising is =
    let made = copied source ids in
    let last = unless_ok (first_again [] ids) Doubled (if_few made) clip (unless_ok (first_missing source ids) NoShape (option_map_or (λ id. Err (Doubled id)) (first_again [] ids) (if_few made)) clip is) in
    let known = few_ok (is_too_much made) made clip last in
    let few = or_parts _ _ known.1 in
    subst (IsClip source) known.0 (record {
      rising_shapes = rising-filter (λ e. is_shape e.0 && is_copied source ids e.0) source rising;
      rising_bindings = rising-filter (λ e. is_binding e.0 && is_within made.shapes e.1) source rising;
      shapes = each-weaker _ (λ e. is_shape e.0 ≡ true) (λ e is. and_left (is_shape e.0) (is_copied source ids e.0) is) made.shapes (each_passes (λ e. is_shape e.0 && is_copied source ids e.0) source);
      bound = each_passes (λ e. is_binding e.0 && is_within made.shapes e.1) source;
      none = no_empty (has made.shapes []) refl;
      few_shapes = few_enough (length made.shapes) few.0;
      few_bindings = few_enough (length made.bindings) few.1;
      own = children_copied source ids rising;
    })
  where
    no_empty : (b : Bool) → has (shapes_under source ids) [] ≡ b → b ≡ false
    no_empty true there = absurd (let never : false ≡ true = clip_is_shape source ids rising [] there in (cc))
    no_empty false there = refl

-- ids of entries under new ids, before others
keys_before : (rename : List ℕ → List ℕ) (h : List ℕ × Data → Data) (es more : Pairs) → keys_of (map (λ e. (rename e.0, h e)) es ++ more) ≡ map (λ e. rename e.0) es ++ keys_of more
keys_before rename h [] more = refl
keys_before rename h (e ∷ es) more = ap (λ ids. rename e.0 ∷ ids) (keys_before rename h es more)

none_among : (test : List ℕ → Bool) (xs : List (List ℕ)) → find test xs ≡ None → (x : List ℕ) → IsIn x xs → test x ≡ false
none_among test [] none x is = absurd is
none_among test (y ∷ ys) none x is = elim (test y) as (λ b. test y ≡ b → cond b (Some y) (find test ys) ≡ None → test x ≡ false) [
  | true ↦ λ _ found. absurd (let never : Some y ≡ None = found in (cc))
  | false ↦ λ isnt rest. elim is [
    | inl same ↦ ap test same ∙ isnt
    | inr later ↦ none_among test ys rest x later
  ]
] refl none

in_right : {X : Type 0} (xs ys : List X) (x : X) → IsIn x ys → IsIn x (xs ++ ys)
in_right [] ys x is = is
in_right (y ∷ xs) ys x is = inr (in_right xs ys x is)

in_renamed : (rename : List ℕ → List ℕ) (es : Pairs) (q : List ℕ) → IsIn q (keys_of es) → IsIn (rename q) (map (λ e. rename e.0) es)
in_renamed rename [] q is = absurd is
in_renamed rename (e ∷ es) q is = elim is [
  | inl same ↦ inl (ap rename same)
  | inr later ↦ inr (in_renamed rename es q later)
]

none_there : (o : Option Data) → is_some o ≡ false → o ≡ None
none_there None is = refl
none_there (Some d) is = absurd (let never : true ≡ false = is in (cc))

module _ (source : Pairs) (clip : ClipTree) (target : TargetTree) (keys : List (List ℕ)) (clip_of : IsClip source clip) where
  abbrev indices : Pairs
  indices = indices_of (tops clip) keys

  -- bindings come before shapes
  over : (id : List ℕ) (h : List ℕ × Data → Data) (fs : Pairs) → T (below_all order (new_binding clip target id) (map (λ f. (new_shape clip target f.0, h f)) fs))
  over id h [] = tt
  over id h (f ∷ fs) = over id h fs

  lower : (g h : List ℕ × Data → Data) (es fs : Pairs) → Each {X = List ℕ × Data} (λ e. T (below_all order e.0 (map (λ f. (new_shape clip target f.0, h f)) fs))) (map (λ e. (new_binding clip target e.0, g e)) es)
  lower g h [] fs = tt
  lower g h (e ∷ es) fs = (over e.0 h fs, lower g h es fs)

  pub rising_added : AreRising (added clip target keys)
  rising_added =
      rising_both (pasted_bindings clip target) (pasted_shapes clip target indices)
      (rising_new (codes "binding:") target.prefix clip.bindings clip_of.few_bindings (pasted_binding clip target) clip.bindings (each_at clip.bindings clip_of.rising_bindings) clip_of.rising_bindings)
      (rising_new (codes "shape:") target.prefix clip.shapes clip_of.few_shapes (pasted_shape clip target indices) clip.shapes (each_at clip.shapes clip_of.rising_shapes) clip_of.rising_shapes)
      (lower (pasted_binding clip target) (pasted_shape clip target indices) clip.bindings clip.shapes)

  keys_added : keys_of (added clip target keys) ≡ new_ids clip target
  keys_added =
      keys_before (new_binding clip target) (pasted_binding clip target) clip.bindings (pasted_shapes clip target indices)
      ∙ ap (λ qs. map (λ e. new_binding clip target e.0) clip.bindings ++ qs) (only_keys clip.shapes)
    where
      only_keys : (es : Pairs) → keys_of (map (λ e. (new_shape clip target e.0, pasted_shape clip target indices e)) es) ≡ map (λ e. new_shape clip target e.0) es
      only_keys [] = refl
      only_keys (e ∷ es) = ap (λ qs. new_shape clip target e.0 ∷ qs) (only_keys es)

-- the first of rising ids that passes a test is the least
first_least : (test : List ℕ → Bool) (es : Pairs) → AreRising es → (id : List ℕ) → find test (keys_of es) ≡ Some id → (other : List ℕ) (d : Data) → value_at es other ≡ Some d → test other ≡ true → is_lt (order other id) ≡ false
first_least test [] rising id found other d there passes = absurd (let never : None ≡ Some id = found in (cc))
first_least test (e ∷ es) rising id found other d there passes = elim (test e.0) as (λ b. test e.0 ≡ b → cond b (Some e.0) (find test (keys_of es)) ≡ Some id → is_lt (order other id) ≡ false) [
  | true ↦ λ _ is.
      let same : e.0 ≡ id = cc is in
      by_tie (λ t. cond t (Some e.1) (value_at es other) ≡ Some d → is_lt (order other id) ≡ false) other e.0
      (λ tied _. ap (λ q. is_lt (order q id)) (tied ∙ same) ∙ ap is_lt (order_itself id))
      (λ later. ap is_lt (ap (order other) (sym same) ∙ flipped e.0 other Less (below_found e.0 es (first _ _ rising) other d later)))
      there
  | false ↦ λ isnt is.
      by_tie (λ t. cond t (Some e.1) (value_at es other) ≡ Some d → is_lt (order other id) ≡ false) other e.0
      (λ tied _. absurd (let never : false ≡ true = sym isnt ∙ ap test (sym tied) ∙ passes in (cc)))
      (λ later. first_least test es (second _ _ rising) id is other d later passes)
      there
] refl found

among_there : (es : Pairs) (q : List ℕ) → is_one_of (keys_of es) q ≡ true → (d : Data) × (value_at es q ≡ Some d)
among_there [] q is = absurd (let never : false ≡ true = is in (cc))
among_there (e ∷ es) q is = elim (ties q e.0) as (λ t. (t || is_one_of (keys_of es) q) ≡ true → (d : Data) × (cond t (Some e.1) (value_at es q) ≡ Some d)) [
  | true ↦ λ _. (e.1, refl)
  | false ↦ λ later. among_there es q later
] is

pub least_taken : (source : Pairs) (ids : List (List ℕ)) (clip : ClipTree) (document : Pairs) (target : TargetTree) → AreRising source → taken source ids ≡ Ok clip → (id : List ℕ) → first_taken clip target document ≡ Some id
    → (other : List ℕ) → is_one_of (new_ids clip target) other ≡ true → has document other ≡ true → is_lt (order other id) ≡ false
least_taken source ids clip document target rising is id found other new there =
    let has_all = clip_is source ids clip rising is in
    let same = keys_added source clip target [] has_all in
    let at = among_there (added clip target []) other (ap (λ qs. is_one_of qs other) same ∙ new) in
    first_least (has document) (added clip target []) (rising_added source clip target [] has_all) id (ap (find (has document)) same ∙ found) other at.0 at.1 there

module _ (source : Pairs) (ids : List (List ℕ)) (clip : ClipTree) (document : Pairs) (target : TargetTree) (keys : List (List ℕ)) (paste : IsPaste source ids clip document target keys) where
  pub clip_of : IsClip source clip
  clip_of = clip_is source ids clip paste.rising.0 paste.taken

  pub fresh_added : (id : List ℕ) (d : Data) → value_at (added clip target keys) id ≡ Some d → value_at document id ≡ None
  fresh_added id d is =
      none_there (value_at document id) (none_among (has document) (new_ids clip target) paste.free id (subst (IsIn id) (keys_added source clip target keys clip_of) (is_in-keys (added clip target keys) id (ap is_some is))))

  -- the parent of the paste isn't one of the new shapes
  pub parent_apart : (p : List ℕ) → has clip.shapes p ≡ true → ties target.parent (new_shape clip target p) ≡ false
  parent_apart p there =
      let new = in_right (map (λ e. new_binding clip target e.0) clip.bindings) (map (λ e. new_shape clip target e.0) clip.shapes) (new_shape clip target p) (in_renamed (new_shape clip target) clip.shapes p (is_in-keys clip.shapes p there)) in
      ties_flip target.parent (new_shape clip target p)
      ∙ apart document (new_shape clip target p) target.parent (none_among (has document) (new_ids clip target) paste.free (new_shape clip target p) new) paste.parent

  pub adds : Adds document (added clip target keys)
  adds = record {
    rising = rising_added source clip target keys clip_of;
    diff = puts_are (added clip target keys) (rising_added source clip target keys clip_of);
    fresh = fresh_added;
    after = after_puts document (added clip target keys) (rising_added source clip target keys clip_of);
  }
