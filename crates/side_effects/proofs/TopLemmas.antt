-- The greatest index of a parent's children, found in any order.
use Rattle.std.proofs.Common.{◌≡◌, ℕ, Bool, true, false, ◌&&◌, cond, List, [], ◌∷◌, ◌++◌, map, Option, Some, None, ◌⊎◌, inl, inr, Less, Equal, Greater, Ordering, refl, sym, ap, subst, ◌∙◌}
use Rattle.std.specs.Prelude.{filter, is_some}
use Rattle.std.specs.List.{fold}
use Rattle.std.specs.Option.{option_map_or, option_and_then}
use Rattle.std.specs.Ordering.{is_lt, ordering_reverse}
use Rattle.std.proofs.lemmas.Cmp.{nat_list_cmp_total}
use Rattle.std.proofs.lemmas.List.Sums.{fold_push}
use Rattle.rooms_val.proofs.Truths.{is_Less}
use Rattle.rooms_val.specs.Data.{Data, Pairs, text}
use Rattle.rooms_val.specs.Kinds.{as_text, text_at}
use Rattle.rooms_val.specs.Maps.{value_at, with_key, keys_of, order, ties, AreRising}
use Rattle.rooms_val.proofs.MapsLemmas.{ties_same, ties_flip, rising-with_key, same_key, order_itself, at-with_key, by_tie, none_later, rising_rest}
use Rattle.field_ops.specs.Laws.{raw_after}
use Rattle.field_ops.specs.RecordOps.{RecordOps}
use Rattle.doc_model.specs.Documents.{fold_raw}
use Rattle.doc_model.proofs.MergeLemmas.{at-fold_raw, rising-fold_raw}
use Rattle.side_effects.specs.ReachingLaws.{IsIn}
use Rattle.shape_tree.specs.Trees.{is_child}
use Rattle.shape_tree.specs.Records.{is_shape}
use Rattle.side_effects.specs.Records.{parent_of, index_of}
use Rattle.side_effects.specs.Placed.{greater, greatest_index}
use Rattle.side_effects.specs.Tops.{raised, raised_by}
use Rattle.side_effects.proofs.FilterLemmas.{ties_with, is_in-keys, keys-is_in}

-- an index is at most the greatest one
abbrev pub IsAtMost : List ℕ → Option (List ℕ) → Type 0
IsAtMost i None = ⊥
IsAtMost i (Some k) = is_lt (order k i) ≡ false

order_by : (o : Ordering) → is_lt o ≡ false → is_lt (ordering_reverse o) ≡ false → o ≡ Equal
order_by Less low high = absurd (let no : true ≡ false = low in (cc))
order_by Equal low high = refl
order_by Greater low high = absurd (let no : true ≡ false = high in (cc))

same_index : (j k : List ℕ) → is_lt (order j k) ≡ false → is_lt (order k j) ≡ false → j ≡ k
same_index j k low high = same_key j k (order_by (order j k) low (ap is_lt (sym (nat_list_cmp_total.antisymm k j)) ∙ high))

-- nothing is less than what is greater: held is less than new, so an index that is at most held is at most new
not_both : (o : Ordering) → o ≡ Less → is_lt o ≡ false → ⊥
not_both o less none = let no : true ≡ false = sym (ap is_lt less) ∙ none in (cc)

still_most : (i held new : List ℕ) → is_lt (order held i) ≡ false → is_lt (order held new) ≡ true → is_lt (order new i) ≡ false
still_most i held new low up = elim (is_lt (order new i)) as (λ b. is_lt (order new i) ≡ b → b ≡ false) [
  | true ↦ λ above. absurd (not_both (order held i) (nat_list_cmp_total.trans held new i (is_Less (order held new) up) (is_Less (order new i) above)) low)
  | false ↦ λ _. refl
] refl

most_kept : (i new : List ℕ) (o : Option (List ℕ)) → IsAtMost i o → IsAtMost i (greater o new)
most_kept i new None is = absurd is
most_kept i new (Some held) is = elim (is_lt (order held new)) as (λ b. is_lt (order held new) ≡ b → IsAtMost i (Some (cond b new held))) [
  | true ↦ λ up. still_most i held new is up
  | false ↦ λ _. is
] refl

most_new : (new : List ℕ) (o : Option (List ℕ)) → IsAtMost new (greater o new)
most_new new None = ap is_lt (order_itself new)
most_new new (Some held) = elim (is_lt (order held new)) as (λ b. is_lt (order held new) ≡ b → IsAtMost new (Some (cond b new held))) [
  | true ↦ λ _. ap is_lt (order_itself new)
  | false ↦ λ low. low
] refl

greater_from : (new k : List ℕ) (o : Option (List ℕ)) → greater o new ≡ Some k → (o ≡ Some k) ⊎ (new ≡ k)
greater_from new k None is = inr (let same : Some new ≡ Some k = is in (cc))
greater_from new k (Some held) is = elim (is_lt (order held new)) as (λ b. Some (cond b new held) ≡ Some k → (Some held ≡ Some k) ⊎ (new ≡ k)) [
  | true ↦ λ same. inr (cc)
  | false ↦ λ same. inl same
] is

module _ (m : Pairs) (parent : List ℕ) where
  -- a child of the parent
  pub record IsChildAt (id : List ℕ) (d : Data) : Type 0 where
    pub there : value_at m id ≡ Some d
    pub child : is_child parent (id, d) ≡ true

  -- the greatest index of the children whose ids pass, and of no others
  pub record IsTop (Seen : List ℕ → Type 0) (top : Option (List ℕ)) : Type 0 where
    pub bound : (id : List ℕ) (d : Data) → Seen id → IsChildAt id d → IsAtMost (index_of d) top
    pub met : (k : List ℕ) → top ≡ Some k → (id : List ℕ) × (d : Data) × IsChildAt id d × (index_of d ≡ k)

  abbrev Every : List ℕ → Type 0
  Every id = Unit {0}

  pub one_top : (a b : Option (List ℕ)) → IsTop Every a → IsTop Every b → a ≡ b
  one_top None None one other = refl
  one_top None (Some k) one other = let found = other.met k refl in absurd (one.bound found.0 found.1 tt found.2)
  one_top (Some j) None one other = let found = one.met j refl in absurd (other.bound found.0 found.1 tt found.2)
  one_top (Some j) (Some k) one other =
      let of_j = one.met j refl in let of_k = other.met k refl in
      ap (λ x. Some x) (same_index j k
      (subst (λ i. is_lt (order j i) ≡ false) of_k.3 (one.bound of_k.0 of_k.1 tt of_k.2))
      (subst (λ i. is_lt (order k i) ≡ false) of_j.3 (other.bound of_j.0 of_j.1 tt of_j.2)))

  -- one more id is seen
  abbrev or_one : (List ℕ → Type 0) → List ℕ → List ℕ → Type 0
  or_one Seen id q = Seen q ⊎ (q ≡ id)

  one_more : (Seen : List ℕ → Type 0) (top : Option (List ℕ)) (id : List ℕ) → IsTop Seen top → IsTop (or_one Seen id) (raised_by m id parent top)
  one_more Seen top id is = by_value (value_at m id) refl
    where
      same_at : (q : List ℕ) (d e : Data) → q ≡ id → IsChildAt q d → value_at m id ≡ Some e → d ≡ e
      same_at q d e same child there = let one : Some d ≡ Some e = sym child.there ∙ ap (value_at m) same ∙ there in (cc)

      by_child : (d : Data) (b : Bool) → value_at m id ≡ Some d → is_child parent (id, d) ≡ b → IsTop (or_one Seen id) (cond b (greater top (index_of d)) top)
      by_child d true there child = record {
        bound = λ q e seen at. elim seen [
          | inl before ↦ most_kept (index_of e) (index_of d) top (is.bound q e before at)
          | inr now ↦ subst (λ x. IsAtMost (index_of x) (greater top (index_of d))) (sym (same_at q e d now at there)) (most_new (index_of d) top)
        ];
        met = λ k same. elim (greater_from (index_of d) k top same) [
          | inl before ↦ is.met k before
          | inr now ↦ (id, d, record { there = there; child = child }, now)
        ];
      }
      by_child d false there none = record {
        bound = λ q e seen at. elim seen [
          | inl before ↦ is.bound q e before at
          | inr now ↦
              let one = same_at q e d now at there in
              absurd (let no : true ≡ false = sym at.child ∙ (λ i. is_child parent (now i, one i)) ∙ none in (cc))
        ];
        met = is.met;
      }

      by_value : (o : Option Data) → value_at m id ≡ o → IsTop (or_one Seen id) (option_map_or (λ d. cond (is_child parent (id, d)) (greater top (index_of d)) top) o top)
      by_value None none = record {
        bound = λ q e seen at. elim seen [
          | inl before ↦ is.bound q e before at
          | inr now ↦ absurd (let no : Some e ≡ None = sym at.there ∙ ap (value_at m) now ∙ none in (cc))
        ];
        met = is.met;
      }
      by_value (Some d) there = by_child d (is_child parent (id, d)) there refl

  abbrev pub tops_along : Option (List ℕ) → List (List ℕ) → Option (List ℕ)
  tops_along top ids = fold (λ o id. raised_by m id parent o) top ids

  abbrev with_all : (List ℕ → Type 0) → List (List ℕ) → List ℕ → Type 0
  with_all Seen ids q = Seen q ⊎ IsIn q ids

  weaker : (Seen More : List ℕ → Type 0) (top : Option (List ℕ)) → ((q : List ℕ) → More q → Seen q) → IsTop Seen top → IsTop More top
  weaker Seen More top less is = record { bound = λ q d more at. is.bound q d (less q more) at; met = is.met }

  pub top_along : (ids : List (List ℕ)) (Seen : List ℕ → Type 0) (top : Option (List ℕ)) → IsTop Seen top → IsTop (with_all Seen ids) (tops_along top ids)
  top_along [] Seen top is = weaker Seen (with_all Seen []) top (λ q seen. elim seen [ inl here ↦ here | inr none ↦ absurd none ]) is
  top_along (id ∷ ids) Seen top is =
      weaker (with_all (or_one Seen id) ids) (with_all Seen (id ∷ ids)) (tops_along (raised_by m id parent top) ids)
      (λ q seen. elim seen [
        | inl before ↦ inl (inl before)
        | inr later ↦ elim later [
          | inl now ↦ inl (inr now)
          | inr after ↦ inr after
        ]
      ])
      (top_along ids (or_one Seen id) (raised_by m id parent top) (one_more Seen top id is))

  nothing_yet : IsTop (λ q. ⊥) None
  nothing_yet = record { bound = λ q d seen at. absurd seen; met = λ k is. absurd (let no : None ≡ Some k = is in (cc)) }

  -- along ids that have each child's, the greatest index is found
  pub top_of_all : (ids : List (List ℕ)) → ((q : List ℕ) → is_some (value_at m q) ≡ true → IsIn q ids) → IsTop Every (tops_along None ids)
  top_of_all ids covers = record {
    bound = λ q d _ at. (top_along ids (λ _. ⊥) None nothing_yet).bound q d (inr (covers q (ap is_some at.there))) at;
    met = (top_along ids (λ _. ⊥) None nothing_yet).met;
  }

in_value : (m : Pairs) (x : List ℕ × Data) → AreRising m → IsIn x m → value_at m x.0 ≡ Some x.1
in_value [] x rising is = absurd is
in_value (e ∷ es) x rising is = elim is [
  | inl same ↦ ap (λ b. cond b (Some e.1) (value_at es x.0)) (ties_with x.0 e.0 (ap (λ y. y.0) same)) ∙ ap (λ y. Some y.1) (sym same)
  | inr later ↦
      let there = in_value es x (rising_rest e es rising) later in
      by_tie (λ b. cond b (Some e.1) (value_at es x.0) ≡ Some x.1) x.0 e.0
      (λ same. absurd (let no : None ≡ Some x.1 = sym (none_later e es rising) ∙ ap (value_at es) (sym same) ∙ there in (cc)))
      there
]

along_entries : (m : Pairs) (parent : List ℕ) (es : Pairs) (top : Option (List ℕ)) → ((e : List ℕ × Data) → IsIn e es → value_at m e.0 ≡ Some e.1)
    → fold greater top (map (λ e. index_of e.1) (filter (is_child parent) es)) ≡ tops_along m parent top (keys_of es)
along_entries m parent [] top each = refl
along_entries m parent (e ∷ es) top each =
    let here : raised_by m e.0 parent top ≡ cond (is_child parent e) (greater top (index_of e.1)) top = ap (λ o. option_map_or (λ d. cond (is_child parent (e.0, d)) (greater top (index_of d)) top) o top) (each e (inl refl)) in
    elim (is_child parent e) as (λ b. fold greater top (map (λ x. index_of x.1) (cond b (e ∷ filter (is_child parent) es) (filter (is_child parent) es))) ≡ tops_along m parent (cond b (greater top (index_of e.1)) top) (keys_of es)) [
      | true ↦ along_entries m parent es (greater top (index_of e.1)) (λ x is. each x (inr is))
      | false ↦ along_entries m parent es top (λ x is. each x (inr is))
    ]
    ∙ ap (λ t. tops_along m parent t (keys_of es)) (sym here)

pub greatest_along : (m : Pairs) (parent : List ℕ) → AreRising m → greatest_index m parent ≡ tops_along m parent None (keys_of m)
greatest_along m parent rising = along_entries m parent m None (λ e is. in_value m e rising is)

-- the greatest index is found along any ids that have all of the map's
pub greatest_by : (m : Pairs) (parent : List ℕ) (ids : List (List ℕ)) → AreRising m → ((q : List ℕ) → is_some (value_at m q) ≡ true → IsIn q ids) → tops_along m parent None ids ≡ greatest_index m parent
greatest_by m parent ids rising covers =
    one_top m parent (tops_along m parent None ids) (tops_along m parent None (keys_of m)) (top_of_all m parent ids covers) (top_of_all m parent (keys_of m) (is_in-keys m))
    ∙ sym (greatest_along m parent rising)

in_last : (ids : List (List ℕ)) (q id : List ℕ) → q ≡ id → IsIn q (ids ++ id ∷ [])
in_last [] q id same = inl same
in_last (k ∷ ids) q id same = inr (in_last ids q id same)

in_front : (ids : List (List ℕ)) (q id : List ℕ) → IsIn q ids → IsIn q (ids ++ id ∷ [])
in_front [] q id is = absurd is
in_front (k ∷ ids) q id is = elim is [
  | inl same ↦ inl same
  | inr later ↦ inr (in_front ids q id later)
]

module _ (m : Pairs) (id : List ℕ) (d : Data) (parent : List ℕ) (absent : value_at m id ≡ None) where
  covers : (q : List ℕ) → is_some (value_at (with_key m id d) q) ≡ true → IsIn q (keys_of m ++ id ∷ [])
  covers q is = elim (ties q id) as (λ b. ties q id ≡ b → is_some (cond b (Some d) (value_at m q)) ≡ true → IsIn q (keys_of m ++ id ∷ [])) [
    | true ↦ λ same _. in_last (keys_of m) q id (ties_same q id same)
    | false ↦ λ _ there. in_front (keys_of m) q id (is_in-keys m q there)
  ] refl (sym (ap is_some (at-with_key m id q d)) ∙ is)

  same_at : (q : List ℕ) → is_some (value_at m q) ≡ true → value_at (with_key m id d) q ≡ value_at m q
  same_at q is = at-with_key m id q d ∙ by_tie (λ b. cond b (Some d) (value_at m q) ≡ value_at m q) q id
      (λ same. absurd (let no : false ≡ true = sym (ap is_some (ap (value_at m) same ∙ absent)) ∙ is in (cc))) refl

  same_along : (ids : List (List ℕ)) (top : Option (List ℕ)) → ((q : List ℕ) → IsIn q ids → is_some (value_at m q) ≡ true)
      → tops_along (with_key m id d) parent top ids ≡ tops_along m parent top ids
  same_along [] top each = refl
  same_along (q ∷ ids) top each =
      ap (λ o. tops_along (with_key m id d) parent (option_map_or (λ e. cond (is_child parent (q, e)) (greater top (index_of e)) top) o top) ids) (same_at q (each q (inl refl)))
      ∙ same_along ids (raised_by m q parent top) (λ k is. each k (inr is))

  here : value_at (with_key m id d) id ≡ Some d
  here = at-with_key m id id d ∙ ap (λ b. cond b (Some d) (value_at m id)) (ties_with id id refl)

  -- the greatest index of a parent's children once a map has one more shape
  pub greatest_more : AreRising m → is_shape id ≡ true → greatest_index (with_key m id d) parent ≡ raised (parent_of d) (index_of d) parent (greatest_index m parent)
  greatest_more rising shape =
      let before = tops_along (with_key m id d) parent None (keys_of m) in
      sym (greatest_by (with_key m id d) parent (keys_of m ++ id ∷ []) (rising-with_key m id d rising) covers)
      ∙ fold_push (λ o q. raised_by (with_key m id d) q parent o) None (keys_of m) id
      ∙ ap (λ o. option_map_or (λ e. cond (is_child parent (id, e)) (greater before (index_of e)) before) o before) here
      ∙ ap (λ b. cond (b && ties (parent_of d) parent) (greater before (index_of d)) before) shape
      ∙ ap (λ top. cond (ties (parent_of d) parent) (greater top (index_of d)) top) (same_along (keys_of m) None (λ q is. keys-is_in m q is) ∙ sym (greatest_along m parent rising))

abbrev pub is_over : List ℕ → Option (List ℕ) → Bool
is_over index held = option_map_or (λ k. is_lt (order k index)) held true

over : (index : List ℕ) (held : Option (List ℕ)) → is_over index held ≡ true → greater held index ≡ Some index
over index None is = refl
over index (Some k) is = ap (λ b. Some (cond b index k)) is

not_over : (index : List ℕ) (held : Option (List ℕ)) → is_over index held ≡ false → greater held index ≡ held
not_over index None is = absurd (let no : true ≡ false = is in (cc))
not_over index (Some k) is = ap (λ b. Some (cond b index k)) is

module _ (tops : Pairs) (parent index other : List ℕ) where
  pub raised_no : is_over index (text_at tops parent) ≡ false → text_at tops other ≡ raised parent index other (text_at tops other)
  raised_no is = by_tie (λ b. text_at tops other ≡ cond b (greater (text_at tops other) index) (text_at tops other)) parent other
      (λ same. sym (not_over index (text_at tops other) (ap (λ k. is_over index (text_at tops k)) (sym same) ∙ is))) refl

  pub raised_yes : is_over index (text_at tops parent) ≡ true → text_at (with_key tops parent (text index)) other ≡ raised parent index other (text_at tops other)
  raised_yes is =
      ap (λ o. option_and_then as_text o) (at-with_key tops parent other (text index))
      ∙ ap (λ b. option_and_then as_text (cond b (Some (text index)) (value_at tops other))) (ties_flip other parent)
      ∙ by_tie (λ b. option_and_then as_text (cond b (Some (text index)) (value_at tops other)) ≡ cond b (greater (text_at tops other) index) (text_at tops other)) parent other
      (λ same. sym (over index (text_at tops other) (ap (λ k. is_over index (text_at tops k)) (sym same) ∙ is))) refl

in_ids : (xs ys : List (List ℕ)) (q : List ℕ) → IsIn q xs ⊎ IsIn q ys → IsIn q (xs ++ ys)
in_ids [] ys q is = elim is [ inl none ↦ absurd none | inr there ↦ there ]
in_ids (x ∷ xs) ys q is = elim is [
  | inl here ↦ elim here [
    | inl same ↦ inl same
    | inr later ↦ inr (in_ids xs ys q (inl later))
  ]
  | inr there ↦ inr (in_ids xs ys q (inr there))
]

along_both : (m : Pairs) (parent : List ℕ) (top : Option (List ℕ)) (xs ys : List (List ℕ)) → tops_along m parent top (xs ++ ys) ≡ tops_along m parent (tops_along m parent top xs) ys
along_both m parent top [] ys = refl
along_both m parent top (x ∷ xs) ys = along_both m parent (raised_by m x parent top) xs ys

-- after a diff, along the ids of a map and then those of the diff
pub tops_after : (m : Pairs) (diff : RecordOps) (parent : List ℕ) → AreRising m → AreRising diff
    → tops_along (fold_raw m diff) parent (tops_along (fold_raw m diff) parent None (keys_of m)) (keys_of diff) ≡ greatest_index (fold_raw m diff) parent
tops_after m diff parent rising diff_rising =
    sym (along_both (fold_raw m diff) parent None (keys_of m) (keys_of diff))
    ∙ greatest_by (fold_raw m diff) parent (keys_of m ++ keys_of diff) (rising-fold_raw diff m rising) (λ q is. in_ids (keys_of m) (keys_of diff) q (either q is))
  where
    either : (q : List ℕ) → is_some (value_at (fold_raw m diff) q) ≡ true → IsIn q (keys_of m) ⊎ IsIn q (keys_of diff)
    either q is = elim (value_at diff q) as (λ o. value_at diff q ≡ o → is_some (raw_after o (value_at m q)) ≡ true → IsIn q (keys_of m) ⊎ IsIn q (keys_of diff)) [
      | None ↦ λ _ there. inl (is_in-keys m q there)
      | Some c ↦ λ named _. inr (is_in-keys diff q (ap is_some named))
    ] refl (sym (ap is_some (at-fold_raw diff m q diff_rising)) ∙ is)
