-- Where pasted tops stand.
use Rattle.std.proofs.Common.{◌≡◌, ℕ, suc, Bool, true, false, ◌&&◌, cond, List, [], ◌∷◌, length, map, Option, Some, None, Ordering, Less, Equal, Greater, refl, sym, ap, subst, ◌∙◌, arith}
use Rattle.std.specs.Prelude.{filter, is_some, codes, unwrap_or, All, IsTrue}
use Rattle.std.specs.List.{fold, zip}
use Rattle.std.specs.Ordering.{is_lt, is_eq}
use Rattle.std.proofs.lemmas.Cmp.{nat_list_cmp_total}
use Rattle.std.proofs.lemmas.List.Elements.{All-weaker}
use Rattle.rooms_val.specs.Data.{Data, Pairs, text}
use Rattle.rooms_val.specs.Kinds.{as_map, text_at}
use Rattle.rooms_val.specs.Maps.{order, ties, value_at, with_key, AreRising}
use Rattle.rooms_val.proofs.MapsLemmas.{same_key, ties_flip, by_tie, at-with_key, order_itself, flipped, first, second}
use Rattle.index_keys.specs.Order.{is_less, IsBetween}
use Rattle.side_effects.specs.Records.{parent_of, index_of}
use Rattle.shape_tree.specs.Sorting.{inserted, in_order}
use Rattle.shape_tree.specs.Trees.{Sibling, sibling_of, sibling_order, is_child}
use Rattle.side_effects.specs.Placed.{greater, greatest_index}
use Rattle.room_model.specs.Clips.{ClipTree, TargetTree, is_prefix}
use Rattle.clip_content.specs.Pasted.{new_shape, is_top, tops, top_siblings, indices_of, with_place, moved_by, pasted_inner, pasted_top, pasted_shape}
use Rattle.clip_content.proofs.FieldLemmas.{text_set, text_kept, placed_map, placed_parent, moved_map}
use Rattle.clip_content.proofs.IdLemmas.{new_shape_id}
use Rattle.clip_content.proofs.TopLemmas.{Each, each-weaker, each-inserted, IsAbove, each_above}

-- no two siblings of a list have one id
abbrev AreApart : List Sibling → Type 0
AreApart [] = Unit {0}
AreApart (s ∷ ss) = Each (λ t. ties s.id t.id ≡ false) ss × AreApart ss

apart_inserted : (s : Sibling) (ss : List Sibling) → Each (λ t. ties s.id t.id ≡ false) ss → AreApart ss → AreApart (inserted sibling_order s ss)
apart_inserted s [] new each = (tt, tt)
apart_inserted s (t ∷ ss) new each = elim (is_lt (sibling_order s t)) as (λ b. AreApart (cond b (s ∷ t ∷ ss) (t ∷ inserted sibling_order s ss))) [
  | true ↦ (new, each)
  | false ↦ (each-inserted (λ r. ties t.id r.id ≡ false) sibling_order s ss (ties_flip t.id s.id ∙ new.0) each.0, apart_inserted s ss new.1 each.1)
]

each_in_order : (P : Sibling → Type 0) (ss : List Sibling) → Each P ss → Each P (in_order sibling_order ss)
each_in_order P [] each = tt
each_in_order P (s ∷ ss) each = each-inserted P sibling_order s (in_order sibling_order ss) each.0 (each_in_order P ss each.1)

apart_in_order : (test : List ℕ × Data → Bool) (es : Pairs) → AreRising es → AreApart (in_order sibling_order (map sibling_of (filter test es)))
apart_in_order test [] rising = tt
apart_in_order test (e ∷ es) rising =
    let rest = apart_in_order test es (second _ _ rising) in
    elim (test e) as (λ b. AreApart (in_order sibling_order (map sibling_of (cond b (e ∷ filter test es) (filter test es))))) [
      | true ↦ apart_inserted (sibling_of e) (in_order sibling_order (map sibling_of (filter test es)))
          (each_in_order (λ t. ties e.0 t.id ≡ false) (map sibling_of (filter test es)) (each-weaker (IsAbove e.0) (λ t. ties e.0 t.id ≡ false) (λ t above. ap is_eq above) (map sibling_of (filter test es)) (each_above e.0 test es (first _ _ rising)))) rest
      | false ↦ rest
    ]

-- indices after those of some others
abbrev pub indices_on : Pairs → List (List ℕ) → List (List ℕ) → Pairs
indices_on m ids keys = fold (λ m e. with_key m e.0 (text e.1)) m (zip ids keys)

abbrev index_in : Pairs → List ℕ → List ℕ
index_in m id = unwrap_or (text_at m id) []

abbrev ids_of : List Sibling → List (List ℕ)
ids_of ss = map (λ s. s.id) ss

kept_out : (m : Pairs) (ss : List Sibling) (keys : List (List ℕ)) (q : List ℕ) → Each (λ t. ties q t.id ≡ false) ss → value_at (indices_on m (ids_of ss) keys) q ≡ value_at m q
kept_out m [] keys q out = refl
kept_out m (s ∷ ss) [] q out = refl
kept_out m (s ∷ ss) (k ∷ ks) q out =
    kept_out (with_key m s.id (text k)) ss ks q out.1 ∙ at-with_key m s.id q (text k) ∙ ap (λ b. cond b (Some (text k)) (value_at m q)) out.0

indexed_on : (m : Pairs) (ss : List Sibling) (keys : List (List ℕ)) → AreApart ss → length keys ≡ length ss → map (index_in (indices_on m (ids_of ss) keys)) (ids_of ss) ≡ keys
indexed_on m [] [] apart same = refl
indexed_on m [] (k ∷ ks) apart same = absurd (omega arith)
indexed_on m (s ∷ ss) [] apart same = absurd (omega arith)
indexed_on m (s ∷ ss) (k ∷ ks) apart same =
    let next = with_key m s.id (text k) in
    let here : value_at (indices_on next (ids_of ss) ks) s.id ≡ Some (text k) =
    kept_out next ss ks s.id apart.0 ∙ at-with_key m s.id s.id (text k) ∙ ap (λ o. cond (is_eq o) (Some (text k)) (value_at m s.id)) (order_itself s.id) in
    let key : index_in (indices_on next (ids_of ss) ks) s.id ≡ k = ap (λ o. unwrap_or (text_in o) []) here in
    let rest : map (index_in (indices_on next (ids_of ss) ks)) (ids_of ss) ≡ ks = indexed_on next ss ks apart.1 (omega arith) in
    λ i. key i ∷ rest i
  where
    text_in : Option Data → Option (List ℕ)
    text_in o = elim o as (λ _. Option (List ℕ)) [ None ↦ None | (Some d) ↦ text_at ((codes "", d) ∷ []) (codes "") ]

-- the tops, in their order, have the keys as indices
pub tops_indexed : (clip : ClipTree) (keys : List (List ℕ)) → AreRising clip.shapes → length keys ≡ length (tops clip) → map (index_in (indices_of (tops clip) keys)) (tops clip) ≡ keys
tops_indexed clip keys rising same =
    indexed_on [] (in_order sibling_order (top_siblings clip)) keys (apart_in_order (λ e. is_top clip e.1) clip.shapes rising) (same ∙ ids_many (in_order sibling_order (top_siblings clip)))
  where
    ids_many : (ss : List Sibling) → length (ids_of ss) ≡ length ss
    ids_many [] = refl
    ids_many (s ∷ ss) = ap suc (ids_many ss)

-- a key isn't below another, nor that below a third
upto_chain_by : (a b c : List ℕ) (v : Ordering) → order a b ≡ v → is_lt v ≡ false → is_lt (order b c) ≡ false → (w : Ordering) → order a c ≡ w → is_lt w ≡ false
upto_chain_by a b c v is low other Equal at = refl
upto_chain_by a b c v is low other Greater at = refl
upto_chain_by a b c Less is low other Less at = absurd (let never : true ≡ false = low in (cc))
upto_chain_by a b c Equal is low other Less at = absurd (let never : true ≡ false = ap is_lt (sym at ∙ ap (λ k. order k c) (same_key a b is)) ∙ other in (cc))
upto_chain_by a b c Greater is low other Less at = absurd (let never : true ≡ false = sym (ap is_lt (nat_list_cmp_total.trans b a c (flipped a b Greater is) at)) ∙ other in (cc))

upto_chain : (a b c : List ℕ) → is_lt (order a b) ≡ false → is_lt (order b c) ≡ false → is_lt (order a c) ≡ false
upto_chain a b c low other = upto_chain_by a b c (order a b) refl low other (order a c) refl

below_key_by : (x g k : List ℕ) (v : Ordering) → order g x ≡ v → is_lt v ≡ false → order g k ≡ Less → order x k ≡ Less
below_key_by x g k Less is upto above = absurd (let never : true ≡ false = upto in (cc))
below_key_by x g k Equal is upto above = ap (λ q. order q k) (sym (same_key g x is)) ∙ above
below_key_by x g k Greater is upto above = nat_list_cmp_total.trans x g k (flipped g x Greater is) above

-- the greatest so far isn't below what came before
record IsUpto (found : Option (List ℕ)) (x : List ℕ) : Type 0 where
  pub top : List ℕ
  pub is : found ≡ Some top
  pub upto : is_lt (order top x) ≡ false

greater_upto : (held : Option (List ℕ)) (x : List ℕ) → IsUpto (greater held x) x
greater_upto None x = record { top = x; is = refl; upto = ap is_lt (order_itself x) }
greater_upto (Some h) x = elim (is_lt (order h x)) as (λ b. is_lt (order h x) ≡ b → IsUpto (Some (cond b x h)) x) [
  | true ↦ λ _. record { top = x; is = refl; upto = ap is_lt (order_itself x) }
  | false ↦ λ low. record { top = h; is = refl; upto = low }
] refl

still_by : (h y x : List ℕ) → is_lt (order h x) ≡ false → (b : Bool) → is_lt (order h y) ≡ b → is_lt (order (cond b y h) x) ≡ false
still_by h y x upto true above = upto_chain y h x (ap is_lt (flipped h y Less (lt_is (order h y) above))) upto
  where
    lt_is : (w : Ordering) → is_lt w ≡ true → w ≡ Less
    lt_is Less e = refl
    lt_is Equal e = absurd (let never : false ≡ true = e in (cc))
    lt_is Greater e = absurd (let never : false ≡ true = e in (cc))
still_by h y x upto false above = upto

still_upto : (held : Option (List ℕ)) (x y : List ℕ) → IsUpto held x → IsUpto (greater held y) x
still_upto None x y at = absurd (let never : None ≡ Some at.top = at.is in (cc))
still_upto (Some h) x y at = record {
  top = cond (is_lt (order h y)) y h;
  is = refl;
  upto = still_by h y x (let same : h ≡ at.top = cc (at.is) in ap (λ k. is_lt (order k x)) same ∙ at.upto) (is_lt (order h y)) refl;
}

module _ (parent : List ℕ) where
  abbrev pub greatest_on : Option (List ℕ) → Pairs → Option (List ℕ)
  greatest_on held es = fold greater held (map (λ e. index_of e.1) (filter (is_child parent) es))

  stays_upto : (held : Option (List ℕ)) (es : Pairs) (x : List ℕ) → IsUpto held x → IsUpto (greatest_on held es) x
  stays_upto held [] x at = at
  stays_upto held (e ∷ es) x at = elim (is_child parent e) as (λ b. IsUpto (fold greater held (map (λ e. index_of e.1) (cond b (e ∷ filter (is_child parent) es) (filter (is_child parent) es)))) x) [
    | true ↦ stays_upto (greater held (index_of e.1)) es x (still_upto held x (index_of e.1) at)
    | false ↦ stays_upto held es x at
  ]

  found_upto : (held : Option (List ℕ)) (es : Pairs) (q : List ℕ) (d : Data) → value_at es q ≡ Some d → is_child parent (q, d) ≡ true → IsUpto (greatest_on held es) (index_of d)
  found_upto held [] q d there is = absurd (let never : None ≡ Some d = there in (cc))
  found_upto held (e ∷ es) q d there is =
      by_tie (λ t. cond t (Some e.1) (value_at es q) ≡ Some d → IsUpto (greatest_on held (e ∷ es)) (index_of d)) q e.0
      (λ same here.
      let value : e.1 ≡ d = cc here in
      let child : is_child parent e ≡ true = (λ i. is_child parent (sym same i, value i)) ∙ is in
      subst (λ b. IsUpto (fold greater held (map (λ e. index_of e.1) (cond b (e ∷ filter (is_child parent) es) (filter (is_child parent) es)))) (index_of d)) (sym child)
      (stays_upto (greater held (index_of e.1)) es (index_of d) (subst (λ x. IsUpto (greater held (index_of e.1)) (index_of x)) value (greater_upto held (index_of e.1)))))
      (λ later. elim (is_child parent e) as (λ b. IsUpto (fold greater held (map (λ e. index_of e.1) (cond b (e ∷ filter (is_child parent) es) (filter (is_child parent) es)))) (index_of d)) [
        | true ↦ found_upto (greater held (index_of e.1)) es q d later is
        | false ↦ found_upto held es q d later is
      ])
      there

  -- keys above the greatest index are above the index of each child
  pub keys_above : (document : Pairs) (keys : List (List ℕ)) → All (IsBetween (greatest_index document parent) None) keys → (c : List ℕ × Data) → value_at document c.0 ≡ Some c.1 → is_child parent c ≡ true
      → All (λ key. IsTrue (is_less (index_of c.1) key)) keys
  keys_above document keys between c there is =
      let found = found_upto None document c.0 c.1 there is in
      All-weaker (IsBetween (greatest_index document parent) None) (λ key. IsTrue (is_less (index_of c.1) key)) (λ key at. ap is_lt (below_key_by (index_of c.1) found.top key (order found.top (index_of c.1)) refl found.upto (less_from (order found.top key) (from_below found.top found.is key at)))) keys between
    where
      from_below : (top : List ℕ) → greatest_index document parent ≡ Some top → (key : List ℕ) → IsBetween (greatest_index document parent) None key → is_lt (order top key) ≡ true
      from_below top is key at = (subst (λ o. IsBetween o None key) is at).from_below

      less_from : (w : Ordering) → is_lt w ≡ true → w ≡ Less
      less_from Less e = refl
      less_from Equal e = absurd (let never : false ≡ true = e in (cc))
      less_from Greater e = absurd (let never : false ≡ true = e in (cc))

module _ (clip : ClipTree) (target : TargetTree) (keys : List (List ℕ)) (e : List ℕ × Data) (top : is_top clip e.1 ≡ true) (is : is_some (as_map e.1) ≡ true) where
  abbrev as_top : Data
  as_top = pasted_top clip target (index_in (indices_of (tops clip) keys) e.0) e.0 e.1

  abbrev as_placed : Data
  as_placed = with_place (new_shape clip target e.0) target.parent (moved_by target.dx target.dy e.1)

  pasted_is : pasted_shape clip target (indices_of (tops clip) keys) e ≡ as_top
  pasted_is = ap (λ b. cond b as_top (pasted_inner clip target e.0 e.1)) top

  pub top_index : index_of (pasted_shape clip target (indices_of (tops clip) keys) e) ≡ index_in (indices_of (tops clip) keys) e.0
  top_index = ap index_of pasted_is ∙ text_set (codes "index") (index_in (indices_of (tops clip) keys) e.0) as_placed (placed_map (new_shape clip target e.0) target.parent (moved_by target.dx target.dy e.1) ∙ moved_map target.dx target.dy e.1 ∙ is)

  top_parent : parent_of (pasted_shape clip target (indices_of (tops clip) keys) e) ≡ target.parent
  top_parent =
      ap parent_of pasted_is ∙ text_kept (codes "index") (text (index_in (indices_of (tops clip) keys) e.0)) as_placed (codes "parentId") refl
      ∙ placed_parent (new_shape clip target e.0) target.parent (moved_by target.dx target.dy e.1) (moved_map target.dx target.dy e.1 ∙ is)

module _ (clip : ClipTree) (target : TargetTree) (keys : List (List ℕ)) (prefix : is_prefix target.prefix ≡ true) (e : List ℕ × Data) (top : is_top clip e.1 ≡ true) (is : is_some (as_map e.1) ≡ true) where
  pub top_under : is_child target.parent (new_shape clip target e.0, pasted_shape clip target (indices_of (tops clip) keys) e) ≡ true
  top_under =
      ap (λ b. b && ties (parent_of (pasted_shape clip target (indices_of (tops clip) keys) e)) target.parent) (new_shape_id target.prefix clip.shapes e.0 prefix)
      ∙ ap (λ p. ties p target.parent) (top_parent clip target keys e top is) ∙ ap is_eq (order_itself target.parent)
