-- The node of an id that the order has, and ids that it lacks.
use Rattle.std.proofs.Common.{◌≡◌, ℕ, ◌<◌, false, eqb, List, [], length, get_or, Contains, Ordering, Less, Equal, Greater, refl, sym, ap, ◌∙◌, inl, inr, arith, eq-eqb, ne_eqb}
use Rattle.std.specs.Ordering.{is_eq, ordering_reverse}
use Rattle.std.proofs.lemmas.Bool.{cases_lt, cases_eq}
use Rattle.std.proofs.lemmas.List.{get_or-map, get_or_default, length-map}
use Rattle.rooms_val.specs.Places.{IsPlace, IsGap}
use Rattle.rooms_val.specs.Maps.{order}
use Rattle.change_list.specs.declared.entries.Change.{Change}
use Rattle.change_list.specs.Changes.{has_id}
use Rattle.change_list.specs.Kept.{entry_at, keyed}
use Rattle.rooms_val.proofs.MapsLemmas.{flipped}

pub key_at : (entries : List Change) (nodes : List ℕ) (i : ℕ) (e : List ℕ × ℕ) → i < length nodes → (get_or (keyed entries nodes) i e).0 ≡ (entry_at entries (get_or nodes i 0)).id
key_at entries nodes i e low =
    ap (λ (p : List ℕ × ℕ). p.0) (get_or-map (λ n. ((entry_at entries n).id, n)) nodes i 0 e low)

-- the node at the place of an id is the one that has it
pub one_node : (entries : List Change) (nodes : List ℕ) (id : List ℕ) (place : ℕ) → IsPlace (keyed entries nodes) id place → (m : ℕ) → Contains nodes m → has_id id (entry_at entries m) ≡ eqb m (get_or nodes place 0)
one_node entries nodes id place at m q = elim (cases_eq q.0 place) [
  | inl same ↦ let node : m ≡ get_or nodes place 0 = here ∙ ap (λ i. get_or nodes i 0) same in
      ap is_eq (flipped id (entry_at entries m).id Equal (ap (order id) (ap (λ w. (entry_at entries w).id) node ∙ sym (key_at entries nodes place ([], 0) low)) ∙ at.here ([], 0))) ∙ sym (eq-eqb m (get_or nodes place 0) node)
  | inr differs ↦ elim (cases_lt q.0 place) [
    | inl below ↦ apart Greater (ap (order id) key ∙ at.before q.0 ([], 0) below) refl (λ e. differ e)
    | inr above ↦ apart Less (ap (order id) key ∙ at.after q.0 ([], 0) (omega (arith, differs, above)) (omega (arith, length-map {B = List ℕ × ℕ} nodes (λ n. ((entry_at entries n).id, n)), q.1))) refl (λ e. unlike e)
  ]
]
  where
    low : place < length nodes
    low = omega (arith, at.within, length-map {B = List ℕ × ℕ} nodes (λ n. ((entry_at entries n).id, n)))

    here : m ≡ get_or nodes q.0 0
    here = sym q.2 ∙ get_or_default nodes q.0 m 0 q.1

    key : (entry_at entries m).id ≡ (get_or (keyed entries nodes) q.0 ([], 0)).0
    key = ap (λ w. (entry_at entries w).id) here ∙ sym (key_at entries nodes q.0 ([], 0) q.1)

    differ : ◌≡◌ {A = Ordering} Equal Greater → ⊥
    differ e = cc

    unlike : ◌≡◌ {A = Ordering} Equal Less → ⊥
    unlike e = cc

    apart : (o : Ordering) → order id (entry_at entries m).id ≡ o → is_eq (ordering_reverse o) ≡ false → (Equal ≡ o → ⊥) → has_id id (entry_at entries m) ≡ eqb m (get_or nodes place 0)
    apart o e unlike_it unequal =
        ap is_eq (flipped id (entry_at entries m).id o e) ∙ unlike_it ∙ sym (ne_eqb m (get_or nodes place 0) (λ same. unequal (sym (at.here ([], 0)) ∙ ap (order id) (key_at entries nodes place ([], 0) low ∙ ap (λ w. (entry_at entries w).id) (sym same)) ∙ e)))

-- where an id would go, no node has it
pub no_node : (entries : List Change) (nodes : List ℕ) (id : List ℕ) (place : ℕ) → IsGap (keyed entries nodes) id place → (m : ℕ) → Contains nodes m → has_id id (entry_at entries m) ≡ false
no_node entries nodes id place at m q = elim (cases_lt q.0 place) [
  | inl below ↦ ap is_eq (flipped id (entry_at entries m).id Greater (ap (order id) key ∙ at.before q.0 ([], 0) below))
  | inr above ↦ ap is_eq (flipped id (entry_at entries m).id Less (ap (order id) key ∙ at.after q.0 ([], 0) above (omega (arith, length-map {B = List ℕ × ℕ} nodes (λ n. ((entry_at entries n).id, n)), q.1))))
]
  where
    key : (entry_at entries m).id ≡ (get_or (keyed entries nodes) q.0 ([], 0)).0
    key = ap (λ w. (entry_at entries w).id) (sym q.2 ∙ get_or_default nodes q.0 m 0 q.1) ∙ sym (key_at entries nodes q.0 ([], 0) q.1)
