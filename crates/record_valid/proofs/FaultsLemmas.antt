-- The first fault of lists of items, fields and rows, one step at a time.
use Rattle.std.proofs.Common.{◌≡◌, ℕ, zero, suc, ◌<◌, ◌≤◌, true, false, cond, List, [], ◌∷◌, length, drop, get_or, Option, Some, None, option_map, refl, sym, ap, subst, ◌∙◌, arith}
use Rattle.std.specs.Option.{option_or, option_map_or}
use Rattle.std.specs.Ordering.{eq_by_cmp}
use Rattle.std.specs.FinMap.Entries.{find}
use Rattle.rooms_val.specs.Data.{Data, map, items_of, members_of, Pairs}
use Rattle.rooms_val.specs.View.{data_of, items_view, pairs_view}
use Rattle.rooms_val.specs.declared.val.Val.{Val}
use Rattle.rooms_val.specs.Places.{IsPlace, IsGap}
use Rattle.rooms_val.proofs.DataLemmas.{pairs_of-members_of}
use Rattle.rooms_val.specs.Maps.{order, keys_of}
use Rattle.rooms_val.proofs.PlacesLemmas.{find_at_place, find_in_gap}
use Rattle.record_valid.specs.Tree.{object, Table, rows_of, table_of}
use Rattle.record_valid.specs.View.{tree_of, table_view}
use Rattle.record_valid.specs.Parts.{type_text}
use Rattle.record_valid.specs.Faults.{items_fault, keys_fault, fields_fault, row_fault, first_fault, reject, deeper}
use Rattle.record_valid.specs.declared.tree.Check.{Check}
use Rattle.record_valid.specs.declared.reject.Reject.{Reject}
use Rattle.record_valid.specs.declared.reject.RejectKind.TheVariants.{NotListed}
use Rattle.rooms_val.proofs.MapsLemmas.{keys_of-seen, at-seen}

module _ (fault : Data → Option Reject) where
  pub items-at : (vs : List Val) (i : ℕ) (v : Val) → i < length vs → v ≡ get_or vs i v
      → items_fault fault (items_of (items_view (drop i vs))) ≡ option_or (fault (data_of v)) (items_fault fault (items_of (items_view (drop (suc i) vs))))
  items-at [] i v within is = absurd (omega arith)
  items-at (x ∷ vs) zero v within is = ap (λ y. option_or (fault (data_of y)) (items_fault fault (items_of (items_view vs)))) (sym is)
  items-at (x ∷ vs) (suc i) v within is = items-at vs i v (omega arith) is

  pub items-end : (vs : List Val) (i : ℕ) → length vs ≤ i → items_fault fault (items_of (items_view (drop i vs))) ≡ None
  items-end [] zero past = refl
  items-end [] (suc i) past = refl
  items-end (v ∷ vs) zero past = absurd (omega arith)
  items-end (v ∷ vs) (suc i) past = items-end vs i (omega arith)

pub table_of-rows_of : (rows : Table) → table_of (rows_of rows) ≡ rows
table_of-rows_of [] = refl
table_of-rows_of (e ∷ rows) = ap (λ rest. e ∷ rest) (table_of-rows_of rows)

-- the fault of a map, by the entries of the table and of the map
pub object-entries : (n : ℕ) (es : List (List ℕ × Check)) (fs : List (List ℕ × Val)) (rows : Table) (ps : Pairs) → table_view es ≡ rows → pairs_view fs ≡ ps
    → first_fault n None (object (rows_of rows)) (map (members_of ps)) ≡ option_or (option_map (reject (deeper n)) (keys_fault (keys_of es) (keys_of fs))) (fields_fault (deeper n) (type_text ps) (rows_of (table_view es)) (members_of (pairs_view fs)))
object-entries n es fs rows ps seen too =
    let wanted = ap keys_of (table_of-rows_of rows ∙ sym seen) ∙ keys_of-seen tree_of es in
    let given = ap keys_of (pairs_of-members_of ps ∙ sym too) ∙ keys_of-seen data_of fs in
    λ i. option_or (option_map (reject (deeper n)) (keys_fault (wanted i) (given i))) (fields_fault (deeper n) (type_text (pairs_of-members_of ps i)) (rows_of (sym seen i)) (members_of (sym too i)))

module _ (n : ℕ) (d : Data) where
  pub row-none : (rows : Table) → row_fault n None (rows_of rows) d ≡ Some (reject n NotListed)
  row-none [] = refl
  row-none (e ∷ rows) = row-none rows

  row-find : (t : List ℕ) (rows : Table) → row_fault n (Some t) (rows_of rows) d ≡ option_map_or (λ c. first_fault n (Some t) c d) (find order t rows) (Some (reject n NotListed))
  row-find t [] = refl
  row-find t (e ∷ rows) = elim (eq_by_cmp order t e.0) as (λ b. cond b (first_fault n (Some t) e.1 d) (row_fault n (Some t) (rows_of rows) d) ≡ option_map_or (λ c. first_fault n (Some t) c d) (cond b (Some e.1) (find order t rows)) (Some (reject n NotListed))) [
    | true ↦ refl
    | false ↦ row-find t rows
  ]

  module _ (es s : List (List ℕ × Check)) (rows : Table) (t : List ℕ) (p : ℕ) (seen : table_view es ≡ rows) (same : s ≡ es) where
    found_by : row_fault n (Some t) (rows_of rows) d ≡ option_map_or (λ c. first_fault n (Some t) c d) (option_map tree_of (find order t es)) (Some (reject n NotListed))
    found_by = row-find t rows ∙ ap (λ o. option_map_or (λ c. first_fault n (Some t) c d) o (Some (reject n NotListed))) (ap (find order t) (sym seen) ∙ at-seen tree_of es t)

    pub row-at : IsPlace s t p → (x : List ℕ × Check) → x ≡ get_or es p x → row_fault n (Some t) (rows_of rows) d ≡ first_fault n (Some t) (tree_of x.1) d
    row-at at x is = found_by ∙ ap (λ o. option_map_or (λ c. first_fault n (Some t) c d) (option_map tree_of o) (Some (reject n NotListed))) (find_at_place es t p x (subst (λ l. IsPlace l t p) same at)) ∙ ap (λ y. first_fault n (Some t) (tree_of y.1) d) (sym is)

    pub row-gap : IsGap s t p → row_fault n (Some t) (rows_of rows) d ≡ Some (reject n NotListed)
    row-gap at = found_by ∙ ap (λ o. option_map_or (λ c. first_fault n (Some t) c d) (option_map tree_of o) (Some (reject n NotListed))) (find_in_gap es t p (subst (λ l. IsGap l t p) same at))
