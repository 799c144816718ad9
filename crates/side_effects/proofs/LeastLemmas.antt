-- The first refusal of a rule is that of the least id that it refuses.
use Rattle.std.proofs.Common.{◌≡◌, ℕ, true, false, cond, T, List, [], ◌∷◌, Option, Some, None, Greater, is_eq, refl, sym, ap, ◌∙◌}
use Rattle.std.specs.Prelude.{is_some}
use Rattle.std.specs.Option.{option_map_or}
use Rattle.std.specs.Ordering.{is_lt, ordering_reverse}
use Rattle.std.specs.FinMap.Entries.{below_all}
use Rattle.std.proofs.lemmas.Cmp.{nat_list_cmp_total}
use Rattle.rooms_val.specs.Maps.{value_at, order, AreRising, ties}
use Rattle.rooms_val.proofs.MapsLemmas.{first, second, ties_same, order_itself, less}
use Rattle.field_ops.specs.RecordOps.{RecordOpTree, RecordOps}
use Rattle.side_effects.specs.Completed.{first_refusal}
use Rattle.side_effects.specs.Laws.{IsLeastRefused}
use Rattle.side_effects.specs.declared.fault.EditFault.{EditFault}

-- an id that stands in rising pairs is above one that is below all of them
above : (low other : List ℕ) (d : RecordOpTree) (diff : RecordOps) → T (below_all order low diff) → value_at diff other ≡ Some d → order other low ≡ Greater
above low other d [] each is = absurd (let no : None ≡ Some d = is in (cc))
above low other d (c ∷ diff) each is = elim (ties other c.0) as (λ b. ties other c.0 ≡ b → cond b (Some c.1) (value_at diff other) ≡ Some d → order other low ≡ Greater) [
  | true ↦ λ same _. nat_list_cmp_total.antisymm other low ∙ ap ordering_reverse (ap (order low) (ties_same other c.0 same) ∙ less _ (first _ _ each))
  | false ↦ λ _ later. above low other d diff (second _ _ each) later
] refl is

module _ (rule : List ℕ → RecordOpTree → Option EditFault) where
  -- the first one is refused
  found_here : (c : List ℕ × RecordOpTree) (diff : RecordOps) (fault : EditFault) → AreRising (c ∷ diff) → rule c.0 c.1 ≡ Some fault → IsLeastRefused rule (c ∷ diff) fault
  found_here c diff fault rising is = record {
    id = c.0;
    op = c.1;
    named = ap (λ o. cond (is_eq o) (Some c.1) (value_at diff c.0)) (order_itself c.0);
    refused = is;
    least = λ other d at _. elim (ties other c.0) as (λ b. ties other c.0 ≡ b → cond b (Some c.1) (value_at diff other) ≡ Some d → is_lt (order other c.0) ≡ false) [
      | true ↦ λ same _. ap (λ k. is_lt (order k c.0)) (ties_same other c.0 same) ∙ ap is_lt (order_itself c.0)
      | false ↦ λ _ later. ap is_lt (above c.0 other d diff (first _ _ rising) later)
    ] refl at;
  }

  no_refusal : (x y : List ℕ) (d e : RecordOpTree) → x ≡ y → d ≡ e → rule y e ≡ None → is_some (rule x d) ≡ true → ⊥
  no_refusal x y d e same one none refused = let no : false ≡ true = sym (ap is_some ((λ i. rule (same i) (one i)) ∙ none)) ∙ refused in (cc)

  -- the first one isn't refused, and one of the others is
  found_later : (c : List ℕ × RecordOpTree) (diff : RecordOps) (fault : EditFault) → AreRising (c ∷ diff) → rule c.0 c.1 ≡ None → IsLeastRefused rule diff fault → IsLeastRefused rule (c ∷ diff) fault
  found_later c diff fault rising none found = record {
    id = found.id;
    op = found.op;
    named = ap (λ o. cond (is_eq o) (Some c.1) (value_at diff found.id)) (above c.0 found.id found.op diff (first _ _ rising) found.named) ∙ found.named;
    refused = found.refused;
    least = λ other d at refused. elim (ties other c.0) as (λ b. ties other c.0 ≡ b → cond b (Some c.1) (value_at diff other) ≡ Some d → is_lt (order other found.id) ≡ false) [
      | true ↦ λ same here. let one : d ≡ c.1 = cc in absurd (no_refusal other c.0 d c.1 (ties_same other c.0 same) one none refused)
      | false ↦ λ _ later. found.least other d later refused
    ] refl at;
  }

  pub found_first : (diff : RecordOps) (fault : EditFault) → AreRising diff → first_refusal rule diff ≡ Some fault → IsLeastRefused rule diff fault
  found_first [] fault rising is = absurd (let no : None ≡ Some fault = is in (cc))
  found_first (c ∷ diff) fault rising is = elim (rule c.0 c.1) as (λ o. rule c.0 c.1 ≡ o → option_map_or (λ f. Some f) o (first_refusal rule diff) ≡ Some fault → IsLeastRefused rule (c ∷ diff) fault) [
    | None ↦ λ none later. found_later c diff fault rising none (found_first diff fault (second _ _ rising) later)
    | Some f ↦ λ here same. found_here c diff fault rising (here ∙ same)
  ] refl is
