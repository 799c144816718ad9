-- The ids of the records that stand in slots.
use Rattle.std.proofs.Common.{◌≡◌, ℕ, List, [], ◌∷◌, Bool, true, false, T, cond, map, Option, Some, None, Less, Equal, Greater, refl, sym, ap, ◌∙◌}
use Rattle.std.specs.Option.{is_some}
use Rattle.std.specs.Ordering.{is_lt}
use Rattle.std.specs.FinMap.Entries.{below_all, by_order, where_key}
use Rattle.rooms_val.specs.Data.{Data, Pairs}
use Rattle.rooms_val.specs.Maps.{order, AreRising, with_key, set_at}
use Rattle.rooms_val.proofs.MapsLemmas.{first, second, less, rising_rest, none_later}
use Rattle.rooms_val.proofs.Truths.{and_holds}
use Rattle.doc_store.specs.Slots.{Slots, slot_record, present}
use Rattle.doc_store.proofs.SlotLaws.{present-empty, present-without_key}

below-put : (k id : List ℕ) (m : Pairs) (d : Data) → T (is_lt (order k id)) → T (below_all order k m) → T (below_all order k (with_key m id d))
below-put k id [] d lower h = and_holds _ _ lower tt
below-put k id (p ∷ m) d lower h = elim (order id p.0) as (λ o. T (below_all order k (by_order o ((id, d) ∷ p ∷ m) ((p.0, d) ∷ m) (p ∷ with_key m id d)))) [
  | Less ↦ and_holds _ _ lower h
  | Equal ↦ h
  | Greater ↦ and_holds _ _ (first _ _ h) (below-put k id m d lower (second _ _ h))
]

below-where : (k : List ℕ) (test : List ℕ → Bool) (m : Pairs) → T (below_all order k m) → T (below_all order k (where_key order test m))
below-where k test [] h = tt
below-where k test (p ∷ m) h = elim (test p.0) as (λ b. T (below_all order k (cond b (p ∷ where_key order test m) (where_key order test m)))) [
  | true ↦ and_holds _ _ (first _ _ h) (below-where k test m (second _ _ h))
  | false ↦ below-where k test m (second _ _ h)
]

below-set : (k id : List ℕ) (m : Pairs) (r : Option Data) → T (is_lt (order k id)) → T (below_all order k m) → T (below_all order k (set_at m id r))
below-set k id m None lower h = below-where k _ m h
below-set k id m (Some d) lower h = below-put k id m d lower h

below-present : (k : List ℕ) (s : Slots) → T (below_all order k s) → T (below_all order k (present s))
below-present k [] h = tt
below-present k (e ∷ s) h = below-set k e.0 (present s) e.1 (first _ _ h) (below-present k s (second _ _ h))

put_below : (k : List ℕ) (m : Pairs) (d : Data) → T (below_all order k m) → with_key m k d ≡ (k, d) ∷ m
put_below k [] d h = refl
put_below k (p ∷ m) d h = rw (less (order k p.0) (first (is_lt (order k p.0)) (below_all order k m) h)) refl

-- the ids of the slots that hold a record
abbrev pub full_ids : Slots → List (List ℕ)
full_ids [] = []
full_ids (s ∷ slots) = cond (is_some s.1) (s.0 ∷ full_ids slots) (full_ids slots)

pub ids-present : (s : Slots) → AreRising s → map (λ p. p.0) (present s) ≡ full_ids s
ids-present [] rising = refl
ids-present (e ∷ s) rising =
    let later = ids-present s (rising_rest e s rising) in
    elim e.1 as (λ r. map (λ p. p.0) (set_at (present s) e.0 r) ≡ cond (is_some r) (e.0 ∷ full_ids s) (full_ids s)) [
      | None ↦ ap (map (λ p. p.0)) (sym (present-without_key s e.0) ∙ present-empty s e.0 (ap slot_record (none_later e s rising))) ∙ later
      | Some d ↦ ap (map (λ p. p.0)) (put_below e.0 (present s) d (below-present e.0 s (first _ _ rising))) ∙ ap (λ rest. e.0 ∷ rest) later
    ]
