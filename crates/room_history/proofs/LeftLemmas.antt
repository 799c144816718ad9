-- What a diff leaves under its ids.
use Rattle.std.proofs.Common.{◌≡◌, ℕ, true, false, cond, List, [], ◌∷◌, map, Option, Some, None, is_eq, refl, sym, ap, ◌∙◌}
use Rattle.rooms_val.specs.Data.{Data, Pairs}
use Rattle.rooms_val.specs.Maps.{value_at, set_at, ties, AreRising}
use Rattle.rooms_val.proofs.MapsLemmas.{at-set_at, ties_flip, order_itself, none_later, rising_rest}
use Rattle.field_ops.specs.RecordOps.{RecordOpTree, RecordOps}
use Rattle.field_ops.specs.Patched.{raw}
use Rattle.doc_model.specs.Documents.{fold_raw}
use Rattle.room_model.proofs.LookUpLemmas.{unnamed}
use Rattle.room_accept.specs.Suiting.{left_under}
use Rattle.room_history.specs.Marks.{set_all}

-- what is set under another id changes nothing
left-same : (m : Pairs) (diff : RecordOps) (id : List ℕ) (r : Option Data) → value_at diff id ≡ None → left_under (set_at m id r) diff ≡ left_under m diff
left-same m [] id r none = refl
left-same m (c ∷ diff) id r none =
    elim (ties id c.0) as (λ b. ties id c.0 ≡ b → cond b (Some c.1) (value_at diff id) ≡ None → left_under (set_at m id r) (c ∷ diff) ≡ left_under m (c ∷ diff)) [
      | true ↦ λ is some. absurd (cc)
      | false ↦ λ is rest.
          let same : value_at (set_at m id r) c.0 ≡ value_at m c.0 = at-set_at m id c.0 r ∙ ap (λ b. cond b r (value_at m c.0)) (ties_flip c.0 id ∙ is) in
          (λ i. (c.0, raw c.1 (same i)) ∷ left-same m diff id r rest i)
    ] refl none

-- the records once each is set are those that the diff makes
pub set-left : (diff : RecordOps) (m : Pairs) → AreRising diff → set_all m (left_under m diff) ≡ fold_raw m diff
set-left [] m rising = refl
set-left (c ∷ diff) m rising =
    let r = raw c.1 (value_at m c.0) in
    ap (set_all (set_at m c.0 r)) (sym (left-same m diff c.0 r (none_later c diff rising))) ∙ set-left diff (set_at m c.0 r) (rising_rest c diff rising)

-- and they stand there afterwards
pub left-after : (diff : RecordOps) (m : Pairs) → AreRising diff → map (λ c. (c.0, value_at (fold_raw m diff) c.0)) diff ≡ left_under m diff
left-after [] m rising = refl
left-after (c ∷ diff) m rising =
    let r = raw c.1 (value_at m c.0) in
    let m1 = set_at m c.0 r in
    let fresh = none_later c diff rising in
    let here : value_at (fold_raw m1 diff) c.0 ≡ r = unnamed diff m1 c.0 fresh ∙ at-set_at m c.0 c.0 r ∙ ap (λ o. cond (is_eq o) r (value_at m c.0)) (order_itself c.0) in
    let rest : map (λ (e : List ℕ × RecordOpTree). (e.0, value_at (fold_raw m1 diff) e.0)) diff ≡ left_under m diff = left-after diff m1 (rising_rest c diff rising) ∙ left-same m diff c.0 r fresh in
    (λ i. (c.0, here i) ∷ rest i)
