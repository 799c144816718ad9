-- Which slots are empty while writes are noted, and that none is once they were gone through.
use Rattle.std.proofs.Common.{◌≡◌, ℕ, List, [], ◌∷◌, true, false, cond, is_eq, Option, Some, None, refl, sym, ap, ◌∙◌}
use Rattle.rooms_val.specs.Data.{Data}
use Rattle.rooms_val.specs.Maps.{value_at, with_key, without_key, set_at, ties}
use Rattle.rooms_val.proofs.MapsLemmas.{by_tie, order_itself, at-set_at, at-with_key, at-without_key}
use Rattle.doc_store.specs.Slots.{Slots, AreFull}
use Rattle.doc_store.specs.Journal.{Note, began, wrote, AreNoted, is_noted, slots_before, forgotten}

pub noted_before : (notes : List Note) (s : Slots) → AreFull (slots_before notes s) → AreNoted notes s
noted_before [] s full id empty = absurd (full id empty)
noted_before (began ∷ older) s full id empty = noted_before older s full id empty
noted_before (wrote other before ∷ older) s full id empty = elim (ties id other) as (λ t. ties id other ≡ t → cond t true (is_noted older id) ≡ true) [
  | true ↦ λ is. refl
  | false ↦ λ is. noted_before older (set_at s other before) full id (at-set_at s other id before ∙ ap (λ t. cond t before (value_at s id)) is ∙ empty)
] refl

-- where nothing is noted any more, no slot is empty
pub none_noted : (s : Slots) → AreNoted [] s → AreFull s
none_noted s noted id empty = let no : false ≡ true = noted id empty in cc

-- a slot that was looked after needs no note
pub noted_less : (older : List Note) (s t : Slots) (id : List ℕ) (before : Option (Option Data)) → ¬ (value_at t id ≡ Some None) → ((q : List ℕ) → value_at t q ≡ Some None → value_at s q ≡ Some None)
    → AreNoted (wrote id before ∷ older) s → AreNoted older t
noted_less older s t id before dropped others noted q empty =
    by_tie (λ tie. cond tie true (is_noted older q) ≡ true → is_noted older q ≡ true) q id (λ same _. absurd (dropped (ap (value_at t) (sym same) ∙ empty))) (λ there. there) (noted q (others q empty))

pub slots_before-forgotten : (ns : List Note) (s : Slots) → slots_before (forgotten ns) s ≡ slots_before ns s
slots_before-forgotten [] s = refl
slots_before-forgotten (began ∷ ns) s = refl
slots_before-forgotten (wrote id before ∷ ns) s = slots_before-forgotten ns (set_at s id before)

-- a written slot: a record is no empty slot, and one that is gone neither
pub full-with_key : (s : Slots) (id : List ℕ) (d : Data) → AreFull s → AreFull (with_key s id (Some d))
full-with_key s id d full q empty =
    by_tie (λ t. cond t (Some (Some d)) (value_at s q) ≡ Some None → ⊥) q id (λ same is. cc) (full q) (sym (at-with_key s id q (Some d)) ∙ empty)

pub full-without_key : (s : Slots) (id : List ℕ) → AreFull s → AreFull (without_key s id)
full-without_key s id full q empty =
    by_tie (λ t. cond t None (value_at s q) ≡ Some None → ⊥) q id (λ same is. cc) (full q) (sym (at-without_key s id q) ∙ empty)

-- a slot that was taken away is no empty one, and the others are as before
pub gone : (s t : Slots) (id : List ℕ) → t ≡ without_key s id → ¬ (value_at t id ≡ Some None)
gone s t id is empty =
    let at : value_at t id ≡ None = ap (λ x. value_at x id) is ∙ at-without_key s id id ∙ ap (λ o. cond (is_eq o) None (value_at s id)) (order_itself id) in
    cc

pub others_stay : (s t : Slots) (id : List ℕ) → t ≡ without_key s id → (q : List ℕ) → value_at t q ≡ Some None → value_at s q ≡ Some None
others_stay s t id is q empty =
    by_tie (λ tie. cond tie None (value_at s q) ≡ Some None → value_at s q ≡ Some None) q id (λ same h. cc) (λ h. h) (sym (at-without_key s id q) ∙ ap (λ x. value_at x q) (sym is) ∙ empty)
