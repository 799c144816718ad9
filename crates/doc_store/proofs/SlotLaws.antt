-- What slots hold after a change of one of them.
use Rattle.std.proofs.Common.{◌≡◌, ℕ, List, [], ◌∷◌, Bool, true, false, cond, is_eq, Option, Some, None, refl, sym, ap, subst, ◌∙◌}
use Rattle.std.specs.Option.{is_some}
use Rattle.rooms_val.specs.Data.{Data, map, members_of, IsSound, IsSoundRecord}
use Rattle.rooms_val.specs.Maps.{value_at, AreRising, with_key, without_key, set_at, ties}
use Rattle.rooms_val.proofs.DataLemmas.{sound-set_at, sound-where_key}
use Rattle.rooms_val.proofs.MapsLemmas.{by_tie, order_itself, at-set_at, at-with_key, at-without_key, rising-set_at, rising-with_key, rising-without_key, same_pairs}
use Rattle.doc_store.specs.Slots.{Slots, slot_record, present, AreSound}

pub get-present : (s : Slots) (q : List ℕ) → value_at (present s) q ≡ slot_record (value_at s q)
get-present [] q = refl
get-present (e ∷ s) q = at-set_at (present s) e.0 q e.1 ∙ elim (ties q e.0) as (λ t. cond t e.1 (value_at (present s) q) ≡ slot_record (cond t (Some e.1) (value_at s q))) [ true ↦ refl | false ↦ get-present s q ]

pub rising-present : (s : Slots) → AreRising (present s)
rising-present [] = tt
rising-present (e ∷ s) = rising-set_at (present s) e.0 e.1 (rising-present s)

held_some : (t : Bool) (r : Option Data) (o : Option (Option Data)) → slot_record (cond t (Some r) o) ≡ cond t r (slot_record o)
held_some true r o = refl
held_some false r o = refl

held_none : (t : Bool) (o : Option (Option Data)) → slot_record (cond t None o) ≡ cond t None (slot_record o)
held_none true o = refl
held_none false o = refl

-- a slot set is its record set
pub present-with_key : (s : Slots) (id : List ℕ) (r : Option Data) → present (with_key s id r) ≡ set_at (present s) id r
present-with_key s id r = same_pairs _ _ (rising-present (with_key s id r)) (rising-set_at (present s) id r (rising-present s)) (λ q.
    get-present (with_key s id r) q ∙ ap slot_record (at-with_key s id q r) ∙ held_some (ties q id) r (value_at s q) ∙ ap (cond (ties q id) r) (sym (get-present s q)) ∙ sym (at-set_at (present s) id q r))

-- a slot taken away is its record taken away
pub present-without_key : (s : Slots) (id : List ℕ) → present (without_key s id) ≡ without_key (present s) id
present-without_key s id = same_pairs _ _ (rising-present (without_key s id)) (rising-without_key (present s) id (rising-present s)) (λ q.
    get-present (without_key s id) q ∙ ap slot_record (at-without_key s id q) ∙ held_none (ties q id) (value_at s q) ∙ ap (cond (ties q id) None) (sym (get-present s q)) ∙ sym (at-without_key (present s) id q))

-- a slot without a record can go
pub present-empty : (s : Slots) (id : List ℕ) → slot_record (value_at s id) ≡ None → present (without_key s id) ≡ present s
present-empty s id none = present-without_key s id ∙ same_pairs _ _ (rising-without_key (present s) id (rising-present s)) (rising-present s) (λ q.
    at-without_key (present s) id q ∙ by_tie (λ t. cond t None (value_at (present s) q) ≡ value_at (present s) q) q id (λ same. sym (ap (value_at (present s)) same ∙ get-present s id ∙ none)) refl)

-- a slot put back as it was
pub set_same : (s : Slots) (id : List ℕ) → AreRising s → set_at s id (value_at s id) ≡ s
set_same s id rising = same_pairs _ s (rising-set_at s id (value_at s id) rising) rising (λ q.
    at-set_at s id q (value_at s id) ∙ by_tie (λ t. cond t (value_at s id) (value_at s q) ≡ value_at s q) q id (λ same. ap (value_at s) (sym same)) refl)

pub set_back : (s : Slots) (id : List ℕ) (r : Option Data) → AreRising s → set_at (with_key s id r) id (value_at s id) ≡ s
set_back s id r rising = same_pairs _ s (rising-set_at (with_key s id r) id (value_at s id) (rising-with_key s id r rising)) rising (λ q.
    at-set_at (with_key s id r) id q (value_at s id) ∙ ap (cond (ties q id) (value_at s id)) (at-with_key s id q r)
    ∙ by_tie (λ t. cond t (value_at s id) (cond t (Some r) (value_at s q)) ≡ value_at s q) q id (λ same. ap (value_at s) (sym same)) refl)

pub is_there : (s : Slots) (id : List ℕ) (r : Option Data) → is_some (value_at (with_key s id r) id) ≡ true
is_there s id r = ap is_some (at-with_key s id id r ∙ ap (λ o. cond (is_eq o) (Some r) (value_at s id)) (order_itself id))

pub sound-with_key : (s : Slots) (id : List ℕ) (r : Option Data) → AreSound s → IsSoundRecord r → AreSound (with_key s id r)
sound-with_key s id r was new = record {
  rising = rising-with_key s id r was.rising;
  sound = subst (λ m. IsSound (map (members_of m))) (sym (present-with_key s id r)) (sound-set_at (present s) id r was.sound new);
}

pub sound-without_key : (s : Slots) (id : List ℕ) → AreSound s → AreSound (without_key s id)
sound-without_key s id was = record {
  rising = rising-without_key s id was.rising;
  sound = subst (λ m. IsSound (map (members_of m))) (sym (present-without_key s id)) (sound-where_key _ (present s) was.sound);
}
