-- What a diff removes, and the diff with more removes.
use Rattle.std.proofs.Common.{◌≡◌, ℕ, Bool, true, false, ◌||◌, cond, List, [], ◌∷◌, Option, Some, None, refl, ap, ◌∙◌}
use Rattle.std.specs.List.{list_any, fold}
use Rattle.std.specs.Option.{option_map_or}
use Rattle.rooms_val.specs.Maps.{value_at, with_key, ties, AreRising}
use Rattle.rooms_val.proofs.MapsLemmas.{at-with_key, rising-with_key}
use Rattle.field_ops.specs.RecordOps.{RecordOpTree, put, patch, remove, RecordOps}
use Rattle.side_effects.specs.Removed.{is_remove, removes}

by_op : (o : Option RecordOpTree) → option_map_or is_remove o false ≡ true → o ≡ Some remove
by_op None is = absurd (let no : false ≡ true = is in (cc))
by_op (Some (put d)) is = absurd (let no : false ≡ true = is in (cc))
by_op (Some (patch p)) is = absurd (let no : false ≡ true = is in (cc))
by_op (Some remove) is = refl

pub removed_is : (diff : RecordOps) (q : List ℕ) → removes diff q ≡ true → value_at diff q ≡ Some remove
removed_is diff q is = by_op (value_at diff q) is

pub removes-with_key : (diff : RecordOps) (id q : List ℕ) → removes (with_key diff id remove) q ≡ (ties q id || removes diff q)
removes-with_key diff id q =
    ap (λ o. option_map_or is_remove o false) (at-with_key diff id q remove)
    ∙ elim (ties q id) as (λ b. option_map_or is_remove (cond b (Some remove) (value_at diff q)) false ≡ (b || removes diff q)) [ true ↦ refl | false ↦ refl ]

abbrev pub all_removed : RecordOps → List (List ℕ) → RecordOps
all_removed diff ids = fold (λ all id. with_key all id remove) diff ids

pub at-all_removed : (ids : List (List ℕ)) (diff : RecordOps) (q : List ℕ) → value_at (all_removed diff ids) q ≡ cond (list_any (ties q) ids) (Some remove) (value_at diff q)
at-all_removed [] diff q = refl
at-all_removed (id ∷ ids) diff q =
    at-all_removed ids (with_key diff id remove) q
    ∙ ap (cond (list_any (ties q) ids) (Some remove)) (at-with_key diff id q remove)
    ∙ joined (ties q id) (list_any (ties q) ids)
  where
    joined : (a b : Bool) → cond b (Some remove) (cond a (Some remove) (value_at diff q)) ≡ cond (a || b) (Some remove) (value_at diff q)
    joined true true = refl
    joined true false = refl
    joined false true = refl
    joined false false = refl

pub rising-all_removed : (ids : List (List ℕ)) (diff : RecordOps) → AreRising diff → AreRising (all_removed diff ids)
rising-all_removed [] diff rising = rising
rising-all_removed (id ∷ ids) diff rising = rising-all_removed ids (with_key diff id remove) (rising-with_key diff id remove rising)

pub none_removed : (diff : RecordOps) (q : List ℕ) → list_any (λ c. is_remove c.1) diff ≡ false → removes diff q ≡ false
none_removed [] q none = refl
none_removed (c ∷ diff) q none = elim (is_remove c.1) as (λ b. is_remove c.1 ≡ b → (b || list_any (λ d. is_remove d.1) diff) ≡ false → removes (c ∷ diff) q ≡ false) [
  | true ↦ λ _ never. absurd (let no : true ≡ false = never in (cc))
  | false ↦ λ is later. elim (ties q c.0) as (λ t. option_map_or is_remove (cond t (Some c.1) (value_at diff q)) false ≡ false) [
    | true ↦ is
    | false ↦ none_removed diff q later
  ]
] refl none
