-- What the diffs by clock are with one operation more.
use Rattle.std.proofs.Common.{◌≡◌, ◌≢◌, ℕ, nat_abs, ◌==◌, ℤ, pos, ◌≤ℤ◌, ◌<ℤ◌, true, false, cond, List, [], Option, Some, IsSome, unwrap_or, refl, sym, ap, subst, ◌∙◌, arith}
use Rattle.std.specs.Option.{option_map_or}
use Rattle.std.specs.Ordering.{int_cmp}
use Rattle.std.specs.declared.cmp.Ordering.TheVariants.{Less, Equal, Greater}
use Rattle.std.specs.BTreeMap.{BTreeMap, get}
use Rattle.std.proofs.lemmas.Int.{ints}
use Rattle.std.proofs.lemmas.Bool.Decides.{nat_tests}
use Rattle.rooms_val.specs.Maps.{with_key}
use Rattle.rooms_val.specs.View.{data_of}
use Rattle.field_ops.specs.RecordOps.{RecordOpTree, RecordOps, put, remove}
use Rattle.room_model.specs.Saves.{own_id, with_record, with_tomb}
use Rattle.room_model.specs.declared.saved.SavedRecord.{SavedRecord}
use Rattle.room_model.specs.declared.saved.SavedTomb.{SavedTomb}
use Rattle.room_history.specs.Begins.{diff_in, AreWithin}

-- a map of diffs with an operation more at a clock
pub record IsWith (clock : ℤ) (id : List ℕ) (op : RecordOpTree) (old new : BTreeMap ℤ RecordOps) : Type 0 where
  pub at : diff_in new clock ≡ with_key (diff_in old clock) id op
  pub elsewhere : (z : ℤ) → z ≢ clock → get int_cmp new z ≡ get int_cmp old z

module _ (clock : ℤ) (id : List ℕ) (op : RecordOpTree) (old new : BTreeMap ℤ RecordOps) (is : IsWith clock id op old new) where
  added : pos 0 ≤ℤ clock → (n : ℕ) → diff_in new (pos n) ≡ cond (nat_abs clock == n) (with_key (diff_in old (pos n)) id op) (diff_in old (pos n))
  added low n =
      elim (nat_abs clock == n) as (λ b. nat_abs clock == n ≡ b → diff_in new (pos n) ≡ cond b (with_key (diff_in old (pos n)) id op) (diff_in old (pos n))) [
        | true ↦ λ here.
            let number : nat_abs clock ≡ n = grind (arith, nat_tests) in
            let same : clock ≡ pos n = omega (arith, ints) in
            subst (λ z. diff_in new z ≡ with_key (diff_in old z) id op) same is.at
        | false ↦ λ here.
            ap (λ o. unwrap_or o []) (is.elsewhere (pos n) (λ same. let number : nat_abs clock ≡ n = ap nat_abs (sym same) in let never : nat_abs clock == n ≡ true = grind (arith, nat_tests) in absurd (cc)))
      ] refl

  pub still_within : (low high : ℤ) → low <ℤ clock → clock ≤ℤ high → AreWithin low high old → AreWithin low high new
  still_within low high above below were z some =
      elim (int_cmp z clock) as (λ o. int_cmp z clock ≡ o → (low <ℤ z) × (z ≤ℤ high)) [
        | Less ↦ λ less. were z (subst IsSome (is.elsewhere z (λ same. grind (arith, ints))) some)
        | Equal ↦ λ equal. let same : z ≡ clock = grind (arith, ints) in (omega (arith, ints), omega (arith, ints))
        | Greater ↦ λ more. were z (subst IsSome (is.elsewhere z (λ same. grind (arith, ints))) some)
      ] refl

pub recorded : (saved : SavedRecord) (id : List ℕ) (op : RecordOpTree) (old new : BTreeMap ℤ RecordOps) → IsWith saved.clock id op old new → pos 0 ≤ℤ saved.clock → own_id saved ≡ Some id → op ≡ put (data_of saved.record)
    → (n : ℕ) → diff_in new (pos n) ≡ with_record n (diff_in old (pos n)) saved
recorded saved id op old new is low own put_is n =
    added saved.clock id op old new is low n
    ∙ ap (λ o. cond (nat_abs saved.clock == n) (with_key (diff_in old (pos n)) id o) (diff_in old (pos n))) put_is
    ∙ ap (λ (o : Option (List ℕ)). cond (nat_abs saved.clock == n) (option_map_or (λ k. with_key (diff_in old (pos n)) k (put (data_of saved.record))) o (diff_in old (pos n))) (diff_in old (pos n))) (sym own)

pub buried : (tomb : SavedTomb) (id : List ℕ) (old new : BTreeMap ℤ RecordOps) → IsWith tomb.clock id remove old new → pos 0 ≤ℤ tomb.clock → id ≡ tomb.id
    → (n : ℕ) → diff_in new (pos n) ≡ with_tomb n (diff_in old (pos n)) tomb
buried tomb id old new is low same n =
    added tomb.clock id remove old new is low n
    ∙ ap (λ k. cond (nat_abs tomb.clock == n) (with_key (diff_in old (pos n)) k remove) (diff_in old (pos n))) same
