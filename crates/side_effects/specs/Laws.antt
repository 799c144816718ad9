-- The laws of completion, each the contract of a function of `laws.rt`.
use Rattle.std.specs.Prelude.{◌≡◌, ℕ, List, Bool, true, false, is_some, Option, Some}
use Rattle.std.specs.Ordering.{is_lt}
use Rattle.rooms_val.specs.Data.{Pairs}
use Rattle.rooms_val.specs.Maps.{AreRising, value_at, order}
use Rattle.field_ops.specs.RecordOps.{RecordOpTree, RecordOps}
use Rattle.doc_model.specs.Documents.{fold_raw}
use Rattle.side_effects.specs.ReachingLaws.{IsClosed}
use Rattle.side_effects.specs.Completed.{first_refusal}
use Rattle.side_effects.specs.Removed.{removes, holders, goes}
use Rattle.side_effects.specs.Whole.{meets_within, meets_itself}
use Rattle.side_effects.specs.declared.fault.EditFault.{EditFault}

-- a diff names an id with an operation that a rule refuses with this fault, and no lesser id with one that it refuses
pub record IsLeastRefused (rule : List ℕ → RecordOpTree → Option EditFault) (diff : RecordOps) (fault : EditFault) : Type 0 where
  pub id : List ℕ
  pub op : RecordOpTree
  pub named : value_at diff id ≡ Some op
  pub refused : rule id op ≡ Some fault
  pub least : (other : List ℕ) (c : RecordOpTree) → value_at diff other ≡ Some c → is_some (rule other c) ≡ true → is_lt (order other id) ≡ false

-- what a rule says of a diff is what it says of the least id that it refuses
abbrev pub NamesTheLeastId : Type 0
NamesTheLeastId = (rule : List ℕ → RecordOpTree → Option EditFault) (diff : RecordOps) (fault : EditFault) → AreRising diff → first_refusal rule diff ≡ Some fault → IsLeastRefused rule diff fault

-- what goes with a diff is the least set with what it removes, and with what hangs on one of the set
pub record GoesWith (m : Pairs) (diff : RecordOps) : Type 0 where
  pub closed : IsClosed (holders m (fold_raw m diff)) (removes diff) (goes m diff)
  pub least : (in_set : List ℕ → Bool) → IsClosed (holders m (fold_raw m diff)) (removes diff) in_set → (id : List ℕ) → goes m diff id ≡ true → in_set id ≡ true

abbrev pub TakesTheLeastSet : Type 0
TakesTheLeastSet = (m : Pairs) (diff : RecordOps) → GoesWith m diff

-- an id that is met on a chain of parents, however far up, is met
abbrev pub FollowsWholeChains : Type 0
FollowsWholeChains = (m : Pairs) (id : List ℕ) (n : ℕ) → meets_within n m id ≡ true → meets_itself m id ≡ true
