-- Whether the keys that a patch names still have values that fit.
use Rattle.std.specs.Prelude.{ℕ, List, [], ◌∷◌, Bool, true, false, not, ◌&&◌, Option, Some, None, is_some}
use Rattle.rooms_val.specs.Data.{Data, Pairs}
use Rattle.rooms_val.specs.Maps.{value_at}
use Rattle.field_ops.specs.ValueOps.{Patch}
use Rattle.record_valid.specs.Tree.{CheckTree, Table}
use Rattle.record_valid.specs.Faults.{first_fault}

-- there are a check and a value that fits it, or neither
abbrev pub fit_at : Option (List ℕ) → Option CheckTree → Option Data → Bool
fit_at kind None None = true
fit_at kind None (Some d) = false
fit_at kind (Some c) None = false
fit_at kind (Some c) (Some d) = not (is_some (first_fault 1 kind c d))

-- so it is under each key that the patch names
abbrev pub each_named_fits : Option (List ℕ) → Table → Pairs → Patch → Bool
each_named_fits kind table ps [] = true
each_named_fits kind table ps (e ∷ patch) = fit_at kind (value_at table e.0) (value_at ps e.0) && each_named_fits kind table ps patch
