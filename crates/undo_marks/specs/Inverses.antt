-- Inverses of edits.
use Rattle.std.specs.Prelude.{◌≡◌, List, [], ◌∷◌, Bool, false, Option}
use Rattle.std.specs.Option.{option_map_or}
use Rattle.std.specs.List.{list_any}
use Rattle.field_ops.specs.RecordOps.{RecordOps, IsSoundDiff, has_append}

-- whether an append stands anywhere in a diff
abbrev pub diff_has_append : RecordOps → Bool
diff_has_append diff = list_any (λ c. has_append c.1) diff

-- the same of a diff that may be missing
abbrev pub if_has_append : Option RecordOps → Bool
if_has_append diff = option_map_or diff_has_append diff false

-- a diff that is as the inverses of edits are: sound, and without appends
abbrev pub IsInverse : RecordOps → Type 0
IsInverse diff = IsSoundDiff diff × (diff_has_append diff ≡ false)

-- each of some diffs is
abbrev pub AreInverses : List RecordOps → Type 0
AreInverses [] = Unit {0}
AreInverses (diff ∷ diffs) = IsInverse diff × AreInverses diffs

-- a diff, or none where it is empty
abbrev pub unless_empty : RecordOps → List RecordOps
unless_empty [] = []
unless_empty (c ∷ diff) = (c ∷ diff) ∷ []
