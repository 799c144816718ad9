-- What hangs on what, and what is left of it while it is taken away. No public contract shows it.
use Rattle.std.specs.Prelude.{◌≡◌, ◌≤◌, ℕ, List, [], ◌∷◌, ◌++◌, Bool, true, ◌⊎◌, if◌then◌else◌, length, Some, codes}
use Rattle.std.specs.List.{flat_map}
use Rattle.std.specs.Option.{option_map_or}
use Rattle.rooms_val.specs.Data.{Pairs}
use Rattle.rooms_val.specs.Maps.{AreRising, value_at, keys_of}
use Rattle.field_ops.specs.RecordOps.{remove, RecordOps}
use Rattle.side_effects.specs.ReachingLaws.{IsIn}
use Rattle.shape_tree.specs.Records.{text_or_empty, is_shape, is_binding}
use Rattle.side_effects.specs.Removed.{removes}

-- ids, each with an id on which its record hangs
abbrev pub Links : Type 0
Links = List (List ℕ × List ℕ)

-- the link by a field of the record under an id
abbrev pub link_by : Pairs → List ℕ → List ℕ → Links
link_by m id key = option_map_or (λ d. (id, text_or_empty d key) ∷ []) (value_at m id) []

abbrev pub links_of : Pairs → List ℕ → Links
links_of m id =
    if is_shape id then link_by m id (codes "parentId")
    else if is_binding id then link_by m id (codes "fromId") ++ link_by m id (codes "toId")
    else []

-- those of a document's records, as they are afterwards
abbrev pub links : Pairs → Pairs → Links
links m after = flat_map (links_of after) (keys_of m)

-- from old with all these links came new, and links are left
pub record Sweeps (all : Links) (old : RecordOps) (left : Links) (new : RecordOps) : Type 0 where
  -- what is removed is in whatever set has what was, and what hangs on something of the set
  pub least : (in_set : List ℕ → Bool) → ((q : List ℕ) → removes old q ≡ true → in_set q ≡ true)
      → ((l : List ℕ × List ℕ) → IsIn l all → in_set l.1 ≡ true → in_set l.0 ≡ true) → (q : List ℕ) → removes new q ≡ true → in_set q ≡ true
  pub starts : (q : List ℕ) → removes old q ≡ true → removes new q ≡ true
  pub keeps : (q : List ℕ) → value_at new q ≡ (if removes new q then Some remove else value_at old q)
  pub rising : AreRising old → AreRising new
  -- a link that isn't left led to what is removed
  pub done : (l : List ℕ × List ℕ) → IsIn l all → IsIn l left ⊎ (removes new l.0 ≡ true)
  pub part : (l : List ℕ × List ℕ) → IsIn l left → IsIn l all
  pub fewer : length left ≤ length all

-- nothing that is left hangs on what is removed
abbrev pub AreFree : Links → RecordOps → Type 0
AreFree left new = (l : List ℕ × List ℕ) → IsIn l left → removes new l.1 ≡ true → ⊥
