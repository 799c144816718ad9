-- What an operation on a value is, as a tree that shares nothing with how the code keeps it.
use Rattle.std.specs.Prelude.{ℕ, suc, max, ◌<◌, ◌^◌, List, [], ◌∷◌, Bool, true, false, ◌||◌, codes}
use Rattle.rooms_val.specs.Data.{Data, IsSound, AreSoundItems, items_of}
use Rattle.rooms_val.specs.Maps.{AreRising}

mutual
  pub data ValueOpTree : Type 0 where
    put : Data → ValueOpTree
    patch : ValueOpTrees → ValueOpTree
    append : List Data → ℕ → ValueOpTree
    append_text : List ℕ → ℕ → ValueOpTree
    delete : ValueOpTree

  pub data ValueOpTrees : Type 0 where
    no_edits : ValueOpTrees
    edit_at : List ℕ → ValueOpTree → ValueOpTrees → ValueOpTrees

-- the name of an operation
abbrev pub edit_name : ValueOpTree → List ℕ
edit_name (put d) = codes "put"
edit_name (patch es) = codes "patch"
edit_name (append ds n) = codes "append"
edit_name (append_text s n) = codes "append"
edit_name delete = codes "delete"

-- the keys that a patch names with their operations, in order
abbrev pub Patch : Type 0
Patch = List (List ℕ × ValueOpTree)

abbrev pub edits_of : Patch → ValueOpTrees
edits_of [] = no_edits
edits_of (p ∷ ps) = edit_at p.0 p.1 (edits_of ps)

abbrev pub patch_of : ValueOpTrees → Patch
patch_of no_edits = []
patch_of (edit_at k e es) = (k, e) ∷ patch_of es

-- the keys of every patch in the operation rise, its values are sound, and its offsets fit 32 bits
abbrev mutual
  pub IsSoundEdit : ValueOpTree → Type 0
  IsSoundEdit (put d) = IsSound d
  IsSoundEdit (patch es) = AreRising (patch_of es) × AreSoundEdits es
  IsSoundEdit (append ds n) = AreSoundItems (items_of ds) × (n < 2 ^ 32)
  IsSoundEdit (append_text s n) = n < 2 ^ 32
  IsSoundEdit delete = Unit {0}

  pub AreSoundEdits : ValueOpTrees → Type 0
  AreSoundEdits no_edits = Unit {0}
  AreSoundEdits (edit_at k e es) = IsSoundEdit e × AreSoundEdits es

-- a patch whose operations are sound and whose keys rise
abbrev pub IsSoundPatch : Patch → Type 0
IsSoundPatch p = IsSoundEdit (patch (edits_of p))

-- how deep patches nest
abbrev mutual
  pub edit_depth : ValueOpTree → ℕ
  edit_depth (put d) = 0
  edit_depth (patch es) = suc (edits_depth es)
  edit_depth (append ds n) = 0
  edit_depth (append_text s n) = 0
  edit_depth delete = 0

  pub edits_depth : ValueOpTrees → ℕ
  edits_depth no_edits = 0
  edits_depth (edit_at k e es) = max (edit_depth e) (edits_depth es)

-- whether an append stands anywhere in the operation
abbrev mutual
  pub edit_has_append : ValueOpTree → Bool
  edit_has_append (put d) = false
  edit_has_append (patch es) = edits_have_append es
  edit_has_append (append ds n) = true
  edit_has_append (append_text s n) = true
  edit_has_append delete = false

  pub edits_have_append : ValueOpTrees → Bool
  edits_have_append no_edits = false
  edits_have_append (edit_at k e es) = edit_has_append e || edits_have_append es
