-- The operations that undo operations.
use Rattle.std.specs.Prelude.{ℕ, [], length, nat_eq, if◌then◌else◌, Option, Some, None, option_map}
use Rattle.std.specs.Option.{option_and_then}
use Rattle.rooms_val.specs.Data.{Data, null, boolean, whole, text, list, map, Pairs, list_of, pairs_of}
use Rattle.rooms_val.specs.Maps.{value_at, set_at}
use Rattle.field_ops.specs.ValueOps.{ValueOpTree, put, patch, append, append_text, delete, ValueOpTrees, no_edits, edit_at, edits_of, Patch}
use Rattle.field_ops.specs.RecordOps as change

-- the patch that a function makes of a map; of what is no map, none
abbrev pub of_map : (Pairs → Patch) → Data → Option ValueOpTree
of_map f null = None
of_map f (boolean b) = None
of_map f (whole z) = None
of_map f (text s) = None
of_map f (list ds) = None
of_map f (map ms) = Some (patch (edits_of (f (pairs_of ms))))

-- a put of a list of length n; of what is no such list, nothing
abbrev pub of_list : ℕ → Data → Option ValueOpTree
of_list n null = None
of_list n (boolean b) = None
of_list n (whole z) = None
of_list n (text s) = None
of_list n (list ds) = if nat_eq (length (list_of ds)) n then Some (put (list ds)) else None
of_list n (map ms) = None

-- a put of a text of n bytes; of what is no such text, nothing
abbrev pub of_text : ℕ → Data → Option ValueOpTree
of_text n null = None
of_text n (boolean b) = None
of_text n (whole z) = None
of_text n (text s) = if nat_eq (length s) n then Some (put (text s)) else None
of_text n (list ds) = None
of_text n (map ms) = None

abbrev mutual
  -- the operation that brings a value back, or its absence; none where the operation does nothing
  pub undo : ValueOpTree → Option Data → Option ValueOpTree
  undo (put d) None = Some delete
  undo (put d) (Some old) = Some (put old)
  undo (patch es) old = option_and_then (of_map (λ f. inverted es f)) old
  undo (append ds n) old = option_and_then (of_list n) old
  undo (append_text s n) old = option_and_then (of_text n) old
  undo delete old = option_map (λ d. put d) old

  -- the patch that brings a map back
  pub inverted : ValueOpTrees → Pairs → Patch
  inverted no_edits f = []
  inverted (edit_at k e es) f = set_at (inverted es f) k (undo e (value_at f k))

-- the patch that brings a record back; of what is no map, the empty one
abbrev pub patch_back : Patch → Data → Patch
patch_back p null = []
patch_back p (boolean b) = []
patch_back p (whole z) = []
patch_back p (text s) = []
patch_back p (list ds) = []
patch_back p (map ms) = inverted (edits_of p) (pairs_of ms)

-- the operation that brings a record back, or its absence; none for a patch or remove of no record
abbrev pub inverse : change.RecordOpTree → Option Data → Option change.RecordOpTree
inverse (change.put d) None = Some change.remove
inverse (change.put d) (Some r) = Some (change.put r)
inverse (change.patch p) r = option_map (λ d. change.patch (patch_back p d)) r
inverse change.remove r = option_map (λ d. change.put d) r
