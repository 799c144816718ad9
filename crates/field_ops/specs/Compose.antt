-- The one operation that does two in turn.
use Rattle.std.specs.Prelude.{Option, Some, None, option_map, unwrap_or}
use Rattle.rooms_val.specs.Data.{Pairs}
use Rattle.rooms_val.specs.Maps.{value_at, with_key}
use Rattle.field_ops.specs.ValueOps.{ValueOpTree, put, patch, append, append_text, delete, ValueOpTrees, no_edits, edit_at, edits_of, patch_of, Patch}
use Rattle.field_ops.specs.RecordOps as change
use Rattle.rooms_val.specs.Kinds.{on_map}
use Rattle.field_ops.specs.Patched.{patched}

-- what a second patch, which changes maps by f and patches by g, makes of a first operation
abbrev pub patched_edit : (Pairs → Pairs) → (Patch → Patch) → ValueOpTree → ValueOpTree
patched_edit f g (put d) = put (on_map f d)
patched_edit f g (patch es) = patch (edits_of (g (patch_of es)))
patched_edit f g (append ds n) = append ds n
patched_edit f g (append_text s n) = append_text s n
patched_edit f g delete = delete

abbrev mutual
  -- a second operation after a first; where either has an append, this isn't asked for
  pub after : ValueOpTree → ValueOpTree → ValueOpTree
  after (put d) first = put d
  after (patch es) first = patched_edit (λ f. patched es f) (λ p. both es p) first
  after (append ds n) first = append ds n
  after (append_text s n) first = append_text s n
  after delete first = delete

  -- a second patch after a first: each keeps its own keys, and at a key of both one operation does both
  pub both : ValueOpTrees → Patch → Patch
  both no_edits p = p
  both (edit_at k e es) p = with_key (both es p) k (unwrap_or (option_map (λ first. after e first) (value_at p k)) e)

-- what a key's operation becomes, where the second patch perhaps names the key
abbrev pub edit_after : Option ValueOpTree → Option ValueOpTree → Option ValueOpTree
edit_after None first = first
edit_after (Some e) None = Some e
edit_after (Some e) (Some first) = Some (after e first)

-- what a second patch makes of a first operation on a record
abbrev pub patched_change : Patch → change.RecordOpTree → change.RecordOpTree
patched_change q (change.put d) = change.put (on_map (λ f. patched (edits_of q) f) d)
patched_change q (change.patch p) = change.patch (both (edits_of q) p)
patched_change q change.remove = change.remove

-- the operation that does both in turn
abbrev pub in_turn : change.RecordOpTree → change.RecordOpTree → change.RecordOpTree
in_turn first (change.put d) = change.put d
in_turn first (change.patch q) = patched_change q first
in_turn first change.remove = change.remove
