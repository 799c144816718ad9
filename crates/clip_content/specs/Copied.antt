-- What a copy takes of a document: shapes with all that hangs under them, and the bindings between these shapes.
use Rattle.std.specs.Prelude.{ℕ, nat_lt, length, List, [], ◌∷◌, Bool, not, ◌&&◌, ◌||◌, if◌then◌else◌, filter, Option, Some, None, Result, Ok, Err}
use Rattle.std.specs.List.{list_any, find}
use Rattle.std.specs.Option.{option_map_or}
use Rattle.rooms_val.specs.Data.{Data, Pairs}
use Rattle.rooms_val.specs.Maps.{ties}
use Rattle.shape_tree.specs.Records.{is_shape, is_binding}
use Rattle.side_effects.specs.Reaching.{reaches}
use Rattle.side_effects.specs.Records.{from_of, to_of, has}
use Rattle.side_effects.specs.Whole.{has_shape, parents}
use Rattle.room_model.specs.Clips.{ClipTree}
use Rattle.clip_content.specs.declared.limits.TheConstants.{MOST_COPIED}
use Rattle.room_model.specs.declared.clip_fault.ClipFault.{ClipFault}
use Rattle.room_model.specs.declared.clip_fault.ClipFault.TheVariants.{NoShape, Doubled, TooMany}

-- the id is one of some ids
abbrev pub is_one_of : List (List ℕ) → List ℕ → Bool
is_one_of ids id = list_any (ties id) ids

-- the id is one of some ids, or that of a shape whose parent is copied: the least set of which this holds
abbrev pub is_copied : Pairs → List (List ℕ) → List ℕ → Bool
is_copied m ids id = reaches (parents m) (is_one_of ids) (length m) id

-- the shapes of a document that are copied for some ids
abbrev pub shapes_under : Pairs → List (List ℕ) → Pairs
shapes_under m ids = filter (λ e. is_shape e.0 && is_copied m ids e.0) m

-- both ends of a binding are among some shapes
abbrev pub is_within : Pairs → Data → Bool
is_within shapes d = has shapes (from_of d) && has shapes (to_of d)

-- the bindings of a document with both ends among some shapes
abbrev pub bindings_within : Pairs → Pairs → Pairs
bindings_within m shapes = filter (λ e. is_binding e.0 && is_within shapes e.1) m

-- the copy of some ids, however much it is
abbrev pub copied : Pairs → List (List ℕ) → ClipTree
copied m ids = record { shapes = shapes_under m ids; bindings = bindings_within m (shapes_under m ids) }

-- the first of some ids that is no shape of the document
abbrev pub first_missing : Pairs → List (List ℕ) → Option (List ℕ)
first_missing m ids = find (λ id. not (has_shape m id)) ids

-- the first of some ids that stood before it, or among others that came before all of them
abbrev pub first_again : List (List ℕ) → List (List ℕ) → Option (List ℕ)
first_again before [] = None
first_again before (id ∷ ids) = if is_one_of before id then Some id else first_again (id ∷ before) ids

-- a clip has more shapes or more bindings than may be copied
abbrev pub is_too_much : ClipTree → Bool
is_too_much clip = nat_lt MOST_COPIED (length clip.shapes) || nat_lt MOST_COPIED (length clip.bindings)

-- the clip, unless it has too much
abbrev pub if_few : ClipTree → Result ClipTree ClipFault
if_few clip = if is_too_much clip then Err TooMany else Ok clip

-- the copy of some ids, or the first reason why there is none
abbrev pub taken : Pairs → List (List ℕ) → Result ClipTree ClipFault
taken m ids =
    option_map_or (λ id. Err (NoShape id)) (first_missing m ids)
    (option_map_or (λ id. Err (Doubled id)) (first_again [] ids) (if_few (copied m ids)))
