-- The first fault of a value that does not fit a check.
use Rattle.std.specs.Prelude.{ℕ, ◌+◌, ℤ, List, Bool, false, not, ◌&&◌, Option, Some, None, option_map, is_some, if◌then◌else◌, min, int_le, nat_le, length}
use Rattle.std.specs.Option.{option_or, option_map_or}
use Rattle.index_keys.specs.Keys as keys
use Rattle.rooms_val.specs.Data.{Data, null, Items, no_items, item, Members, no_members, member, pairs_of}
use Rattle.rooms_val.specs.Data as val
use Rattle.record_valid.specs.Tree.{CheckTree, whole, text, one_of, boolean, key, id_of, nullable, list_of, dict, object, by_type, any, Rows, no_rows, row, table_of}
use Rattle.record_valid.specs.Ids.{type_part}
use Rattle.rooms_val.specs.Kinds.{as_truth, as_whole, as_text, as_items, as_members}
use Rattle.record_valid.specs.Parts.{type_text, is_listed, lacks}
use Rattle.rooms_val.specs.Maps.{keys_of}
use Rattle.record_valid.specs.Fits.{names}
use Rattle.record_valid.specs.declared.reject.Reject.{Reject}
use Rattle.record_valid.specs.declared.reject.RejectKind.{RejectKind}
use Rattle.record_valid.specs.declared.reject.RejectKind.TheVariants.{Missing, Extra, WrongKind, OutOfBounds, NotListed, BadKey, BadId}

-- no fault where the test holds
abbrev pub unless : Bool → RejectKind → Option RejectKind
unless holds kind = if holds then None else Some kind

-- of a number that is to lie between two others, both included
abbrev pub bounds_fault : ℤ → ℤ → ℤ → Option RejectKind
bounds_fault least most z = unless (int_le least z && int_le z most) OutOfBounds

-- of a text that is to have at most so many bytes
abbrev pub length_fault : ℕ → List ℕ → Option RejectKind
length_fault most t = unless (nat_le (length t) most) OutOfBounds

-- of a text that is to be one of these
abbrev pub list_fault : List (List ℕ) → List ℕ → Option RejectKind
list_fault texts t = unless (is_listed texts t) NotListed

-- of a text that is to be an index key, which has at most 256 characters, each of which is one byte
abbrev pub key_fault : List ℕ → Option RejectKind
key_fault t = unless (not (is_some (keys.first_fault t)) && nat_le (length t) 256) BadKey

-- of a text that is to be an id of one of these types
abbrev pub id_fault : List (List ℕ) → List ℕ → Option RejectKind
id_fault types t = unless (option_map_or (is_listed types) (type_part t) false) BadId

-- the keys that are missing come before those that are too many
abbrev pub keys_fault : List (List ℕ) → List (List ℕ) → Option RejectKind
keys_fault wanted given = if lacks wanted given then Some Missing else if lacks given wanted then Some Extra else None

-- the fault of a part of the value, or the one that stands first where the value has no such part
abbrev pub part_fault : {A R : Type 0} → R → Option A → (A → Option R) → Option R
part_fault wrong part fault = option_map_or fault part (Some wrong)

-- of a part that need only be there
abbrev pub no_fault : {A R : Type 0} → A → Option R
no_fault x = None

-- how deep the inside of a map or list is: one deeper, up to 2^32 - 1
abbrev pub deeper : ℕ → ℕ
deeper depth = min (depth + 1) 4294967295

-- a fault of this kind, so deep inside
abbrev pub reject : ℕ → RejectKind → Reject
reject depth kind = record { depth = depth; kind = kind }

-- the first fault of the items, in order
abbrev pub items_fault : (Data → Option Reject) → Items → Option Reject
items_fault fault no_items = None
items_fault fault (item d ds) = option_or (fault d) (items_fault fault ds)

-- no fault of `null`, whatever is wrong otherwise
abbrev pub null_or : Option Reject → Data → Option Reject
null_or fault val.null = None
null_or fault _ = fault

-- the first fault of a value so deep inside, as a field of a map with this text under `type`, or with none
abbrev mutual
  pub first_fault : ℕ → Option (List ℕ) → CheckTree → Data → Option Reject
  first_fault n kind (whole least most) d = option_map (reject n) (part_fault WrongKind (as_whole d) (bounds_fault least most))
  first_fault n kind (text most) d = option_map (reject n) (part_fault WrongKind (as_text d) (length_fault most))
  first_fault n kind (one_of texts) d = option_map (reject n) (part_fault WrongKind (as_text d) (list_fault texts))
  first_fault n kind boolean d = option_map (reject n) (part_fault WrongKind (as_truth d) no_fault)
  first_fault n kind key d = option_map (reject n) (part_fault WrongKind (as_text d) key_fault)
  first_fault n kind (id_of types) d = option_map (reject n) (part_fault WrongKind (as_text d) (id_fault types))
  first_fault n kind (nullable c) d = null_or (first_fault n kind c d) d
  first_fault n kind (list_of c) d = part_fault (reject n WrongKind) (as_items d) (items_fault (λ e. first_fault (deeper n) None c e))
  first_fault n kind dict d = option_map (reject n) (part_fault WrongKind (as_members d) no_fault)
  first_fault n kind (object rs) d = part_fault (reject n WrongKind) (as_members d) (λ ms.
      option_or (option_map (reject (deeper n)) (keys_fault (keys_of (table_of rs)) (keys_of (pairs_of ms)))) (fields_fault (deeper n) (type_text (pairs_of ms)) rs ms))
  first_fault n kind (by_type rs) d = row_fault n kind rs d
  first_fault n kind any d = None

  -- the first fault of the fields, side by side, in the order of their keys
  pub fields_fault : ℕ → Option (List ℕ) → Rows → Members → Option Reject
  fields_fault n kind (row k c rs) (member k' d ms) = option_or (first_fault n kind c d) (fields_fault n kind rs ms)
  fields_fault n kind _ _ = None

  -- the first fault by the check that stands under the text
  pub row_fault : ℕ → Option (List ℕ) → Rows → Data → Option Reject
  row_fault n kind no_rows d = Some (reject n NotListed)
  row_fault n kind (row k c rs) d = if names kind k then first_fault n kind c d else row_fault n kind rs d
