-- The JSON that a value is, the value that some JSON is, and what keeps JSON from being a value.
use Rattle.std.specs.Prelude.{ℕ, nat_le, nat_lt, ℤ, pos, negsuc, List, Bool, true, not, ◌&&◌, if◌then◌else◌, unsigned_abs, unwrap_or, Result, Ok, Err}
use Rattle.std.specs.Option.{ok_or}
use Rattle.std.specs.Str.{is_utf8}
use Rattle.json.specs.Token.{Token}
use Rattle.json.specs.Tree as tree
use Rattle.json.specs.Tree.{json_tokens}
use Rattle.serde_json.specs.Data as json
use Rattle.serde_json.specs.Read.{read}
use Rattle.serde_json.specs.Find.{of_integer, as_i64}
use Rattle.serde_json.specs.Written.{has_float, compact_text, outline, items_outline, members_outline}
use Rattle.rooms_val.specs.Data.{Data, null, boolean, whole, text, list, map, Items, no_items, item, Members, no_members, member}
use Rattle.rooms_val.specs.declared.fault.ValFault.{ValFault}
use Rattle.rooms_val.specs.declared.fault.ValFault.TheVariants.{BadJson, NotWhole, OutOfRange, TooDeep}
use Rattle.rooms_val.specs.declared.limits.TheConstants.{GREATEST_WHOLE}

-- the JSON of a value
abbrev mutual
  pub json_of : Data → json.Data
  json_of null = json.null
  json_of (boolean b) = json.boolean b
  json_of (whole z) = json.number (of_integer z)
  json_of (text s) = json.string s
  json_of (list ds) = json.array (json_items ds)
  json_of (map ms) = json.object (json_members ms)

  pub json_items : Items → json.Items
  json_items no_items = json.no_items
  json_items (item d ds) = json.item (json_of d) (json_items ds)

  pub json_members : Members → json.Members
  json_members no_members = json.no_members
  json_members (member k d ms) = json.member k (json_of d) (json_members ms)

-- the whole number of 64 bits that a number is; any other number has none, and 0 stands in its place
abbrev pub whole_of : json.Num → ℤ
whole_of n = unwrap_or (as_i64 n) (pos 0)

-- the value of some JSON
abbrev mutual
  pub value_in : json.Data → Data
  value_in json.null = null
  value_in (json.boolean b) = boolean b
  value_in (json.number n) = whole (whole_of n)
  value_in (json.string s) = text s
  value_in (json.array js) = list (items_in js)
  value_in (json.object ms) = map (members_in ms)

  pub items_in : json.Items → Items
  items_in json.no_items = no_items
  items_in (json.item j js) = item (value_in j) (items_in js)

  pub members_in : json.Members → Members
  members_in json.no_members = no_members
  members_in (json.member k j ms) = member k (value_in j) (members_in ms)

-- the greatest whole number that every reader of JSON takes exactly
abbrev pub greatest_whole : ℕ
greatest_whole = unsigned_abs GREATEST_WHOLE

-- a whole number lies within the greatest one on either side
abbrev pub is_in_range : json.Num → Bool
is_in_range (json.unsigned n) = nat_le n greatest_whole
is_in_range (json.negative (pos n)) = nat_le n greatest_whole
is_in_range (json.negative (negsuc n)) = nat_lt n greatest_whole
is_in_range (json.float x) = true

-- each of the JSON's whole numbers is in range
abbrev mutual
  pub is_within : json.Data → Bool
  is_within json.null = true
  is_within (json.boolean b) = true
  is_within (json.number n) = is_in_range n
  is_within (json.string s) = true
  is_within (json.array js) = items_are_within js
  is_within (json.object ms) = members_are_within ms

  pub items_are_within : json.Items → Bool
  items_are_within json.no_items = true
  items_are_within (json.item j js) = is_within j && items_are_within js

  pub members_are_within : json.Members → Bool
  members_are_within json.no_members = true
  members_are_within (json.member k j ms) = is_within j && members_are_within ms

-- how deep a value may nest
abbrev pub deepest : ℕ
deepest = 64

-- the JSON that bytes are in UTF-8
abbrev pub json_at : List ℕ → Result json.Data ValFault
json_at bytes = if is_utf8 bytes then ok_or (read bytes) BadJson else Err BadJson

-- the value of some JSON, or its first fault
abbrev pub checked : json.Data → Result Data ValFault
checked j =
    if has_float j then Err NotWhole
    else if not (is_within j) then Err OutOfRange
    else if nat_lt deepest (json.depth j) then Err TooDeep
    else Ok (value_in j)

abbrev pub checked_if_read : Result json.Data ValFault → Result Data ValFault
checked_if_read (Err fault) = Err fault
checked_if_read (Ok j) = checked j

-- what bytes are read as: a value, or the first fault by number
abbrev pub value_of : List ℕ → Result Data ValFault
value_of bytes = checked_if_read (json_at bytes)

-- the tokens of a value's JSON
abbrev pub tokens_of : Data → List Token
tokens_of d = json_tokens (outline (json_of d))

-- the same of some items, with the bracket that closes their list
abbrev pub items_tokens : Items → List Token
items_tokens ds = tree.items_tokens (items_outline (json_items ds))

-- the same of some members, with the bracket that closes their map
abbrev pub members_tokens : Members → List Token
members_tokens ms = tree.members_tokens (members_outline (json_members ms))

-- what a value is printed as: JSON with no blanks
abbrev pub text_of : Data → List ℕ
text_of d = compact_text (json_of d)
