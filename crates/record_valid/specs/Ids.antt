-- Ids: the name of a type, `:` and a unique part. A text is seen as its bytes.
use Rattle.std.specs.Prelude.{ℕ, List, Bool, ◌&&◌, ◌||◌, ◌==◌, nat_lt, nat_le, length, Option, Some, None, if◌then◌else◌, IsSomeAnd, Contains}
use Rattle.std.specs.Char.{is_ascii_alphanumeric}
use Rattle.std.specs.List.{list_all, before_first, after_first}

-- `A` to `Z`, `a` to `z`, `0` to `9`, `_` or `-`
abbrev pub is_unique_byte : ℕ → Bool
is_unique_byte b = is_ascii_alphanumeric b || (b == 95 || b == 45)

-- 1 to 64 of these characters, each of which is one byte
abbrev pub is_unique : List ℕ → Bool
is_unique part = nat_lt 0 (length part) && (nat_le (length part) 64 && list_all is_unique_byte part)

-- the byte is `:`
abbrev pub is_colon : ℕ → Bool
is_colon b = b == 58

-- what stands before the first `:` isn't empty, and what follows it is a unique part, so that there is no second `:`
abbrev pub is_id : List ℕ → Bool
is_id id = nat_lt 0 (length (before_first is_colon id)) && is_unique (after_first is_colon id)

-- the name of the type, which stands before the only `:`, and none where the text is no id
abbrev pub type_part : List ℕ → Option (List ℕ)
type_part id = if is_id id then Some (before_first is_colon id) else None

-- the text is an id of one of the types
abbrev pub IsIdOf : List (List ℕ) → List ℕ → Type 0
IsIdOf types id = IsSomeAnd (type_part id) (Contains types)
