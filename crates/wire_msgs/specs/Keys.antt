-- What is wrong with the keys of a message, if anything.
use Rattle.std.specs.Prelude.{ℕ, List, Bool, not, ◌||◌, if◌then◌else◌, Option, Some, None, is_some}
use Rattle.std.specs.List.{list_any}
use Rattle.std.specs.Str.{bytes_eq}
use Rattle.rooms_val.specs.Data.{Pairs}
use Rattle.rooms_val.specs.Maps.{value_at}
use Rattle.wire_msgs.specs.Types.{Keys}
use Rattle.wire_msgs.specs.declared.fault.MsgFault.{MsgFault}
use Rattle.wire_msgs.specs.declared.fault.MsgFault.TheVariants as fault

-- the map lacks one of the keys
abbrev pub lacks_one : List (List ℕ) → Pairs → Bool
lacks_one keys ps = list_any (λ k. not (is_some (value_at ps k))) keys

-- the key is one of the list
abbrev pub is_listed : List (List ℕ) → List ℕ → Bool
is_listed keys key = list_any (λ k. bytes_eq k key) keys

-- the map has a key that is of neither list
abbrev pub has_other : List (List ℕ) → List (List ℕ) → Pairs → Bool
has_other wanted allowed ps = list_any (λ p. not (is_listed wanted p.0 || is_listed allowed p.0)) ps

-- the fault of a message's keys: a missing one comes before one too many
abbrev pub keys_fault : Keys → Pairs → Option MsgFault
keys_fault keys ps =
    if lacks_one keys.wanted ps then Some fault.MissingField
    else if has_other keys.wanted keys.allowed ps then Some fault.ExtraField
    else None
