-- What a script says of the calls.
use Rattle.std.specs.Prelude.{◌-◌, ◌^◌, ◌<◌, Contains}
use Rattle.room_link.specs.declared.script.Script.{Script}

-- the next call is one of those that fail
abbrev pub IsToFail : Script → Type 0
IsToFail script = (script.next < 2 ^ 64 - 1) × Contains script.failing.items script.next
