-- Which events a world plays.
use Rattle.rooms_val.specs.Json.{greatest_whole}
use Rattle.shape_tree.specs.Boxes.{IsWithin}
use Rattle.room_model.specs.declared.event.Event.{Event}
use Rattle.room_model.specs.declared.event.Event.TheVariants as event
use Rattle.tl_tables.specs.Tables.{IsVersion}

-- a client's version is one of the tables', and a paste moves by at most 2^53 - 1 in each direction
abbrev pub IsPlayed : Event → Type 0
IsPlayed (event.Client version) = IsVersion version
IsPlayed (event.Paste client dx dy parent prefix) = IsWithin greatest_whole dx × IsWithin greatest_whole dy
IsPlayed other = Unit {0}
