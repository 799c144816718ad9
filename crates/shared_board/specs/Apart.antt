-- Which events leave the connections as they are.
use Rattle.room_model.specs.declared.event.Event.{Event}
use Rattle.room_model.specs.declared.event.Event.TheVariants as event

-- nobody connects by an event
abbrev pub IsApart : Event → Type 0
IsApart (event.Connect client readonly) = ⊥
IsApart other = Unit {0}
