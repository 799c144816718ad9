use Rattle.rooms_val.specs.Maps.{AreRising}
use Rattle.sync_room.specs.Scopes.{is_of_part}
use Rattle.sync_room.specs.Standing.{tree_of}
use Rattle.sync_room.proofs.ChosenLemmas.{Chosen}
use Rattle.sync_room.proofs.room.Room.records_of.Given as goal

-- of the records whose ids were met those of the part are copied
abbrev pub invariant-ids : goal.invariant-ids
invariant-ids l = let all = l.fn.self.history.kept.records.0 in AreRising all → Chosen (is_of_part (tree_of l.fn.self) l.fn.presence) all l.fields l.id-iterator.rest.items
