use Rattle.std.proofs.Common.{◌≡◌, map, take}
use Rattle.rooms_val.specs.Data.{text}
use Rattle.rooms_val.specs.View.{items_view}
use Rattle.rec_format.proofs.clips.texts_of.Given as goal

-- the ids so far are the values so far
abbrev pub invariant-vals : goal.invariant-vals
invariant-vals l = items_view (take l.val-index l.vals) ≡ map text l.ids.items
