use Rattle.std.proofs.Common.{◌≡◌, take}
use Rattle.rooms_val.specs.View.{pairs_view}
use Rattle.rooms_val.proofs.fields.entry_copies.Given as goal

-- what was copied so far stands for what was read so far
abbrev pub invariant-entries : goal.invariant-entries
invariant-entries l = pairs_view l.copies.items ≡ pairs_view (take l.key-index l.entries)
