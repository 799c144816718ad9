use Rattle.std.proofs.Common.{◌≡◌, ◌+◌, ◌++◌, length, map, drop}
use Rattle.wire_text.specs.Cutting.{numbered}
use Rattle.wire_text.proofs.cut.pieces.Given as goal

-- the pieces so far are those of the parts that were gone over
abbrev pub invariant-parts : goal.invariant-parts
invariant-parts l =
    (l.to_come + l.part-index ≡ length l.part-items)
    × (l.pieces.items ++ numbered (map (λ part. part.now) (drop l.part-index l.part-items)) ≡ numbered (map (λ part. part.now) l.part-items))
