use Rattle.std.proofs.Common.{◌≡◌, ◌++◌, map}
use Rattle.clip_content.proofs.tops.tops.Given as goal

abbrev pub invariant-spots : goal.invariant-spots
invariant-spots l =
    l.ids.items ++ map (λ s. s.id.now) l.spot-iterator ≡ map (λ s. s.id.now) l.initial.spot-iterator
