use Rattle.std.proofs.Common.{◌≡◌, map, take}
use Rattle.record_valid.proofs.texts.Texts.of.Given as goal

abbrev pub invariant-loop-text : goal.invariant-loop-text
invariant-loop-text l = l.items.items ≡ map (λ s. s.now) (take l.text-index l.texts)
