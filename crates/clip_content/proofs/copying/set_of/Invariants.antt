use Rattle.std.proofs.Common.{◌≡◌, ℕ, List, ◌||◌, drop}
use Rattle.side_effects.specs.Records.{has}
use Rattle.clip_content.specs.Copied.{is_one_of}
use Rattle.clip_content.proofs.copying.set_of.Given as goal

abbrev pub invariant-ids : goal.invariant-ids
invariant-ids l =
    (q : List ℕ) → (has l.named q || is_one_of (drop l.id-index l.ids) q) ≡ is_one_of l.ids q
