use Rattle.std.proofs.Common.{◌≡◌, ◌-◌, length}
use denote.Shadow.{shadow}
use denote.Text.{Utf8}
use Rattle.side_effects.specs.Reaching.{reaches}
use Rattle.side_effects.specs.Records.{has}
use Rattle.side_effects.specs.Whole.{parents}
use Rattle.clip_content.proofs.copying.leads_to.Given as goal

abbrev pub invariant-parents : goal.invariant-parents
invariant-parents l =
    shadow (Utf8 l.at) × (reaches (parents l.records) (has l.named) (length l.records - l._step) l.at ≡ reaches (parents l.records) (has l.named) (length l.records) l.id)
