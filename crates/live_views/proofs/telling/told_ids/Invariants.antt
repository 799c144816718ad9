use Rattle.std.proofs.Common.{◌≡◌, ◌+◌, ◌++◌, drop, map}
use Rattle.rooms_val.specs.Data.{text}
use Rattle.tl_rules.specs.Ids.{flat}
use Rattle.live_views.proofs.telling.told_ids.Given as goal

-- the ids that were told as texts, and those that are left
abbrev pub invariant-parts : goal.invariant-parts
invariant-parts l = l.list ++ map text (flat (drop l.part-index l.parts)) ≡ map text (flat l.parts)

abbrev pub invariant-ids : goal.invariant-ids
invariant-ids l = l.list ++ map text (drop l.id-index l.id-items ++ flat (drop (l.part-index + 1) l.parts)) ≡ map text (flat l.parts)
