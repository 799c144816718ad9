use Rattle.std.proofs.Common.{◌≡◌, drop, fold, cond, length}
use Rattle.std.specs.Prelude.{nat_eq}
use Rattle.rooms_val.specs.Maps.{with_key}
use Rattle.migrate_seq.specs.Plans.{newest_versions}
use Rattle.migrate_seq.proofs.sequences.Sequences.serialized.Given as goal

-- the versions so far, and then those from here on
abbrev pub invariant-loop-sequence : goal.invariant-loop-sequence
invariant-loop-sequence l =
    newest_versions l.sequence-items
    ≡ fold (λ vs s. cond (nat_eq (length s.migrations.items) 0) vs (with_key vs s.id (length s.migrations.items))) l.versions (drop l.sequence-index l.sequence-items)
