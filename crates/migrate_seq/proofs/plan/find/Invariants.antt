use Rattle.std.proofs.Common.{◌≡◌, drop}
use Rattle.std.specs.List.{find}
use Rattle.std.specs.Str.{bytes_eq}
use Rattle.migrate_seq.proofs.plan.find.Given as goal

-- no sequence so far has the id
abbrev pub invariant-loop-sequence : goal.invariant-loop-sequence
invariant-loop-sequence l = find (λ s. bytes_eq s.id l.id) l.sequences ≡ find (λ s. bytes_eq s.id l.id) (drop l.sequence-index l.sequences)
