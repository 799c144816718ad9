use Rattle.std.proofs.Common.{◌≡◌, drop}
use Rattle.std.specs.List.{list_any}
use Rattle.std.specs.Str.{bytes_eq}
use Rattle.migrate_seq.proofs.build.is_among.Given as goal

-- none so far has the id
abbrev pub invariant-loop-sequence : goal.invariant-loop-sequence
invariant-loop-sequence l = list_any (λ s. bytes_eq s.id l.id) l.list ≡ list_any (λ s. bytes_eq s.id l.id) (drop l.sequence-index l.list)
