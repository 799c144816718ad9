use Rattle.std.proofs.Common.{◌≡◌, drop}
use Rattle.std.specs.Prelude.{nat_eq}
use Rattle.std.specs.List.{list_any}
use Rattle.migrate_seq.proofs.build.has_slash.Given as goal

-- no byte so far is one
abbrev pub invariant-loop-byte : goal.invariant-loop-byte
invariant-loop-byte l = list_any (λ b. nat_eq b 47) l.bytes ≡ list_any (λ b. nat_eq b 47) (drop l.byte-index l.bytes)
