use Rattle.std.proofs.Common.{◌≡◌, drop}
use Rattle.migrate_seq.specs.Builds.{is_digit}
use Rattle.std.specs.List.{list_all}
use Rattle.migrate_seq.proofs.build.are_digits.Given as goal

-- each byte so far is a digit
abbrev pub invariant-loop-byte : goal.invariant-loop-byte
invariant-loop-byte l = list_all is_digit l.bytes ≡ list_all is_digit (drop l.byte-index l.bytes)
