use Rattle.std.proofs.Common.{◌≡◌, take, string_bytes}
use Rattle.index_keys.specs.Digits.{text_of}
use Rattle.index_keys.proofs.digit.text_of.Given as goal

abbrev pub invariant-loop-value : goal.invariant-loop-value
invariant-loop-value l = string_bytes l.text ≡ text_of (take l.value-index l.values)
