use Rattle.std.proofs.Common.{◌≡◌, drop}
use Rattle.std.specs.Option.{option_copied}
use Rattle.field_ops.specs.View.{patch_view}
use Rattle.record_valid.specs.Parts.{type_text}
use Rattle.record_valid.specs.Patched.{each_named_fits}
use Rattle.record_valid.proofs.check_table.Checks.still_fit.Given as goal

-- the answer for all is that for what is left
abbrev pub invariant-loop-key : goal.invariant-loop-key
invariant-loop-key l = each_named_fits (type_text l.map) l.self l.map l.patch ≡ each_named_fits (option_copied l.kind) l.self l.map (patch_view (drop l.key-index l.key-items))
