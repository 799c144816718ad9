use Rattle.std.proofs.Common.{◌≡◌, Some, option_map, refl}
use Rattle.rooms_val.specs.View.{data_of}
use Rattle.wire_msgs.proofs.PartLemmas.{no_maybe_diff}
use Rattle.rooms_val.proofs.RefusalLemmas.{passed_on}
use Rattle.wire_msgs.proofs.parts.maybe_diff_of.Goals as goal

pub returns-in_err-diff_of-in-Some-clause-refused : goal.returns-in_err-diff_of-in-Some-clause-refused
returns-in_err-diff_of-in-Some-clause-refused c =
    let there : option_map (λ v. data_of v.now) c.args.val ≡ Some (data_of c.in-Some.val.now) = rw c.in-Some.is refl in
    passed_on c.from_residual.result c.in_err-diff_of-in-Some.field-0.0 c.from_residual.ensures.1 (no_maybe_diff (data_of c.in-Some.val.now) _ there) c.in_err-diff_of-in-Some.ensures.refused
