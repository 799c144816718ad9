use Rattle.std.proofs.Common.{◌≡◌, None, Result, Ok, Err, refl, sym, ◌∙◌}
use Rattle.std.specs.Prelude.{◌↔◌, IsOk}
use Rattle.std.specs.Result.{result_err}
use Rattle.rooms_val.specs.View.{data_of}
use Rattle.record_valid.specs.View.{tree_of}
use Rattle.record_valid.specs.declared.reject.Reject.{Reject}
use Rattle.record_valid.proofs.FitsLemmas.{law}
use Rattle.record_valid.proofs.fits.check.Goals as goal

ok_law : (r : Result (Unit {0}) Reject) → IsOk r ↔ (result_err r ≡ None)
ok_law (Ok x) = (λ h. refl, λ h. refl)
ok_law (Err e) = (λ h. (cc), λ h. (cc))

pub returns-clause-fits : goal.returns-clause-fits
returns-clause-fits c =
    let ok = ok_law c.check_value.result in
    let clear = law 0 None (tree_of c.args.check.now) (data_of c.args.val.now) in
    (λ h. clear.0 (sym c.check_value.ensures ∙ ok.0 h), λ fits. ok.1 (c.check_value.ensures ∙ clear.1 fits))
