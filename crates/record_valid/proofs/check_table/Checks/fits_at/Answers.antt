use Rattle.std.proofs.Common.{◌≡◌, false, Some, None, option_map, not, is_some, sym, ap, ◌∙◌}
use Rattle.std.specs.Option.{option_copied}
use Rattle.rooms_val.specs.Maps.{value_at}
use Rattle.rooms_val.specs.View.{data_of}
use Rattle.record_valid.specs.View.{tree_of}
use Rattle.record_valid.specs.Patched.{fit_at}
use Rattle.record_valid.proofs.ByKeyLemmas.{check_at, ok_tells, absent_tells}
use Rattle.record_valid.proofs.check_table.Checks.fits_at.Goals as goal

pub returns-in-Some-val : goal.returns-in-Some-val
returns-in-Some-val c =
    let check = check_at c.self.inside.entries.items c.args.self.now c.args.key.now c.get.result c.self.view_is (c.get.ensures ∙ ap (λ es. value_at es c.args.key.now) c.deref.ensures.value) ∙ ap (option_map (λ k. tree_of k.now)) c.in-Some.is in
    c.is_ok.ensures.value ∙ ok_tells c.check_value.result _ c.check_value.ensures
    ∙ λ i. fit_at (option_copied c.args.kind) (sym check i) (option_map (λ v. data_of v.now) (sym c.in-Some-val.is i))

pub returns-in-None-val : goal.returns-in-None-val
returns-in-None-val c =
    let check = check_at c.self.inside.entries.items c.args.self.now c.args.key.now c.get.result c.self.view_is (c.get.ensures ∙ ap (λ es. value_at es c.args.key.now) c.deref.ensures.value) ∙ ap (option_map (λ k. tree_of k.now)) c.in-Some.is in
    λ i. fit_at (option_copied c.args.kind) (sym check i) (option_map (λ v. data_of v.now) (sym c.in-None-val.is i))

pub returns-in-None : goal.returns-in-None
returns-in-None c =
    let check = check_at c.self.inside.entries.items c.args.self.now c.args.key.now c.get.result c.self.view_is (c.get.ensures ∙ ap (λ es. value_at es c.args.key.now) c.deref.ensures.value) ∙ ap (option_map (λ k. tree_of k.now)) c.in-None.is in
    absent_tells (option_copied c.args.kind) c.args.val c.is_none.result c.is_none.ensures
    ∙ ap (λ o. fit_at (option_copied c.args.kind) o (option_map (λ v. data_of v.now) c.args.val)) (sym check)
