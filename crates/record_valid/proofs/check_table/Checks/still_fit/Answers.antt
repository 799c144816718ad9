use Rattle.std.proofs.Common.{◌≡◌, suc, ◌+◌, arith, true, false, ◌&&◌, T, drop, option_map, sym, ap, subst, ◌∙◌}
use Rattle.std.specs.Option.{option_copied}
use Rattle.rooms_val.specs.Maps.{AreRising, value_at}
use Rattle.rooms_val.proofs.MapsLemmas.{rising-seen}
use Rattle.field_ops.specs.View.{patch_view}
use Rattle.record_valid.specs.View.{tree_of}
use Rattle.record_valid.specs.Parts.{type_text}
use Rattle.record_valid.specs.Patched.{fit_at, each_named_fits}
use Rattle.record_valid.proofs.ByKeyLemmas.{each-at, each-end}
use Rattle.record_valid.proofs.check_table.Checks.still_fit.Goals as goal

pub loop-key-init : goal.loop-key-init
loop-key-init c = λ i. each_named_fits (sym c.text_at-kind.ensures i) c.args.self.now c.args.map.now (sym c.as_slice-key-items.ensures.pairs i)

pub returns-then-not-fits_at-clause-fits : goal.returns-then-not-fits_at-clause-fits
returns-then-not-fits_at-clause-fits c =
    let key = c.as_str.ensures.bytes in
    let other = c.as_str-in-loop-key.ensures.bytes in
    let here = sym c.if-not-fits_at.true ∙ c.fits_at.ensures ∙ λ i. fit_at (option_copied c.text_at-kind.result) (value_at c.args.self.now (key i)) ((c.get.ensures ∙ ap (value_at c.args.map.now) other) i) in
    ap (λ b. b && each_named_fits (option_copied c.text_at-kind.result) c.args.self.now c.args.map.now (patch_view (drop (suc c.loop-key.key-index) c.as_slice-key-items.result.now))) here
    ∙ sym (each-at (option_copied c.text_at-kind.result) c.args.self.now c.args.map.now c.as_slice-key-items.result.now c.loop-key.key-index c.loop-key-item.result c.loop-key-test.true c.loop-key-item.is)
    ∙ sym c.loop-key.invariant

pub loop-key-preserved : goal.loop-key-preserved
loop-key-preserved c =
    let key = c.as_str.ensures.bytes in
    let other = c.as_str-in-loop-key.ensures.bytes in
    let here = sym c.if-not-fits_at.false ∙ c.fits_at.ensures ∙ λ i. fit_at (option_copied c.text_at-kind.result) (value_at c.args.self.now (key i)) ((c.get.ensures ∙ ap (value_at c.args.map.now) other) i) in
    let next : suc c.loop-key.key-index ≡ c.loop-key.key-index + 1 = omega arith in
    c.loop-key.invariant
    ∙ each-at (option_copied c.text_at-kind.result) c.args.self.now c.args.map.now c.as_slice-key-items.result.now c.loop-key.key-index c.loop-key-item.result c.loop-key-test.true c.loop-key-item.is
    ∙ ap (λ b. b && each_named_fits (option_copied c.text_at-kind.result) c.args.self.now c.args.map.now (patch_view (drop (suc c.loop-key.key-index) c.as_slice-key-items.result.now))) (sym here)
    ∙ ap (λ n. each_named_fits (option_copied c.text_at-kind.result) c.args.self.now c.args.map.now (patch_view (drop n c.as_slice-key-items.result.now))) next

pub returns-clause-fits : goal.returns-clause-fits
returns-clause-fits c = sym (each-end (option_copied c.text_at-kind.result) c.args.self.now c.args.map.now c.as_slice-key-items.result.now c.loop-key.key-index c.loop-key-test.false) ∙ sym c.loop-key.invariant

pub returns-then-not-fits_at-clause-rising : goal.returns-then-not-fits_at-clause-rising
returns-then-not-fits_at-clause-rising c = subst (λ t. AreRising t) c.self.view_is (subst T (sym (rising-seen tree_of c.self.inside.entries.items)) c.self.invariant)

pub returns-clause-rising : goal.returns-clause-rising
returns-clause-rising c = subst (λ t. AreRising t) c.self.view_is (subst T (sym (rising-seen tree_of c.self.inside.entries.items)) c.self.invariant)
