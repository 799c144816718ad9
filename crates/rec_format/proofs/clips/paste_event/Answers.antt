use Rattle.std.proofs.Common.{◌≡◌, ◌∙◌, sym, subst, arith, w64, rules}
use Rattle.std.specs.Prelude.{IsTrue}
use Rattle.std.proofs.lemmas.Int.{to_z-of_z}
use mir.Val.{SFits}
use Rattle.rooms_val.specs.View.{pairs_view}
use Rattle.room_model.specs.Clips.{is_prefix}
use Rattle.rec_format.specs.Events.{paste_fields, IsMove, IsParentId}
use Rattle.std.proofs.lemmas.Grind.{common_steps}
use Rattle.rec_format.proofs.RefusalLemmas.{ill_formed}
use Rattle.rec_format.proofs.clips.paste_event.Goals as goal

pub returns-in_err-client-clause-refused : goal.returns-in_err-client-clause-refused
returns-in_err-client-clause-refused c =
    ill_formed c.from_residual-in_err-client.result c.from_residual-in_err-client.ensures.1
    (λ n dx dy parent prefix proper is. c.in_err-client.ensures.only n (grind (arith, common_steps)))

pub returns-in_err-dx-clause-refused : goal.returns-in_err-dx-clause-refused
returns-in_err-dx-clause-refused c =
    ill_formed c.from_residual-in_err-dx.result c.from_residual-in_err-dx.ensures.1
    (λ n dx dy parent prefix proper is. c.in_err-dx.ensures.only dx proper.0 (grind (arith, common_steps)))

pub returns-in_err-dy-clause-refused : goal.returns-in_err-dy-clause-refused
returns-in_err-dy-clause-refused c =
    ill_formed c.from_residual-in_err-dy.result c.from_residual-in_err-dy.ensures.1
    (λ n dx dy parent prefix proper is. c.in_err-dy.ensures.only dy proper.1 (grind (arith, common_steps)))

pub returns-in_err-parent-clause-refused : goal.returns-in_err-parent-clause-refused
returns-in_err-parent-clause-refused c =
    ill_formed c.from_residual-in_err-parent.result c.from_residual-in_err-parent.ensures.1
    (λ n dx dy parent prefix proper is. c.in_err-parent.ensures.only parent proper.2 (grind (arith, common_steps)))

pub returns-in_err-prefix-clause-refused : goal.returns-in_err-prefix-clause-refused
returns-in_err-prefix-clause-refused c =
    ill_formed c.from_residual-in_err-prefix.result c.from_residual-in_err-prefix.ensures.1
    (λ n dx dy parent prefix proper is. c.in_err-prefix.ensures.only prefix proper.3 (grind (arith, common_steps)))

pub returns-clause-found : goal.returns-clause-found
returns-clause-found c =
    let dx_fits : SFits w64 c.in_ok-dx.dx = search rules in
    let dy_fits : SFits w64 c.in_ok-dy.dy = search rules in
    let dx = to_z-of_z w64 c.in_ok-dx.dx dx_fits in
    let dy = to_z-of_z w64 c.in_ok-dy.dy dy_fits in
    let fields : pairs_view c.args.entries.now ≡ paste_fields c.in_ok-client.client c.in_ok-dx.dx c.in_ok-dy.dy c.in_ok-parent.parent.now c.in_ok-prefix.prefix.now =
    grind (arith, common_steps) in (
      fields ∙ (λ i. paste_fields c.in_ok-client.client (sym dx i) (sym dy i) (sym c.in_ok-copy.ensures i) (sym c.in_ok-copy-2.ensures i)),
      (
        subst IsMove (sym dx) c.in_ok-dx.ensures.found.1,
        subst IsMove (sym dy) c.in_ok-dy.ensures.found.1,
        subst IsParentId (sym c.in_ok-copy.ensures) c.in_ok-parent.ensures.found.1,
        subst (λ t. IsTrue (is_prefix t)) (sym c.in_ok-copy-2.ensures) c.in_ok-prefix.ensures.found.1,
      ),
    )
