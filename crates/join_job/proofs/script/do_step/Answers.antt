use Rattle.std.proofs.Common.{refl, sym, ap, subst, ◌∙◌, Some, Ok}
use Rattle.join_job.specs.Texts.{lines_text}
use Rattle.join_job.specs.declared.ending.End.TheVariants as end
use Rattle.join_job.specs.declared.script.Reply.{Reply}
use Rattle.room_join.specs.Joiners as model
use Rattle.room_join.specs.Standing.{Stands}
use Rattle.room_link.specs.Exchange.{Tells}
use Rattle.room_model.specs.Schemas.{WorldSchemas}
use Rattle.side_effects.specs.declared.fault.EditFault.{EditFault}
use Rattle.join_job.specs.Turning.{Comes}
use Rattle.join_job.specs.Turns.{Does}
use Rattle.join_job.proofs.TurnLemmas.{at_end}
use Rattle.join_job.proofs.script.do_step.Goals as goal

pub returns-in-Act-clause-comes : goal.returns-in-Act-clause-comes
returns-in-Act-clause-comes g c =
    let told = g.K.Link.told in
    subst (λ what. Tells (λ x y. (schemas : WorldSchemas EditFault) (client : model.Joiner) → Stands schemas client c.args.joiner.now
    → Comes schemas (Does schemas c.args.at client what) c.do_act.result (Some c.do_act.new.joiner) x y) (told c.args.link.now) (told c.do_act.new.link)) (sym c.in-Act.is) c.do_act.ensures.comes

pub returns-in-Deliver-clause-comes : goal.returns-in-Deliver-clause-comes
returns-in-Deliver-clause-comes g c =
    let told = g.K.Link.told in
    subst (λ what. Tells (λ x y. (schemas : WorldSchemas EditFault) (client : model.Joiner) → Stands schemas client c.args.joiner.now
    → Comes schemas (Does schemas c.args.at client what) c.deliver.result (Some c.deliver.new.joiner) x y) (told c.args.link.now) (told c.deliver.new.link)) (sym c.in-Deliver.is) c.deliver.ensures.comes

pub returns-in_ok-text-in-End-clause-comes : goal.returns-in_ok-text-in-End-clause-comes
returns-in_ok-text-in-End-clause-comes g c =
    let told = g.K.Link.told c.args.link.now in
    let reply : Reply = record { text = c.in_ok-text-in-End.text; end = Some end.Done } in
    subst (λ what. Tells (λ x y. (schemas : WorldSchemas EditFault) (client : model.Joiner) → Stands schemas client c.args.joiner.now
    → Comes schemas (Does schemas c.args.at client what) (Ok reply) (Some c.args.joiner.now) x y) told told) (sym c.in-End.is)
    (at_end c.args.at c.args.joiner.now c.args.joiner.now c.in_ok-lines-in-End.lines.items reply told c.in_ok-lines-in-End.ensures (c.in_ok-text-in-End.ensures ∙ ap lines_text c.deref.ensures.value) refl)
