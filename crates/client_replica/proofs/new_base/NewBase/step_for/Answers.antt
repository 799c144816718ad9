use Rattle.rooms_val.proofs.Truths.{on_ok_with}
use Rattle.client_replica.proofs.new_base.NewBase.step_for.Goals as goal

pub returns-clause-document : goal.returns-clause-document
returns-clause-document g c = on_ok_with c.touch.result (λ kept base lies. kept _ (c.in_ok-step.ensures.document base lies)) c.touch.ensures.document
