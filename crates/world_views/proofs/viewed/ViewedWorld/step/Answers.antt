use Rattle.sync_world.proofs.CaughtUpLemmas.{caught_up}
use Rattle.sync_world.proofs.EntryLemmas.{readonly, authored, unauthored}
use Rattle.world_views.proofs.ConsequenceLemmas.{goes_back, closing}
use Rattle.world_views.proofs.viewed.ViewedWorld.step.Goals as goal

pub returns-then-is_spent-clause-caught_up : goal.returns-then-is_spent-clause-caught_up
returns-then-is_spent-clause-caught_up g c = caught_up c.args.self.now.world

pub returns-in-Ok-clause-caught_up : goal.returns-in-Ok-clause-caught_up
returns-in-Ok-clause-caught_up g c = caught_up c.take.new.self.world

pub returns-in-Err-clause-caught_up : goal.returns-in-Err-clause-caught_up
returns-in-Err-clause-caught_up g c = caught_up c.spend.new.self

pub returns-then-is_spent-clause-readonly : goal.returns-then-is_spent-clause-readonly
returns-then-is_spent-clause-readonly g c = readonly c.args.self.now.world

pub returns-in-Ok-clause-readonly : goal.returns-in-Ok-clause-readonly
returns-in-Ok-clause-readonly g c = readonly c.take.new.self.world

pub returns-in-Err-clause-readonly : goal.returns-in-Err-clause-readonly
returns-in-Err-clause-readonly g c = readonly c.spend.new.self

pub returns-then-is_spent-clause-authored : goal.returns-then-is_spent-clause-authored
returns-then-is_spent-clause-authored g c = authored c.args.self.now.world

pub returns-in-Ok-clause-authored : goal.returns-in-Ok-clause-authored
returns-in-Ok-clause-authored g c = authored c.take.new.self.world

pub returns-in-Err-clause-authored : goal.returns-in-Err-clause-authored
returns-in-Err-clause-authored g c = authored c.spend.new.self

pub returns-then-is_spent-clause-unauthored : goal.returns-then-is_spent-clause-unauthored
returns-then-is_spent-clause-unauthored g c = unauthored c.args.self.now.world

pub returns-in-Ok-clause-unauthored : goal.returns-in-Ok-clause-unauthored
returns-in-Ok-clause-unauthored g c = unauthored c.take.new.self.world

pub returns-in-Err-clause-unauthored : goal.returns-in-Err-clause-unauthored
returns-in-Err-clause-unauthored g c = unauthored c.spend.new.self

pub returns-in-Ok-clause-goes_back : goal.returns-in-Ok-clause-goes_back
returns-in-Ok-clause-goes_back g c = goes_back c.args.trace c.args.event c.args.self.now c.take.new.self c.in-Ok.answer c.in-Ok.ensures.steps

pub returns-in-Ok-clause-closing : goal.returns-in-Ok-clause-closing
returns-in-Ok-clause-closing g c = closing c.args.trace c.args.event c.args.self.now c.take.new.self c.in-Ok.answer c.in-Ok.ensures.steps
