use Rattle.room_join.proofs.joiner.ask.Goals as goal

pub returns-in-Ok-clause-asked : goal.returns-in-Ok-clause-asked
returns-in-Ok-clause-asked c = λ schemas state stands. c.in-Ok.ensures.answer schemas state stands

pub returns-in-Ok-clause-stands : goal.returns-in-Ok-clause-stands
returns-in-Ok-clause-stands c = λ schemas state stands. c.in-Ok.ensures.ok schemas state stands

pub returns-in-Ok-clause-store : goal.returns-in-Ok-clause-store
returns-in-Ok-clause-store c = c.connect.ensures.store
