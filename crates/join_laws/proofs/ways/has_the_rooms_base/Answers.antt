use Rattle.join_laws.proofs.WayLemmas.{base_is, document_is, presence_is, shown_is, reached_within}
use Rattle.join_laws.proofs.ways.has_the_rooms_base.Goals as goal

pub returns-clause-base : goal.returns-clause-base
returns-clause-base c schemas version room steps last events number plan lawful legal planned serves = base_is schemas version lawful last events number legal room steps serves plan planned

pub returns-clause-document : goal.returns-clause-document
returns-clause-document c schemas version room steps last events number plan lawful legal planned serves = document_is schemas version lawful last events number legal room steps serves plan planned

pub returns-clause-presence : goal.returns-clause-presence
returns-clause-presence c schemas version room steps last events number plan lawful legal planned serves = presence_is schemas version lawful last events number legal room steps serves plan planned

pub returns-clause-shows : goal.returns-clause-shows
returns-clause-shows c schemas version room steps last events number plan lawful legal planned serves = shown_is schemas version lawful last events number legal room steps serves plan planned

pub returns-clause-clock : goal.returns-clause-clock
returns-clause-clock c schemas version room steps last events number lawful legal serves = reached_within schemas version lawful last events number legal room steps serves
