use Rattle.room_events.proofs.LegalLemmas.{entered_so, stay, full_shows}
use Rattle.room_events.proofs.rooms.full_shows.Goals as goal

pub returns-clause-entered : goal.returns-clause-entered
returns-clause-entered c = entered_so

pub returns-clause-stay : goal.returns-clause-stay
returns-clause-stay c = stay

pub returns-clause-full : goal.returns-clause-full
returns-clause-full c = full_shows
