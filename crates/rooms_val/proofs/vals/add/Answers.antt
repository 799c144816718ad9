use Rattle.rooms_val.proofs.DataLemmas.{sound_push, items_view-push}
use Rattle.rooms_val.proofs.vals.add.Goals as goal

pub returns-clause-sound : goal.returns-clause-sound
returns-clause-sound c = rw (c.in_ok-push.ensures.items, items_view-push) (sound_push _ _ c.requires.0 c.requires.1)
