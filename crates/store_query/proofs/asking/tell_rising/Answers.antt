use Rattle.store_query.proofs.AskingLemmas.{rising_sound}
use Rattle.store_query.proofs.asking.tell_rising.Goals as goal

pub returns : goal.returns
returns g c = rising_sound (g.D.DocStore.records c.args.store.now) c.get.ensures.sound
