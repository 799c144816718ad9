use Rattle.rooms_val.proofs.DataLemmas.{rising_pairs}
use Rattle.side_effects.proofs.after.tell_store.Goals as goal

pub returns : goal.returns
returns g c = rising_pairs (g.D.DocStore.records c.args.store.now) c.get.ensures.sound
