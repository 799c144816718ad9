use Rattle.room_run.proofs.CrossingLemmas.{crosses}
use Rattle.room_serve.proofs.workers.work_all.Goals as goal

pub for_each_mut-requires-sync-F : goal.for_each_mut-requires-sync-F
for_each_mut-requires-sync-F g c κs within = search crosses depth 20
