use Rattle.room_run.proofs.CrossingLemmas.{crosses}
use Rattle.bench_parts.proofs.sharing.Work.TheSendSync as work
use Rattle.bench_parts.proofs.sharing.wait.Goals as goal

pub map_indices-requires-sync-F : goal.map_indices-requires-sync-F
map_indices-requires-sync-F g c κs within = search (work.the_sync, crosses) depth 40
