use Rattle.room_run.proofs.CrossingLemmas.{crosses}
use Rattle.bench_parts.proofs.sharing.share.Goals as goal

pub map_indices-requires-sync-F : goal.map_indices-requires-sync-F
map_indices-requires-sync-F g c κs within = search crosses depth 40
