use Rattle.room_run.proofs.CrossingLemmas.{crosses}
use Rattle.test_with_room_runs.proofs.talks.all_talk.Goals as goal

pub map_indices-requires-send-X : goal.map_indices-requires-send-X
map_indices-requires-send-X g c κs within = search crosses depth 20

pub map_indices-requires-sync-F : goal.map_indices-requires-sync-F
map_indices-requires-sync-F g c κs within = search crosses depth 20
