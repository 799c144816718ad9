use Rattle.room_run.proofs.CrossingLemmas.{crosses}
use Rattle.room_run.proofs.crossing.may_cross_threads.Goals as goal

pub is_shared-requires-sync-T : goal.is_shared-requires-sync-T
is_shared-requires-sync-T c κs = search crosses depth 20

pub is_sent-requires-send-T : goal.is_sent-requires-send-T
is_sent-requires-send-T c κs = search crosses depth 20

pub is_sent-requires-4-send-T : goal.is_sent-requires-4-send-T
is_sent-requires-4-send-T c κs = search crosses depth 20
