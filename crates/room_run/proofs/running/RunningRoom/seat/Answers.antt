use Rattle.std.proofs.Common.{rules}
use Rattle.room_run.proofs.StepLemmas.{sits}
use Rattle.room_run.proofs.running.RunningRoom.seat.Goals as goal

pub load_new_seat-requires : goal.load_new_seat-requires
load_new_seat-requires c = (search rules, sits _ _)
