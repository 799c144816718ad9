-- Workers at work.
use Rattle.std.specs.Prelude.{ℕ, List, Option, Result, IfOk}
use Rattle.room_link.specs.Exchange.{Exchange}
use Rattle.room_link.specs.Worker.{Worker}
use Rattle.room_run.specs.declared.running.RunningRoom.{RunningRoom}
use Rattle.room_serve.specs.Reports.{ServesIn, IsReport}
use Rattle.room_serve.specs.Tallies.{shift_of, IsShift}
use Rattle.room_serve.specs.declared.tally.Tally.{Tally}
use Rattle.room_serve.specs.declared.workers.Station.{Station}
use Rattle.rooms_val.specs.declared.memory.OutOfMemory.{OutOfMemory}

-- the worker at a station, and what its links came to
abbrev pub worker_of : {A : Type 0} → Station A → A
worker_of station = station.worker

abbrev pub tally_of : {A : Type 0} → Station A → Result Tally OutOfMemory
tally_of station = station.tally

-- the worker at a station has served its links, unless memory was refused
module _ {K A : Type 0} (link_faults : K → ℕ) (link_told : K → Option Exchange)
    (worker_faults : A → ℕ) (worker_told : A → Option (Worker K)) (rooms : List RunningRoom) where
  abbrev pub IsWorked : Station A → Station A → Type 0
  IsWorked before after = IfOk after.tally (λ tally. IsShift link_faults link_told (ServesIn rooms) (IsReport rooms) worker_faults worker_told
      (shift_of before.worker after.worker tally))
