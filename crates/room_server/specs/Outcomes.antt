-- What serving returns.
use Rattle.std.specs.Prelude.{◌≡◌, ◌≢◌, ◌⊎◌, ◌<◌, ◌++◌, ℕ, List, [], Bool, true, false, Option}
use Rattle.std.specs.List.{list_any}
use Rattle.room_link.specs.Exchange.{Exchange}
use Rattle.room_link.specs.Held.{Extends}
use Rattle.room_link.specs.Worker.{Worker}
use Rattle.room_serve.specs.declared.tally.Tally.{Tally}
use Rattle.room_server.specs.Hosted.{AreHosted}
use Rattle.room_server.specs.Lines.{outcome_text}
use Rattle.room_server.specs.declared.job.Served.{Served}

-- the statuses with which it ends
abbrev pub IsServeStatus : ℕ → Type 0
IsServeStatus status = (status ≡ 0) ⊎ (status ≡ 5) ⊎ (status ≡ 6) ⊎ (status ≡ 7)

-- a worker failed
abbrev pub any_failed : List Tally → Bool
any_failed tallies = list_any (λ tally. tally.failed) tallies

-- a front of a text was added to what a sink held
pub record AddsFront (text : List ℕ) (old new : Option (List ℕ)) : Type 0 where
  pub front : List ℕ
  pub rest : List ℕ
  pub text_is : text ≡ front ++ rest
  pub added : Extends old new front

-- the lines are written on 0 and 7, on 5 a front of them, and on 6 nothing; 5 comes only if the sink had a fault; on 7 a worker
-- failed, on 0 none did
pub record IsWritten (old new : Option (List ℕ)) (faults_old faults_new : ℕ) (served : Served) : Type 0 where
  pub done : (served.status ≡ 0) ⊎ (served.status ≡ 7) → Extends old new (outcome_text served.tallies.items served.closed.items)
  pub stopped : served.status ≡ 5 → AddsFront (outcome_text served.tallies.items served.closed.items) old new
  pub unwritten : served.status ≡ 6 → Extends old new []
  pub sink_failed : served.status ≡ 5 → faults_old < faults_new
  pub worker_failed : served.status ≡ 7 → any_failed served.tallies.items ≡ true
  pub none_failed : served.status ≡ 0 → any_failed served.tallies.items ≡ false

module _ {K A : Type 0} (link_faults : K → ℕ) (link_told : K → Option Exchange)
    (worker_faults : A → ℕ) (worker_told : A → Option (Worker K)) where
  -- so many rooms were served by the workers and closed, and the lines that say so are written, as the status tells. On 6 nothing is told
  pub record IsOutcome (rooms : ℕ) (before after : List A) (old new : Option (List ℕ)) (faults_old faults_new : ℕ) (served : Served) : Type 0 where
    pub known : IsServeStatus served.status
    pub hosted : served.status ≢ 6
        → AreHosted link_faults link_told worker_faults worker_told rooms before after served.tallies.items served.closed.items
    pub written : IsWritten old new faults_old faults_new served
