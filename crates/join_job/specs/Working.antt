-- A script that is played over the next link of a worker.
use Rattle.std.specs.Prelude.{◌≡◌, ◌≢◌, ◌<◌, ℕ, List, [], ◌∷◌, ◌++◌, ◌⊎◌, Option, Some, None}
use Rattle.peer_schemas.specs.Clients.{AreOfTables}
use Rattle.room_link.specs.Exchange.{Exchange, Tells}
use Rattle.room_link.specs.Held.{Extends}
use Rattle.room_link.specs.Worker.{Worker}
use Rattle.room_model.specs.Schemas.{WorldSchemas}
use Rattle.side_effects.specs.declared.fault.EditFault.{EditFault}
use Rattle.join_job.specs.Endings.{ended_by}
use Rattle.join_job.specs.Playing.{PlaysIn}
use Rattle.join_job.specs.declared.ending.JoinEnd.{JoinEnd}
use Rattle.join_job.specs.declared.ending.JoinEnd.TheVariants as join

-- the status with which a job ends whose script ended so
abbrev pub end_status : JoinEnd → ℕ
end_status join.Done = 0
end_status join.Refused = 3
end_status join.Read = 4
end_status join.Write = 5
end_status join.Memory = 6
end_status join.Link = 8
end_status join.Server = 9

-- the status of the job, by how its script ended, or where its worker failed
abbrev pub job_status : Option JoinEnd → ℕ
job_status (Some by) = end_status by
job_status None = 7

-- the statuses of the job: its worker failed, or a script ended
abbrev pub IsJoinStatus : ℕ → Type 0
IsJoinStatus status = (status ≡ 7) ⊎ ((by : JoinEnd) × (status ≡ end_status by))

-- a link that has ended, on which nothing went out
abbrev pub ended_link : Exchange
ended_link = record { left = []; sent = [] }

module _ (schemas : WorldSchemas EditFault) (room : ℕ) (script held holds : Option (List ℕ)) (by : JoinEnd) where
  -- a script was played over a link that has ended; no link failed then
  abbrev pub PlaysOverNone : Type 0
  PlaysOverNone = (now : Exchange) × PlaysIn schemas room script (ended_by by) held holds (Some ended_link) (Some now) × (by ≢ join.Link)

  module _ {K : Type 0} (link_faults : K → ℕ) (link_told : K → Option Exchange) where
    -- a script was played over a link, which then was so; the link cut it off only where it had a fault
    abbrev pub PlaysOverLink : K → K → Type 0
    PlaysOverLink link now = PlaysIn schemas room script (ended_by by) held holds (link_told link) (link_told now) × (by ≡ join.Link → link_faults link < link_faults now)

    -- a worker handed out its next link, on which the script was played, and got it back; or it had none left, and the script was played
    -- over a link that has ended; or memory was refused before, and nothing was written
    abbrev pub PlaysOverNext : Worker K → Worker K → Type 0
    PlaysOverNext old new =
        ((link now : K) × (old.left ≡ link ∷ new.left) × (new.returned ≡ old.returned ++ now ∷ []) × PlaysOverLink link now)
        ⊎ ((old.left ≡ []) × (new ≡ old) × PlaysOverNone)
        ⊎ ((by ≡ join.Memory) × (new ≡ old) × Extends held holds [])

    -- the first of some workers did so, where it tells its links, and the others are as they were; where there is none, the script was
    -- played over a link that has ended
    abbrev pub PlaysOverFirst : {A : Type 0} → (A → Option (Worker K)) → List A → List A → Type 0
    PlaysOverFirst told [] after = (after ≡ []) × PlaysOverNone
    PlaysOverFirst told (first ∷ others) [] = ⊥
    PlaysOverFirst told (first ∷ others) (now ∷ rest) = (rest ≡ others) × Tells PlaysOverNext (told first) (told now)

-- a script was played over the first of some workers, and ended as the status says, whatever version of the tables the room has
abbrev pub PlaysOverWorkers : {K A : Type 0} → (K → ℕ) → (K → Option Exchange) → (A → Option (Worker K)) → ℕ → Option (List ℕ) → Option (List ℕ) → Option (List ℕ) → ℕ → List A → List A → Type 0
PlaysOverWorkers link_faults link_told worker_told room script held holds status before after =
    (schemas : WorldSchemas EditFault) → AreOfTables schemas
    → (by : JoinEnd) × (status ≡ end_status by) × PlaysOverFirst schemas room script held holds by link_faults link_told worker_told before after

-- the first of some workers had a fault; it handed out no link, where it tells its links, and the others are as they were
abbrev pub FirstFails : {K A : Type 0} → (A → ℕ) → (A → Option (Worker K)) → List A → List A → Type 0
FirstFails faults told (first ∷ others) (now ∷ rest) = (faults first < faults now) × (rest ≡ others) × Tells (λ old new. new ≡ old) (told first) (told now)
FirstFails faults told before after = ⊥
