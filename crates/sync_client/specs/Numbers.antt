-- The numbers under which pending works were sent.
use Rattle.std.specs.Prelude.{ℕ, zero, suc, ◌+◌, nat_lt, List, [], ◌∷◌, if◌then◌else◌, Option, Some, None}
use Rattle.room_model.specs.Replicas.{Work, Pending, all_unsent}

-- works of which so many were sent, in turn, from a first number on; the others weren't
abbrev pub numbered : ℕ → ℕ → List Work → List Pending
numbered first zero works = all_unsent works
numbered first (suc sent) [] = []
numbered first (suc sent) (work ∷ works) = record { work = work; sent_as = Some first } ∷ numbered (suc first) sent works

-- the number of the work at a place, if it was sent
abbrev pub expected : ℕ → ℕ → ℕ → Option ℕ
expected first sent place = if nat_lt place sent then Some (first + place) else None
