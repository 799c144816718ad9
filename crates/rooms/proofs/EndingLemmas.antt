-- What the status of a job says, and for which job words ask.
use Rattle.std.proofs.Common.{◌≡◌, ◌≤◌, ℕ, List, [], ◌∷◌, length, map, Bool, false, Option, None, Some, refl, ap, subst, inl, inr, arith}
use Rattle.std.proofs.Math.Dec.{eqb}
use Rattle.std.proofs.lemmas.Bool.{eq-eqb}
use Rattle.join_job.specs.Working.{IsJoinStatus}
use Rattle.join_job.specs.declared.ending.JoinEnd.TheVariants as join
use Rattle.replay_job.specs.Endings.{IsReplayStatus}
use Rattle.make_job.specs.Outcomes.{IsMakeStatus, Makes, MakesFront}
use Rattle.rooms.specs.Jobs.{job_named}
use Rattle.rooms.specs.Runs.{IsStatus}
use Rattle.rooms.specs.declared.job.Job.{Job}
use Rattle.rooms.specs.declared.job.Job.TheVariants.{Replay, Save, Restore, Make, Serve, Join}

-- a replay's status is one of the program
pub replay_status : (s : ℕ) → IsReplayStatus s → IsStatus s
replay_status s is = inr (inr (inr (inr is)))

-- a client's status is one of the program, and not that of words that ask for nothing
pub join_status : (s : ℕ) → IsJoinStatus s → IsStatus s
join_status s (inl is) = inr (inl is)
join_status s (inr (join.Done, is)) = replay_status s (inl is)
join_status s (inr (join.Refused, is)) = replay_status s (inr (inl is))
join_status s (inr (join.Read, is)) = replay_status s (inr (inr (inl is)))
join_status s (inr (join.Write, is)) = replay_status s (inr (inr (inr (inl is))))
join_status s (inr (join.Memory, is)) = replay_status s (inr (inr (inr (inr is))))
join_status s (inr (join.Link, is)) = inr (inr (inl is))
join_status s (inr (join.Server, is)) = inr (inr (inr (inl is)))

pub join_is_asked : (s : ℕ) → IsJoinStatus s → s ≡ 2 → ⊥
join_is_asked s (inl is) two = absurd (omega (arith, is, two))
join_is_asked s (inr (join.Done, is)) two = absurd (omega (arith, is, two))
join_is_asked s (inr (join.Refused, is)) two = absurd (omega (arith, is, two))
join_is_asked s (inr (join.Read, is)) two = absurd (omega (arith, is, two))
join_is_asked s (inr (join.Write, is)) two = absurd (omega (arith, is, two))
join_is_asked s (inr (join.Memory, is)) two = absurd (omega (arith, is, two))
join_is_asked s (inr (join.Link, is)) two = absurd (omega (arith, is, two))
join_is_asked s (inr (join.Server, is)) two = absurd (omega (arith, is, two))

-- a replay's status isn't that of words that ask for nothing
pub replay_is_asked : (s : ℕ) → IsReplayStatus s → s ≡ 2 → ⊥
replay_is_asked s (inl is) two = absurd (omega (arith, is, two))
replay_is_asked s (inr (inl is)) two = absurd (omega (arith, is, two))
replay_is_asked s (inr (inr (inl is))) two = absurd (omega (arith, is, two))
replay_is_asked s (inr (inr (inr (inl is)))) two = absurd (omega (arith, is, two))
replay_is_asked s (inr (inr (inr (inr is)))) two = absurd (omega (arith, is, two))

-- the statuses of a made recording are those of the program, and neither 2, 3 nor 4
pub make_status : (s : ℕ) → IsMakeStatus s → IsStatus s
make_status s (inl is) = replay_status s (inl is)
make_status s (inr (inl is)) = replay_status s (inr (inr (inr (inl is))))
make_status s (inr (inr is)) = replay_status s (inr (inr (inr (inr is))))

pub make_is_asked : (s : ℕ) → IsMakeStatus s → s ≡ 2 → ⊥
make_is_asked s (inl is) two = absurd (omega (arith, is, two))
make_is_asked s (inr (inl is)) two = absurd (omega (arith, is, two))
make_is_asked s (inr (inr is)) two = absurd (omega (arith, is, two))

pub make_reads_nothing : (s : ℕ) → IsMakeStatus s → s ≡ 4 → ⊥
make_reads_nothing s (inl is) four = absurd (omega (arith, is, four))
make_reads_nothing s (inr (inl is)) four = absurd (omega (arith, is, four))
make_reads_nothing s (inr (inr is)) four = absurd (omega (arith, is, four))

-- what words ask for they ask for alone
pub same_trace : (a b : Bool) → Some (Replay a) ≡ Some (Replay b) → a ≡ b
same_trace a b is = cc

same_make : (a b m n : ℕ) (p q : Bool) → Some (Make a m p) ≡ Some (Make b n q) → (a ≡ b) × (m ≡ n) × (p ≡ q)
same_make a b m n p q is = (cc, cc, cc)

pub made_as : (a b m n : ℕ) (p q : Bool) (old new : Option (List ℕ)) → Some (Make a m p) ≡ Some (Make b n q) → Makes a m p old new → Makes b n q old new
made_as a b m n p q old new is made =
    let same = same_make a b m n p q is in
    subst (λ x. Makes x n q old new) same.0 (subst (λ x. Makes a x q old new) same.1 (subst (λ x. Makes a m x old new) same.2 made))

pub unmade_as : (a b m n : ℕ) (p q : Bool) (old new : Option (List ℕ)) → Some (Make a m p) ≡ Some (Make b n q) → MakesFront a m p old new → MakesFront b n q old new
unmade_as a b m n p q old new is made =
    let same = same_make a b m n p q is in
    subst (λ x. MakesFront x n q old new) same.0 (subst (λ x. MakesFront a x q old new) same.1 (subst (λ x. MakesFront a m x old new) same.2 made))

-- the rows of the usage, by numbers
abbrev pub row : Job → ℕ
row (Replay trace) = 0
row Save = 1
row Restore = 2
row (Make seed size print) = 3
row (Serve port workers rooms links) = 4
row (Join port room) = 5

-- what was found for words is the job that they ask for, and they ask for none of another row
pub asks : {o r : Option Job} {j a : Job} → r ≡ o → r ≡ Some j → j ≡ a → o ≡ Some a
asks named found is = cc

pub asks_other : {o r : Option Job} {j a b : Job} → r ≡ o → r ≡ Some j → j ≡ a → o ≡ Some b → eqb (row a) (row b) ≡ false → ⊥
asks_other {o} {r} {j} {a} {b} named found is other differ =
    let same : a ≡ b = cc in
    let rows = eq-eqb (row a) (row b) (ap row same) in
    absurd (cc)

-- how many rooms a server has
pub same_rooms : (port workers rooms links p w r l : ℕ) → Some (Serve port workers rooms links) ≡ Some (Serve p w r l) → rooms ≡ r
same_rooms port workers rooms links p w r l is = cc

-- which room a client joins
pub same_room : (port room p r : ℕ) → Some (Join port room) ≡ Some (Join p r) → room ≡ r
same_room port room p r is = cc

-- six words or more ask for nothing
pub too_many : {A : Type 0} (f : A → List ℕ) (words : List A) → 6 ≤ length words → job_named (map f words) ≡ None
too_many f [] many = absurd (omega (arith, many))
too_many f (a ∷ []) many = absurd (omega (arith, many))
too_many f (a ∷ b ∷ []) many = absurd (omega (arith, many))
too_many f (a ∷ b ∷ d ∷ []) many = absurd (omega (arith, many))
too_many f (a ∷ b ∷ d ∷ e ∷ []) many = absurd (omega (arith, many))
too_many f (a ∷ b ∷ d ∷ e ∷ g ∷ []) many = absurd (omega (arith, many))
too_many f (a ∷ b ∷ d ∷ e ∷ g ∷ h ∷ rest) many = refl
