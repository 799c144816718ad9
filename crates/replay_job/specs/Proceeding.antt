-- What a reader of a recording finds next, and what is still to come then.
use Rattle.std.specs.Prelude.{◌≡◌, ℕ, nat_lt, List, [], ◌∷◌, length, Bool, ⊤, Option, Some, None, drop}
use Rattle.recording_lines.specs.Lines.{lines_left}
use Rattle.replay_job.specs.Replies.{Reads, Becomes}
use Rattle.replay_job.specs.Taking.{Progress}
use Rattle.replay_job.specs.Texts.{unended_text}
use Rattle.replay_job.specs.declared.replay.Reply.{Reply}
use Rattle.replay_job.specs.declared.replay.Reply.TheVariants.{Refused, Wrote, Ended}
use Rattle.world_views.specs.declared.viewed.ViewedWorld.{ViewedWorld}

-- the reply tells what becomes of the first line; where there is none, why the recording without an `end` line is refused
abbrev pub IsNext : Bool → Progress → List (List ℕ) → Bool → Reply → Option ViewedWorld → Type 0
IsNext trace progress [] whole (Refused text) world = (text ≡ unended_text whole) × Reads progress world
IsNext trace progress [] whole (Wrote lines) world = ⊥
IsNext trace progress [] whole (Ended lines) world = ⊥
IsNext trace progress (line ∷ lines) whole reply world = Becomes trace progress line reply world

-- where the recording goes on, the further lines are still to come, and that is whole exactly where it was
abbrev pub IsStillToCome : Reply → ℕ → ℕ → List ℕ → ℕ → Option (List ℕ) → Type 0
IsStillToCome (Wrote lines) longest before old after None = ⊥
IsStillToCome (Wrote lines) longest before old after (Some new) =
    (drop 1 (lines_left longest before old) ≡ lines_left longest after new) × (nat_lt (length old) before ≡ nat_lt (length new) after)
IsStillToCome (Refused text) longest before old after new = ⊤
IsStillToCome (Ended lines) longest before old after new = ⊤

-- both, where the source tells what is to come, in lines of so many bytes at most; of each it is said first how many bytes of it may be
-- looked at
abbrev pub Proceeds : Bool → Progress → ℕ → ℕ → Option (List ℕ) → ℕ → Option (List ℕ) → Reply → Option ViewedWorld → Type 0
Proceeds trace progress longest before None after new reply world = ⊤
Proceeds trace progress longest before (Some old) after new reply world =
    IsNext trace progress (lines_left longest before old) (nat_lt (length old) before) reply world × IsStillToCome reply longest before old after new

-- where the recording goes on, fewer bytes may be looked at
abbrev pub IfGoesOn : Reply → Type 0 → Type 0
IfGoesOn (Wrote lines) P = P
IfGoesOn (Refused text) P = ⊤
IfGoesOn (Ended lines) P = ⊤
