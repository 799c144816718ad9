-- What the two jobs leave in their sink, by what was written.
use Rattle.std.proofs.Common.{◌≡◌, ◌⊎◌, inl, inr, ℕ, List, [], Option, Some, None, option_map, Ok, refl, sym, ap, ◌∙◌, take, arith}
use Rattle.std.specs.Prelude.{⊤}
use Rattle.room_link.specs.Held.{Extends}
use Rattle.room_link.proofs.HeldLemmas.{Extends-nil}
use Rattle.replay_job.specs.Endings.{status_code, IsReplayStatus}
use Rattle.replay_job.specs.Replay.{IsFront, all_of}
use Rattle.replay_job.specs.Replies.{Reads}
use Rattle.replay_job.specs.Texts.{fault_line}
use Rattle.replay_job.proofs.WritingLemmas.{first_bytes}
use Rattle.world_views.specs.declared.viewed.ViewedWorld.{ViewedWorld}
use Rattle.snapshot_jobs.specs.Saving.{Outcome, refused_at, ends_in, WritesOutcome}
use Rattle.snapshot_jobs.specs.Ending.{Tells, Ends, last_end, WritesLast}
use Rattle.snapshot_jobs.specs.Endings.{SavesAll, SavesFront}
use Rattle.snapshot_jobs.specs.declared.save.Last.{Last}
use Rattle.snapshot_jobs.specs.declared.save.Last.TheVariants.{Refused, Ended}

writes_outcome : (outcome : Outcome) (last : Last) (world : Option ViewedWorld) (text : List ℕ) → Tells outcome last world → WritesLast last world text
    → WritesOutcome outcome (status_code (Ok (last_end last))) text
writes_outcome (refused_at at told) (Refused number fault) world text tells writes = (refl, writes ∙ ap (λ n. fault_line n fault) tells.0 ∙ ap (fault_line at) tells.1)
writes_outcome (refused_at at told) Ended world text tells writes = absurd tells
writes_outcome (ends_in progress) (Refused number fault) world text tells writes = absurd tells
writes_outcome (ends_in progress) Ended None text tells writes = absurd writes
writes_outcome (ends_in None) Ended (Some code) text tells writes = absurd tells
writes_outcome (ends_in (Some (schemas, viewed))) Ended (Some code) text tells writes = (refl, writes schemas viewed tells)

module _ (last : Last) (world : Option ViewedWorld) (text : List ℕ) where
  -- all was written
  pub saves_all : (left : Option (List ℕ)) (old new : Option (List ℕ)) → Ends (option_map all_of left) last world → WritesLast last world text → Extends old new text
      → SavesAll left (status_code (Ok (last_end last))) old new
  saves_all None old new ends writes written = tt
  saves_all (Some recording) old new ends writes written = (text, (ends.0, ends.1, writes_outcome ends.0 last world text ends.2 writes), written)

  -- the first bytes were
  pub saves_front : (left : Option (List ℕ)) (n : ℕ) (old new : Option (List ℕ)) → Ends (option_map all_of left) last world → WritesLast last world text → Extends old new (take n text)
      → SavesFront left old new
  saves_front None n old new ends writes written = tt
  saves_front (Some recording) n old new ends writes written =
      (take n text, inr (status_code (Ok (last_end last)), text, (ends.0, ends.1, writes_outcome ends.0 last world text ends.2 writes), first_bytes n text), written)

-- nothing was
pub saves_nothing : (left held : Option (List ℕ)) → SavesFront left held held
saves_nothing None held = tt
saves_nothing (Some recording) held = ([], inl refl, Extends-nil held)
