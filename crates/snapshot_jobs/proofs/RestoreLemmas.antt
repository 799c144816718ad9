-- What is left in the sink of a recording that goes on from a saved room, by how it begins.
use Rattle.std.proofs.Common.{◌≡◌, ◌⊎◌, inl, inr, ℕ, List, [], Bool, false, Option, Some, None, Result, Ok, Err, refl, sym, ap, subst, ◌∙◌, take}
use Rattle.std.specs.Prelude.{⊤}
use Rattle.recording_lines.specs.Lines.{most_bytes}
use Rattle.room_link.specs.Held.{Extends}
use Rattle.room_link.proofs.HeldLemmas.{Extends-nil}
use Rattle.replay_job.specs.Endings.{rest_of, Leaves, status_code}
use Rattle.replay_job.specs.Replay.{Written, Rest}
use Rattle.replay_job.specs.Replies.{Reads}
use Rattle.replay_job.specs.Taking.{Progress}
use Rattle.replay_job.specs.Texts.{fault_line}
use Rattle.replay_job.specs.declared.play.End.{End}
use Rattle.replay_job.specs.declared.play.End.TheVariants as end
use Rattle.replay_job.specs.declared.play.Stop.{Stop}
use Rattle.replay_job.proofs.WritingLemmas.{first_bytes}
use Rattle.room_snapshot.specs.declared.snapshot.TheConstants as snapshot
use Rattle.world_views.specs.declared.viewed.ViewedWorld.{ViewedWorld}
use Rattle.snapshot_jobs.specs.Beginning.{Tells, BeginsSaved}
use Rattle.snapshot_jobs.specs.Endings.{RestoresAll, RestoresAllFront}
use Rattle.snapshot_jobs.specs.Restored.{LeavesRestored}
use Rattle.snapshot_jobs.specs.Restoring.{Beginning, refused_at, begins, Begins}
use Rattle.snapshot_jobs.specs.declared.restore.Begun.TheVariants.{Refused, Going}

-- nothing was written
pub restores_nothing : (left held : Option (List ℕ)) → RestoresAllFront left held held
restores_nothing None held = tt
restores_nothing (Some recording) held = ([], inl refl, Extends-nil held)

module _ (after : ℕ) (come : Option (List ℕ)) where
  refused_all : (recording : List ℕ) (at : ℕ) (fault : List ℕ) (old new : Option (List ℕ)) (b : Beginning) → Begins recording b → Tells snapshot.LONGEST_LINE after come b (Refused at fault)
      → Extends old new (fault_line at fault) → RestoresAll (Some recording) (status_code (Ok end.Refused)) old new
  refused_all recording at fault old new (begins rest) is tells written = absurd tells
  refused_all recording at fault old new (refused_at number text) is tells written =
      let w : Written = record { text = fault_line number text; is_ended = false; reached = None } in
      (w, (refused_at number text, is, refl), refl, subst (Extends old new) (ap (λ n. fault_line n fault) tells.0 ∙ ap (fault_line number) tells.1) written)

  -- the fault line was written
  pub restores_refused : (left : Option (List ℕ)) (at : ℕ) (fault : List ℕ) (old new : Option (List ℕ)) → BeginsSaved snapshot.LONGEST_LINE most_bytes left after come (Refused at fault)
      → Extends old new (fault_line at fault) → RestoresAll left (status_code (Ok end.Refused)) old new
  restores_refused None at fault old new is written = tt
  restores_refused (Some recording) at fault old new is written = refused_all recording at fault old new is.0 is.1 is.2 written

  refused_front : (recording : List ℕ) (n at : ℕ) (fault : List ℕ) (old new : Option (List ℕ)) (b : Beginning) → Begins recording b → Tells snapshot.LONGEST_LINE after come b (Refused at fault)
      → Extends old new (take n (fault_line at fault)) → RestoresAllFront (Some recording) old new
  refused_front recording n at fault old new (begins rest) is tells written = absurd tells
  refused_front recording n at fault old new (refused_at number text) is tells written =
      let same : fault_line at fault ≡ fault_line number text = ap (λ m. fault_line m fault) tells.0 ∙ ap (fault_line number) tells.1 in
      (take n (fault_line number text), inr (refused_at number text, is, first_bytes n (fault_line number text)), subst (λ t. Extends old new (take n t)) same written)

  -- a front of it was
  pub restores_refused_front : (left : Option (List ℕ)) (n at : ℕ) (fault : List ℕ) (old new : Option (List ℕ)) → BeginsSaved snapshot.LONGEST_LINE most_bytes left after come (Refused at fault)
      → Extends old new (take n (fault_line at fault)) → RestoresAllFront left old new
  restores_refused_front None n at fault old new is written = tt
  restores_refused_front (Some recording) n at fault old new is written = refused_front recording n at fault old new is.0 is.1 is.2 written

  went_on : (next : Option ViewedWorld) (old new : Option (List ℕ)) (recording : List ℕ) (rest : Rest) (result : Result End Stop) → Begins recording (begins rest) → Leaves false (Some rest) result next old new
      → LeavesRestored (Some recording) result old new
  went_on next old new recording rest (Ok e) is leaves = (leaves.0, (begins rest, is, leaves.1), leaves.2, leaves.4)
  went_on next old new recording rest (Err stop) is leaves = (leaves.0, inr (begins rest, is, leaves.1), leaves.2)

  -- events went on
  pub restores_on : (left : Option (List ℕ)) (at : ℕ) (world : ViewedWorld) (next : Option ViewedWorld) (result : Result End Stop) (old new : Option (List ℕ))
      → BeginsSaved snapshot.LONGEST_LINE most_bytes left after come (Going at world)
      → ((progress : Progress) → Reads progress (Some world) → Leaves false (rest_of progress at snapshot.LONGEST_LINE after come) result next old new) → LeavesRestored left result old new
  restores_on None at world next (Ok e) old new is leaves = tt
  restores_on None at world next (Err stop) old new is leaves = tt
  restores_on (Some recording) at world next result old new is leaves = with_beginning is.0 is.1 is.2
    where
      with_beginning : (b : Beginning) → Begins recording b → Tells snapshot.LONGEST_LINE after come b (Going at world) → LeavesRestored (Some recording) result old new
      with_beginning (refused_at number text) begun tells = absurd tells
      with_beginning (begins rest) begun tells =
          went_on next old new recording rest result begun (subst (λ r. Leaves false r result next old new) tells.1 (leaves rest.progress tells.0))
