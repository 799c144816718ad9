-- What the answers of a reader of lines say of what comes next.
use Rattle.std.proofs.Common.{◌≡◌, ℕ, ◌≤◌, arith, nat_lt, List, [], ◌∷◌, length, drop, Bool, Option, None, Some, IfSome, sym, ap, subst, ◌∙◌}
use Rattle.std.specs.Prelude.{codes}
use Rattle.recording_lines.specs.Lines.{lines_left}
use Rattle.recording_lines.specs.Reading.{LosesLine, BeginsTooLong}
use Rattle.rec_format.specs.declared.read.TheConstants.{LONGEST_LINE}
use Rattle.replay_job.specs.Proceeding.{IsNext, IsStillToCome, Proceeds}
use Rattle.replay_job.specs.Replies.{Reads, Becomes}
use Rattle.replay_job.specs.Taking.{Progress}
use Rattle.replay_job.specs.Texts.{unended_text}
use Rattle.replay_job.specs.declared.replay.Reply.{Reply}
use Rattle.replay_job.specs.declared.replay.Reply.TheVariants.{Refused, Wrote, Ended}
use Rattle.replay_job.proofs.TakingLemmas.{becomes_too_long}
use Rattle.world_views.specs.declared.viewed.ViewedWorld.{ViewedWorld}

-- a line was given, and taken
pub proceeds_line : (trace : Bool) (progress : Progress) (longest before after : ℕ) (old new : Option (List ℕ)) (line : List ℕ) (reply : Reply) (world : Option ViewedWorld)
    → LosesLine longest before old after new line → Becomes trace progress line reply world → Proceeds trace progress longest before old after new reply world
proceeds_line trace progress longest before after None new line reply world loses becomes = tt
proceeds_line trace progress longest before after (Some old) None line reply world loses becomes = absurd loses
proceeds_line trace progress longest before after (Some old) (Some new) line reply world loses becomes = (
  subst (λ lines. IsNext trace progress lines (nat_lt (length old) before) reply world) (sym loses.0) becomes,
  still_to_come reply,
)
  where
    still_to_come : (reply : Reply) → IsStillToCome reply longest before old after (Some new)
    still_to_come (Wrote lines) = (ap (drop 1) loses.0, loses.1)
    still_to_come (Refused text) = tt
    still_to_come (Ended lines) = tt

next_is_too_long : (trace : Bool) (progress : Progress) (longest : ℕ) (lines : List (List ℕ)) (whole : Bool) (text : List ℕ) (world : Option ViewedWorld)
    → LONGEST_LINE ≤ longest → BeginsTooLong longest lines → text ≡ codes "LineTooLong" → Reads progress world → IsNext trace progress lines whole (Refused text) world
next_is_too_long trace progress longest [] whole text world most long is reads = absurd long
next_is_too_long trace progress longest (line ∷ lines) whole text world most long is reads = becomes_too_long trace progress line text world (omega (arith, most, long)) is reads

-- the next line is too long
pub proceeds_too_long : (trace : Bool) (progress : Progress) (longest before after : ℕ) (old new : Option (List ℕ)) (text : List ℕ) (world : Option ViewedWorld)
    → LONGEST_LINE ≤ longest → IfSome old (λ bytes. BeginsTooLong longest (lines_left longest before bytes)) → text ≡ codes "LineTooLong" → Reads progress world
    → Proceeds trace progress longest before old after new (Refused text) world
proceeds_too_long trace progress longest before after None new text world most long is reads = tt
proceeds_too_long trace progress longest before after (Some old) new text world most long is reads =
    (next_is_too_long trace progress longest (lines_left longest before old) (nat_lt (length old) before) text world most long is reads, tt)

-- no line is left
pub proceeds_to_end : (trace : Bool) (progress : Progress) (longest before after : ℕ) (old new : Option (List ℕ)) (whole : Bool) (text : List ℕ) (world : Option ViewedWorld)
    → IfSome old (λ bytes. (lines_left longest before bytes ≡ []) × (whole ≡ nat_lt (length bytes) before)) → text ≡ unended_text whole → Reads progress world
    → Proceeds trace progress longest before old after new (Refused text) world
proceeds_to_end trace progress longest before after None new whole text world none is reads = tt
proceeds_to_end trace progress longest before after (Some old) new whole text world none is reads = (
  subst (λ lines. IsNext trace progress lines (nat_lt (length old) before) (Refused text) world) (sym none.0) (is ∙ ap unended_text none.1, reads),
  tt,
)
