-- What the lines that are left come to, beside what the whole does.
use Rattle.std.proofs.Common.{◌≡◌, ℕ, ◌+◌, nat_lt, List, [], ◌∷◌, length, drop, Bool, false, Option, Some, None, refl, sym, ap, subst, ◌∙◌}
use Rattle.std.specs.Global.{Vec}
use Rattle.std.specs.Prelude.{⊤}
use Rattle.recording_lines.specs.Lines.{lines_left}
use Rattle.rec_format.specs.declared.printed.PrintedLine.{PrintedLine}
use Rattle.replay_job.specs.Endings.{rest_of}
use Rattle.replay_job.specs.Proceeding.{IsNext, Proceeds}
use Rattle.replay_job.specs.Replay.{Rest}
use Rattle.replay_job.specs.Replies.{Reads}
use Rattle.replay_job.specs.Replies as reply
use Rattle.replay_job.specs.Taking.{Progress, Taken, refused, passed, ended, Takes}
use Rattle.replay_job.specs.Texts.{unended_text}
use Rattle.replay_job.specs.declared.replay.Reply.TheVariants.{Refused, Wrote, Ended}
use Rattle.world_views.specs.declared.viewed.ViewedWorld.{ViewedWorld}
use Rattle.snapshot_jobs.specs.Saving.{Outcome, refused_at, ends_in, Comes, RestComes}
use Rattle.snapshot_jobs.specs.Ending.{Tells, Ends}
use Rattle.snapshot_jobs.specs.declared.save.Last.TheVariants as last

-- how far the code is: what the lines that are left come to, that does the whole
pub record SoFar (start : Rest) (world : Option ViewedWorld) (longest at budget : ℕ) (come : List ℕ) : Type 0 where
  pub progress : Progress
  pub reads : Reads progress world
  pub whole : start.whole ≡ nat_lt (length come) budget
  pub comes : (o : Outcome) → Comes (unended_text start.whole) progress at (lines_left longest budget come) o → RestComes start o

-- the same, where it is told what was to come and is to come now
abbrev pub Coming : Option Rest → Option ViewedWorld → ℕ → ℕ → ℕ → Option (List ℕ) → Type 0
Coming None world longest at budget come = ⊤
Coming (Some start) world longest at budget None = ⊥
Coming (Some start) world longest at budget (Some come) = SoFar start world longest at budget come

-- at first
pub comes_first : (progress : Progress) (world : Option ViewedWorld) (longest at budget : ℕ) (come : Option (List ℕ)) → Reads progress world
    → Coming (rest_of progress at longest budget come) world longest at budget come
comes_first progress world longest at budget None reads = tt
comes_first progress world longest at budget (Some come) reads = record { progress = progress; reads = reads; whole = refl; comes = λ o comes. comes }

module _ (longest at before after : ℕ) where
  on_with : (start : Rest) (progress : Progress) (world next : Option ViewedWorld) (come new : List ℕ) (lines : List (List ℕ)) (told : Vec PrintedLine)
      → IsNext false progress lines (nat_lt (length come) before) (Wrote told) next
      → ((o : Outcome) → Comes (unended_text start.whole) progress at lines o → RestComes start o) → start.whole ≡ nat_lt (length new) after → drop 1 lines ≡ lines_left longest after new
      → SoFar start next longest (at + 1) after new
  on_with start progress world next come new [] told is comes whole rest = absurd is
  on_with start progress world next come new (line ∷ lines) told is comes whole rest = with_taken is.0 is.1 is.2
    where
      with_taken : (taken : Taken) → Takes false progress line taken → reply.Tells progress taken (Wrote told) next → SoFar start next longest (at + 1) after new
      with_taken (passed out further) takes tells = record {
        progress = further;
        reads = tells.1;
        whole = whole;
        comes = λ o later. comes o (passed out further, takes, subst (λ l. Comes (unended_text start.whole) further (at + 1) l o) (sym rest) later);
      }
      with_taken (refused text) takes tells = absurd tells
      with_taken (ended out further) takes tells = absurd tells

  -- a line that prints lines was taken
  pub comes_on : (start : Option Rest) (world next : Option ViewedWorld) (come new : Option (List ℕ)) (told : Vec PrintedLine) → Coming start world longest at before come
      → ((progress : Progress) → Reads progress world → Proceeds false progress longest before come after new (Wrote told) next) → Coming start next longest (at + 1) after new
  comes_on None world next come new told coming proceeds = tt
  comes_on (Some start) world next None new told coming proceeds = absurd coming
  comes_on (Some start) world next (Some come) None told coming proceeds = absurd (proceeds coming.progress coming.reads).1
  comes_on (Some start) world next (Some come) (Some new) told coming proceeds =
      let h = proceeds coming.progress coming.reads in
      on_with start coming.progress world next come new (lines_left longest before come) told h.0 coming.comes (coming.whole ∙ h.1.1) h.1.0

  refused_with : (start : Rest) (progress : Progress) (next : Option ViewedWorld) (whole : Bool) (lines : List (List ℕ)) (text : List ℕ)
      → IsNext false progress lines whole (Refused text) next → start.whole ≡ whole
      → ((o : Outcome) → Comes (unended_text start.whole) progress at lines o → RestComes start o) → RestComes start (refused_at at text)
  refused_with start progress next whole [] text is same comes = comes (refused_at at text) (ap (refused_at at) (is.0 ∙ ap unended_text (sym same)))
  refused_with start progress next whole (line ∷ lines) text is same comes = with_taken is.0 is.1 is.2
    where
      with_taken : (taken : Taken) → Takes false progress line taken → reply.Tells progress taken (Refused text) next → RestComes start (refused_at at text)
      with_taken (refused told) takes tells = comes (refused_at at text) (refused told, takes, ap (refused_at at) tells.0)
      with_taken (passed out further) takes tells = absurd tells
      with_taken (ended out further) takes tells = absurd tells

  -- the next line is refused, or there is none
  pub comes_refused : (start : Option Rest) (world next : Option ViewedWorld) (come new : Option (List ℕ)) (text : List ℕ) → Coming start world longest at before come
      → ((progress : Progress) → Reads progress world → Proceeds false progress longest before come after new (Refused text) next) → Ends start (last.Refused at text) next
  comes_refused None world next come new text coming proceeds = tt
  comes_refused (Some start) world next None new text coming proceeds = absurd coming
  comes_refused (Some start) world next (Some come) new text coming proceeds =
      let h = proceeds coming.progress coming.reads in
      (refused_at at text, refused_with start coming.progress next (nat_lt (length come) before) (lines_left longest before come) text h.0 coming.whole coming.comes, (refl, refl))

  ends_with : (start : Rest) (progress : Progress) (next : Option ViewedWorld) (whole : Bool) (lines : List (List ℕ)) (told : Vec PrintedLine)
      → IsNext false progress lines whole (Ended told) next
      → ((o : Outcome) → Comes (unended_text start.whole) progress at lines o → RestComes start o) → (o : Outcome) × RestComes start o × Tells o last.Ended next
  ends_with start progress next whole [] told is comes = absurd is
  ends_with start progress next whole (line ∷ lines) told is comes = with_taken is.0 is.1 is.2
    where
      with_taken : (taken : Taken) → Takes false progress line taken → reply.Tells progress taken (Ended told) next → (o : Outcome) × RestComes start o × Tells o last.Ended next
      with_taken (ended out further) takes tells = (ends_in further, comes (ends_in further) (ended out further, takes, refl), tells.1)
      with_taken (refused text) takes tells = absurd tells
      with_taken (passed out further) takes tells = absurd tells

  -- the recording ends
  pub comes_to_end : (start : Option Rest) (world next : Option ViewedWorld) (come new : Option (List ℕ)) (told : Vec PrintedLine) → Coming start world longest at before come
      → ((progress : Progress) → Reads progress world → Proceeds false progress longest before come after new (Ended told) next) → Ends start last.Ended next
  comes_to_end None world next come new told coming proceeds = tt
  comes_to_end (Some start) world next None new told coming proceeds = absurd coming
  comes_to_end (Some start) world next (Some come) new told coming proceeds =
      let h = proceeds coming.progress coming.reads in
      ends_with start coming.progress next (nat_lt (length come) before) (lines_left longest before come) told h.0 coming.comes
