-- What was written so far, beside what the lines that are left write.
use Rattle.std.proofs.Common.{◌≡◌, ℕ, ◌+◌, arith, nat_lt, List, [], ◌∷◌, ◌++◌, length, drop, Bool, true, false, Option, None, Some, option_map, Ok, refl, sym, ap, subst, ◌∙◌, append_assoc, append-nil, inl, inr}
use Rattle.std.specs.Global.{Vec}
use Rattle.std.specs.Prelude.{⊤}
use Rattle.room_link.specs.Held.{Extends}
use Rattle.room_link.proofs.HeldLemmas.{Extends-nil, Extends-trans}
use Rattle.recording_lines.specs.Lines.{lines_left, longest_line, most_bytes}
use Rattle.rec_format.specs.declared.printed.PrintedLine.{PrintedLine}
use Rattle.replay_job.specs.Taking.{Progress, Taken, refused, passed, ended, Takes}
use Rattle.replay_job.specs.Texts.{lines_text, fault_line, unended_text}
use Rattle.replay_job.specs.Replay.{all_of, Written, Writes, WritesFront, Rest, RestWrites, RestWritesFront, IsFront}
use Rattle.replay_job.specs.Replies.{Reads, Tells, reply_text, reply_end}
use Rattle.replay_job.specs.Proceeding.{IsNext, Proceeds, IfGoesOn}
use Rattle.recording_lines.specs.Reading.{TakesUnread}
use Rattle.replay_job.specs.Endings.{rest_of, WritesRestFront, Leaves, TakesFront, status_of, status_code}
use Rattle.replay_job.specs.declared.play.End.{End}
use Rattle.replay_job.specs.declared.play.End.TheVariants as end
use Rattle.replay_job.specs.declared.replay.Reply.{Reply}
use Rattle.replay_job.specs.declared.replay.Reply.TheVariants.{Refused, Wrote, Ended}
use Rattle.world_views.specs.declared.viewed.ViewedWorld.{ViewedWorld}

-- what is left to write, behind what was written so far
abbrev pub behind : List ℕ → Written → Written
behind so_far w = record { text = so_far ++ w.text; is_ended = w.is_ended; reached = w.reached }

-- some text was written so far, and with what the lines that are left write that is what the recording writes; the same of fronts
pub record Goes (trace : Bool) (start : Rest) (progress : Progress) (at : ℕ) (lines : List (List ℕ)) (so_far : List ℕ) : Type 0 where
  pub whole : (w : Written) → Writes trace (unended_text start.whole) progress at lines w → RestWrites trace start (behind so_far w)
  pub front : (f : List ℕ) → WritesFront trace (unended_text start.whole) progress at lines f → RestWritesFront trace start (so_far ++ f)

-- nothing was written at first
pub goes_nowhere : (trace : Bool) (start : Rest) → Goes trace start start.progress start.at start.lines []
goes_nowhere trace start = record { whole = λ w writes. writes; front = λ f writes. writes }

-- a line that prints lines was taken
pub goes_on : (trace : Bool) (start : Rest) (progress next : Progress) (at : ℕ) (line : List ℕ) (lines : List (List ℕ)) (so_far : List ℕ) (out : List PrintedLine)
    → Takes trace progress line (passed out next) → Goes trace start progress at (line ∷ lines) so_far
    → Goes trace start next (at + 1) lines (so_far ++ lines_text out)
goes_on trace start progress next at line lines so_far out takes goes = record {
  whole = λ w writes.
      let more : Written = record { text = lines_text out ++ w.text; is_ended = w.is_ended; reached = w.reached } in
      let same : behind so_far more ≡ behind (so_far ++ lines_text out) w =
      ap (λ t. record { text = t; is_ended = w.is_ended; reached = w.reached }) (sym (append_assoc so_far (lines_text out) w.text)) in
      subst (RestWrites trace start) same (goes.whole more (passed out next, takes, (w, writes, refl)));
  front = λ f writes.
      subst (RestWritesFront trace start) (sym (append_assoc so_far (lines_text out) f))
      (goes.front (lines_text out ++ f) (inr (passed out next, takes, inr (f, writes, refl))));
}

-- what was written so far is a front
pub front_so_far : (trace : Bool) (start : Rest) (progress : Progress) (at : ℕ) (lines : List (List ℕ)) (so_far : List ℕ)
    → Goes trace start progress at lines so_far → RestWritesFront trace start so_far
front_so_far trace start progress at [] so_far goes =
    subst (RestWritesFront trace start) (append-nil so_far) (goes.front [] (fault_line at (unended_text start.whole), refl))
front_so_far trace start progress at (line ∷ lines) so_far goes =
    subst (RestWritesFront trace start) (append-nil so_far) (goes.front [] (inl refl))

-- where the recording ends with what becomes of the next line, that is what the recording writes
abbrev Ends : Bool → Rest → List ℕ → ℕ → Reply → End → Option ViewedWorld → Type 0
Ends trace start so_far at reply e world =
    (w : Written) × RestWrites trace start w × (status_code (Ok e) ≡ status_of w) × Reads w.reached world × (w.text ≡ so_far ++ reply_text at reply)

ends_with : (trace : Bool) (start : Rest) (progress : Progress) (at : ℕ) (line : List ℕ) (lines : List (List ℕ)) (so_far : List ℕ) (reply : Reply) (e : End) (world : Option ViewedWorld) (taken : Taken)
    → Takes trace progress line taken → Tells progress taken reply world → reply_end reply ≡ Some e → Goes trace start progress at (line ∷ lines) so_far → Ends trace start so_far at reply e world
ends_with trace start progress at line lines so_far (Refused told) end.Refused world (refused text) takes tells is goes = (
  behind so_far (record { text = fault_line at text; is_ended = false; reached = progress }),
  goes.whole (record { text = fault_line at text; is_ended = false; reached = progress }) (refused text, takes, refl),
  refl,
  tells.1,
  ap (λ t. so_far ++ fault_line at t) (sym tells.0),
)
ends_with trace start progress at line lines so_far (Refused told) end.Refused world taken takes tells is goes = absurd tells
ends_with trace start progress at line lines so_far (Refused told) end.Done world taken takes tells is goes = absurd (cc)
ends_with trace start progress at line lines so_far (Ended told) end.Done world (ended out next) takes tells is goes = (
  behind so_far (record { text = lines_text out; is_ended = true; reached = next }),
  goes.whole (record { text = lines_text out; is_ended = true; reached = next }) (ended out next, takes, refl),
  refl,
  tells.1,
  ap (λ t. so_far ++ lines_text t) (sym tells.0),
)
ends_with trace start progress at line lines so_far (Ended told) end.Done world taken takes tells is goes = absurd tells
ends_with trace start progress at line lines so_far (Ended told) end.Refused world taken takes tells is goes = absurd (cc)
ends_with trace start progress at line lines so_far (Wrote told) e world taken takes tells is goes = absurd (cc)

ends_there : (trace : Bool) (start : Rest) (progress : Progress) (at : ℕ) (so_far : List ℕ) (reply : Reply) (e : End) (world : Option ViewedWorld) (whole : Bool)
    → start.whole ≡ whole → IsNext trace progress [] whole reply world → reply_end reply ≡ Some e → Goes trace start progress at [] so_far → Ends trace start so_far at reply e world
ends_there trace start progress at so_far (Refused told) end.Refused world whole same next is goes =
    let w : Written = record { text = fault_line at (unended_text start.whole); is_ended = false; reached = progress } in
    (behind so_far w, goes.whole w refl, refl, next.1, ap (λ t. so_far ++ fault_line at t) (ap unended_text same ∙ sym next.0))
ends_there trace start progress at so_far (Refused told) end.Done world whole same next is goes = absurd (cc)
ends_there trace start progress at so_far (Wrote told) e world whole same next is goes = absurd next
ends_there trace start progress at so_far (Ended told) e world whole same next is goes = absurd next

pub ends : (trace : Bool) (start : Rest) (progress : Progress) (at : ℕ) (lines : List (List ℕ)) (so_far : List ℕ) (reply : Reply) (e : End) (world : Option ViewedWorld) (whole : Bool)
    → start.whole ≡ whole → IsNext trace progress lines whole reply world → reply_end reply ≡ Some e → Goes trace start progress at lines so_far → Ends trace start so_far at reply e world
ends trace start progress at [] so_far reply e world whole same next is goes = ends_there trace start progress at so_far reply e world whole same next is goes
ends trace start progress at (line ∷ lines) so_far reply e world whole same next is goes =
    ends_with trace start progress at line lines so_far reply e world next.0 next.1 next.2 is goes

-- a front of what becomes of the next line is written
front_with : (trace : Bool) (start : Rest) (progress : Progress) (at : ℕ) (line : List ℕ) (lines : List (List ℕ)) (so_far front : List ℕ) (reply : Reply) (world : Option ViewedWorld) (taken : Taken)
    → Takes trace progress line taken → Tells progress taken reply world → IsFront front (reply_text at reply) → Goes trace start progress at (line ∷ lines) so_far → RestWritesFront trace start (so_far ++ front)
front_with trace start progress at line lines so_far front (Refused told) world (refused text) takes tells is goes =
    goes.front front (inr (refused text, takes, subst (λ t. IsFront front (fault_line at t)) tells.0 is))
front_with trace start progress at line lines so_far front (Wrote told) world (passed out next) takes tells is goes =
    goes.front front (inr (passed out next, takes, inl (subst (λ t. IsFront front (lines_text t)) tells.0 is)))
front_with trace start progress at line lines so_far front (Ended told) world (ended out next) takes tells is goes =
    goes.front front (inr (ended out next, takes, subst (λ t. IsFront front (lines_text t)) tells.0 is))
front_with trace start progress at line lines so_far front reply world taken takes tells is goes = absurd tells

front_there : (trace : Bool) (start : Rest) (progress : Progress) (at : ℕ) (so_far front : List ℕ) (reply : Reply) (world : Option ViewedWorld) (whole : Bool)
    → start.whole ≡ whole → IsNext trace progress [] whole reply world → IsFront front (reply_text at reply) → Goes trace start progress at [] so_far → RestWritesFront trace start (so_far ++ front)
front_there trace start progress at so_far front (Refused told) world whole same next is goes =
    goes.front front (subst (λ t. IsFront front (fault_line at t)) (next.0 ∙ ap unended_text (sym same)) is)
front_there trace start progress at so_far front (Wrote told) world whole same next is goes = absurd next
front_there trace start progress at so_far front (Ended told) world whole same next is goes = absurd next

pub front_of_reply : (trace : Bool) (start : Rest) (progress : Progress) (at : ℕ) (lines : List (List ℕ)) (so_far front : List ℕ) (reply : Reply) (world : Option ViewedWorld) (whole : Bool)
    → start.whole ≡ whole → IsNext trace progress lines whole reply world → IsFront front (reply_text at reply) → Goes trace start progress at lines so_far → RestWritesFront trace start (so_far ++ front)
front_of_reply trace start progress at [] so_far front reply world whole same next is goes = front_there trace start progress at so_far front reply world whole same next is goes
front_of_reply trace start progress at (line ∷ lines) so_far front reply world whole same next is goes =
    front_with trace start progress at line lines so_far front reply world next.0 next.1 next.2 is goes

-- lines were printed, and the recording goes on
pub goes_on_with : (trace : Bool) (start : Rest) (progress : Progress) (at : ℕ) (lines : List (List ℕ)) (so_far : List ℕ) (told : Vec PrintedLine) (world : Option ViewedWorld) (whole : Bool)
    → IsNext trace progress lines whole (Wrote told) world → Goes trace start progress at lines so_far
    → (next : Progress) × Reads next world × Goes trace start next (at + 1) (drop 1 lines) (so_far ++ lines_text told.items)
goes_on_with trace start progress at [] so_far told world whole next goes = absurd next
goes_on_with trace start progress at (line ∷ lines) so_far told world whole next goes = with_taken next.0 next.1 next.2
  where
    with_taken : (taken : Taken) → Takes trace progress line taken → Tells progress taken (Wrote told) world
        → (next : Progress) × Reads next world × Goes trace start next (at + 1) lines (so_far ++ lines_text told.items)
    with_taken (passed out next) takes tells =
        (next, tells.1, subst (λ t. Goes trace start next (at + 1) lines (so_far ++ lines_text t)) (sym tells.0) (goes_on trace start progress next at line lines so_far out takes goes))
    with_taken (refused text) takes tells = absurd tells
    with_taken (ended out next) takes tells = absurd tells

-- how far the code is: some text was written of what the recording writes, and the lines that are left are still to come
pub record SoFar (trace : Bool) (start : Rest) (world : Option ViewedWorld) (longest at budget : ℕ) (come : List ℕ) (old new : Option (List ℕ)) : Type 0 where
  pub text : List ℕ
  pub progress : Progress
  pub reads : Reads progress world
  pub written : Extends old new text
  pub whole : start.whole ≡ nat_lt (length come) budget
  pub goes : Goes trace start progress at (lines_left longest budget come) text

-- the same, where the source tells what it had and has
abbrev pub Going : Bool → Option Rest → Option ViewedWorld → ℕ → ℕ → ℕ → Option (List ℕ) → Option (List ℕ) → Option (List ℕ) → Type 0
Going trace None world longest at budget come old new = ⊤
Going trace (Some start) world longest at budget None old new = ⊥
Going trace (Some start) world longest at budget (Some come) old new = SoFar trace start world longest at budget come old new

-- at first
pub going_nowhere : (trace : Bool) (progress : Progress) (longest at budget : ℕ) (come : Option (List ℕ)) (world : Option ViewedWorld) (held : Option (List ℕ)) → Reads progress world
    → Going trace (rest_of progress at longest budget come) world longest at budget come held held
going_nowhere trace progress longest at budget None world held reads = tt
going_nowhere trace progress longest at budget (Some come) world held reads = record {
  text = [];
  progress = progress;
  reads = reads;
  written = Extends-nil held;
  whole = refl;
  goes = goes_nowhere trace (record { progress = progress; at = at; lines = lines_left longest budget come; whole = nat_lt (length come) budget });
}

-- where nothing more is written
pub stops_here : (trace : Bool) (left : Option Rest) (world : Option ViewedWorld) (longest at budget : ℕ) (come old new : Option (List ℕ))
    → Going trace left world longest at budget come old new → WritesRestFront trace left old new
stops_here trace None world longest at budget come old new going = tt
stops_here trace (Some start) world longest at budget None old new going = absurd going
stops_here trace (Some start) world longest at budget (Some come) old new going =
    (going.text, front_so_far trace start going.progress at (lines_left longest budget come) going.text going.goes, going.written)

-- what the next line prints was written, and the recording goes on
pub going_on : (trace : Bool) (left : Option Rest) (world next : Option ViewedWorld) (longest at before after : ℕ) (come to_come old mid new : Option (List ℕ)) (reply : Reply)
    → Going trace left world longest at before come old mid
    → ((progress : Progress) → Reads progress world → Proceeds trace progress longest before come after to_come reply next)
    → reply_end reply ≡ None → Extends mid new (reply_text at reply)
    → Going trace left next longest (at + 1) after to_come old new
going_on trace None world next longest at before after come to_come old mid new reply going proceeds is written = tt
going_on trace (Some start) world next longest at before after None to_come old mid new reply going proceeds is written = absurd going
going_on trace (Some start) world next longest at before after (Some come) to_come old mid new (Refused text) going proceeds is written = absurd (cc)
going_on trace (Some start) world next longest at before after (Some come) to_come old mid new (Ended told) going proceeds is written = absurd (cc)
going_on trace (Some start) world next longest at before after (Some come) None old mid new (Wrote told) going proceeds is written = absurd (proceeds going.progress going.reads).1
going_on trace (Some start) world next longest at before after (Some come) (Some further) old mid new (Wrote told) going proceeds is written =
    let found = proceeds going.progress going.reads in
    let on = goes_on_with trace start going.progress at (lines_left longest before come) going.text told next (nat_lt (length come) before) found.0 going.goes in
    record {
      text = going.text ++ lines_text told.items;
      progress = on.0;
      reads = on.1;
      written = Extends-trans old mid new going.text (lines_text told.items) going.written written;
      whole = going.whole ∙ found.1.1;
      goes = subst (λ lines. Goes trace start on.0 (at + 1) lines (going.text ++ lines_text told.items)) found.1.0 on.2;
    }

-- what the next line prints was written, and the recording ends
pub going_to_end : (trace : Bool) (left : Option Rest) (world next : Option ViewedWorld) (longest at before after : ℕ) (come to_come old mid new : Option (List ℕ)) (reply : Reply) (e : End)
    → Going trace left world longest at before come old mid
    → ((progress : Progress) → Reads progress world → Proceeds trace progress longest before come after to_come reply next)
    → reply_end reply ≡ Some e → Extends mid new (reply_text at reply)
    → Leaves trace left (Ok e) next old new
going_to_end trace None world next longest at before after come to_come old mid new reply e going proceeds is written = tt
going_to_end trace (Some start) world next longest at before after None to_come old mid new reply e going proceeds is written = absurd going
going_to_end trace (Some start) world next longest at before after (Some come) to_come old mid new reply e going proceeds is written =
    let found = proceeds going.progress going.reads in
    let last = ends trace start going.progress at (lines_left longest before come) going.text reply e next (nat_lt (length come) before) going.whole found.0 is going.goes in
    (last.0, last.1, last.2, last.3, subst (Extends old new) (sym last.4) (Extends-trans old mid new going.text (reply_text at reply) going.written written))

-- a front of what the next line prints was written
pub stops_in : (trace : Bool) (left : Option Rest) (world next : Option ViewedWorld) (longest at before after : ℕ) (come to_come old mid new : Option (List ℕ)) (reply : Reply) (front : List ℕ)
    → Going trace left world longest at before come old mid
    → ((progress : Progress) → Reads progress world → Proceeds trace progress longest before come after to_come reply next)
    → IsFront front (reply_text at reply) → Extends mid new front
    → WritesRestFront trace left old new
stops_in trace None world next longest at before after come to_come old mid new reply front going proceeds is written = tt
stops_in trace (Some start) world next longest at before after None to_come old mid new reply front going proceeds is written = absurd going
stops_in trace (Some start) world next longest at before after (Some come) to_come old mid new reply front going proceeds is written =
    let found = proceeds going.progress going.reads in (
      going.text ++ front,
      front_of_reply trace start going.progress at (lines_left longest before come) going.text front reply next (nat_lt (length come) before) going.whole found.0 is going.goes,
      Extends-trans old mid new going.text front going.written written,
    )

-- where the recording doesn't end with it, it goes on
pub goes_on_if : (reply : Reply) (P : Type 0) → reply_end reply ≡ None → IfGoesOn reply P → P
goes_on_if (Wrote lines) P is said = said
goes_on_if (Refused text) P is said = absurd (cc)
goes_on_if (Ended lines) P is said = absurd (cc)

-- what is so anyway is so where it goes on
pub said_if : (reply : Reply) (P : Type 0) → P → IfGoesOn reply P
said_if (Wrote lines) P is = is
said_if (Refused text) P is = tt
said_if (Ended lines) P is = tt

-- what is left of a recording of which nothing was read
pub all_left : (left : Option (List ℕ)) → rest_of None 1 longest_line most_bytes left ≡ option_map all_of left
all_left None = refl
all_left (Some recording) = refl

-- what was read in all is a front within the limit
pub front_taken : (most unread : ℕ) (old new : Option (List ℕ)) → TakesUnread most unread old new → TakesFront most old new
front_taken most unread old new taken = (taken.0, omega (arith, taken.1), taken.2)
