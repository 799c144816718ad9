-- What was written and said so far, beside what the lines that are left make.
use Rattle.std.proofs.Common.{◌≡◌, ℕ, ◌+◌, nat_lt, List, [], ◌∷◌, ◌++◌, length, take, drop, take-append-drop, Bool, Option, None, Some, Result, Ok, Err, refl, sym, ap, subst, ◌∙◌, append_assoc, append-nil, arith, inl, inr}
use Rattle.std.specs.Prelude.{⊤}
use Rattle.client_link.specs.Sending.{ArePut, AreBegun}
use Rattle.client_link.specs.declared.saying.Saying.{Saying}
use Rattle.client_link.proofs.SendingLemmas.{put_append, tells_same}
use Rattle.link_texts.proofs.SendingLemmas.{tells_then, tells_more}
use Rattle.peer_schemas.specs.Clients.{AreOfTables}
use Rattle.recording_lines.specs.Reading.{TakesUnread}
use Rattle.recording_lines.specs.Lines.{is_whole, recorded_lines, lines_left, longest_line, most_bytes}
use Rattle.room_join.specs.declared.joiner.Joiner as code
use Rattle.room_link.proofs.HeldLemmas.{Extends-nil, Extends-trans}
use Rattle.room_link.specs.Exchange.{Arrival, Exchange, Tells}
use Rattle.room_link.specs.Held.{Extends}
use Rattle.room_link.specs.declared.passing.Outgoing.{Outgoing}
use Rattle.room_model.specs.Schemas.{WorldSchemas}
use Rattle.side_effects.specs.declared.fault.EditFault.{EditFault}
use Rattle.join_job.specs.Endings.{join_end, ended_by, played_to}
use Rattle.join_job.specs.Playing as Playing
use Rattle.join_job.specs.declared.ending.End.TheVariants as ended
use Rattle.join_job.specs.declared.ending.Stop.TheVariants as stopped
use Rattle.join_job.specs.Playing.{Played, Follows, FollowsFront, Plays, PlaysFront, Joins, JoinsFront, IsPlayed, PlaysIn}
use Rattle.join_job.specs.Texts.{fault_line, unended_text, IsFront}
use Rattle.join_job.specs.Turning.{Reads, GoesOn, Comes, TakesNext, ComesNext, LeavesLines}
use Rattle.join_job.specs.Turns.{Progress, Next, ends, goes_on, Turn, refused, Takes}
use Rattle.join_job.specs.declared.ending.End.{End}
use Rattle.join_job.specs.declared.ending.End.TheVariants.{Refused}
use Rattle.join_job.specs.declared.ending.Stop.{Stop}
use Rattle.join_job.specs.declared.script.Reply.{Reply}

abbrev played : List ℕ → List Saying → End → List Arrival → Played
played text said by left = record { text = text; said = said; by = by; left = left }

-- what went out whole has begun
pub put_begun : (xs : List Saying) (p : List Outgoing) → ArePut xs p → AreBegun xs p
put_begun [] p is = is
put_begun (x ∷ xs) p (one, rest, is, are, joins) = inr (one, rest, is, put_begun xs rest are, joins)

-- nothing has begun of anything
pub none_begun : (xs : List Saying) → AreBegun xs []
none_begun [] = refl
none_begun (x ∷ xs) = inl (inl refl)

module _ (schemas : WorldSchemas EditFault) (room : ℕ) (script : List ℕ) (first : List Arrival) where
  -- what the rest makes, behind what was written and said so far
  abbrev behind : List ℕ → List Saying → Played → Played
  behind text said rest = record { text = text ++ rest.text; said = said ++ rest.said; by = rest.by; left = rest.left }

  abbrev unended : List ℕ
  unended = unended_text (is_whole script)

  -- with what the lines that are left make, what was written and said so far is what the script makes; the same of fronts
  pub record Goes (progress : Progress) (at : ℕ) (lines : List (List ℕ)) (coming : List Arrival) (text : List ℕ) (said : List Saying) (put : List Outgoing) : Type 0 where
    pub whole : (rest : Played) → Plays schemas room unended progress at lines coming rest → Joins schemas room script first (behind text said rest)
    pub front : (f : List ℕ) (p : List Outgoing) → PlaysFront schemas room unended progress at lines coming f p → JoinsFront schemas room script first (text ++ f) (put ++ p)

  -- at first
  pub goes_nowhere : Goes None 1 (recorded_lines script) first [] [] []
  goes_nowhere = record { whole = λ rest plays. plays; front = λ f p plays. plays }

  -- what stands for a turn among the lines that are left
  module _ (progress : Progress) (at : ℕ) (coming : List Arrival) (text : List ℕ) (said : List Saying) (put : List Outgoing) (turn : Turn) where
    -- the script ends with a turn
    pub ends_by : (whole : Bool) (lines : List (List ℕ)) (by : End) (left : List Arrival) → is_whole script ≡ whole → TakesNext schemas at room progress whole lines coming turn → turn.next ≡ ends by left
        → Goes progress at lines coming text said put → Joins schemas room script first (record { text = text ++ turn.text; said = said ++ turn.said; by = by; left = left })
    ends_by whole [] by left same takes is goes =
        let unended_turn : turn ≡ refused Refused at unended coming = takes ∙ ap (λ w. refused Refused at (unended_text w) coming) (sym same) in
        goes.whole (record { text = turn.text; said = turn.said; by = by; left = left })
        (ending (sym is ∙ ap (λ (t : Turn). t.next) unended_turn) (ap (λ (t : Turn). t.text) unended_turn) (ap (λ (t : Turn). t.said) unended_turn))
      where
        ending : {a b : End} {l m : List Arrival} {t u : List ℕ} {s v : List Saying} → ends a l ≡ ends b m → t ≡ u → s ≡ v
            → played t s a l ≡ played u v b m
        ending n t s = cc
    ends_by whole (line ∷ lines) by left same takes is goes =
        goes.whole (record { text = turn.text; said = turn.said; by = by; left = left })
        (turn, takes, subst (λ n. Follows turn n (λ next left rest. Plays schemas room unended next (at + 1) lines left rest) (record { text = turn.text; said = turn.said; by = by; left = left })) (sym is) refl)

    -- a front of a turn was written, and what it says has begun to go out
    pub stops_within : (whole : Bool) (lines : List (List ℕ)) (f : List ℕ) (p : List Outgoing) → is_whole script ≡ whole → TakesNext schemas at room progress whole lines coming turn
        → IsFront f turn.text → AreBegun turn.said p → Goes progress at lines coming text said put → JoinsFront schemas room script first (text ++ f) (put ++ p)
    stops_within whole [] f p same takes is begun goes =
        let unended_turn : turn ≡ refused Refused at unended coming = takes ∙ ap (λ w. refused Refused at (unended_text w) coming) (sym same) in
        goes.front f p (subst (λ (t : Turn). IsFront f t.text) unended_turn is, subst (λ (t : Turn). AreBegun t.said p) unended_turn begun)
    stops_within whole (line ∷ lines) f p same takes is begun goes =
        goes.front f p (inr (turn, takes, within turn.next))
      where
        within : (n : Next) → FollowsFront turn n (λ next left t rest. PlaysFront schemas room unended next (at + 1) lines left t rest) f p
        within (ends by left) = (is, begun)
        within (goes_on next left) = inl (is, begun)

    -- a turn was written and said, and the script goes on
    pub goes_further : (line : List ℕ) (lines : List (List ℕ)) (next : Progress) (left : List Arrival) (p : List Outgoing) → Takes schemas at room progress line coming turn → turn.next ≡ goes_on next left
        → ArePut turn.said p → Goes progress at (line ∷ lines) coming text said put
        → Goes next (at + 1) lines left (text ++ turn.text) (said ++ turn.said) (put ++ p)
    goes_further line lines next left p takes is are goes = record {
      whole = λ rest plays.
          let more : Played = record { text = turn.text ++ rest.text; said = turn.said ++ rest.said; by = rest.by; left = rest.left } in
          let same : behind text said more ≡ behind (text ++ turn.text) (said ++ turn.said) rest =
          λ i. record { text = sym (append_assoc text turn.text rest.text) i; said = sym (append_assoc said turn.said rest.said) i; by = rest.by; left = rest.left } in
          subst (Joins schemas room script first) same (goes.whole more
          (turn, takes, subst (λ n. Follows turn n (λ next left rest. Plays schemas room unended next (at + 1) lines left rest) more) (sym is) (rest, plays, refl)));
      front = λ f q plays.
          let found = goes.front (turn.text ++ f) (p ++ q)
          (inr (
            turn,
            takes,
            subst (λ n. FollowsFront turn n (λ next left t rest. PlaysFront schemas room unended next (at + 1) lines left t rest) (turn.text ++ f) (p ++ q)) (sym is)
                (inr (f, p, q, are, plays, refl, refl)),
          )) in
          subst (λ o. JoinsFront schemas room script first ((text ++ turn.text) ++ f) o) (sym (append_assoc put p q))
          (subst (λ t. JoinsFront schemas room script first t (put ++ (p ++ q))) (sym (append_assoc text turn.text f)) found);
    }

  -- what was written and said so far is a front
  pub front_so_far : (progress : Progress) (at : ℕ) (lines : List (List ℕ)) (coming : List Arrival) (text : List ℕ) (said : List Saying) (put : List Outgoing)
      → Goes progress at lines coming text said put → JoinsFront schemas room script first text put
  front_so_far progress at lines coming text said put goes =
      subst (λ o. JoinsFront schemas room script first text o) (append-nil put)
      (subst (λ t. JoinsFront schemas room script first t (put ++ [])) (append-nil text) (goes.front [] [] (of lines)))
    where
      of : (lines : List (List ℕ)) → PlaysFront schemas room unended progress at lines coming [] []
      of [] = ((fault_line at unended, refl), refl)
      of (line ∷ lines) = inl (refl, refl)

-- how far the code is: some text was written and some sayings went out of what the script makes, and the lines that are left are still to come
pub record SoFar (schemas : WorldSchemas EditFault) (room : ℕ) (script : List ℕ) (client : Option code.Joiner) (longest at budget : ℕ) (come : List ℕ) (held holds : Option (List ℕ)) (old new : Exchange) : Type 0 where
  pub text : List ℕ
  pub said : List Saying
  pub put : List Outgoing
  pub progress : Progress
  pub reads : Reads schemas progress client
  pub written : Extends held holds text
  pub are : ArePut said put
  pub sent : new.sent ≡ old.sent ++ put
  pub whole : is_whole script ≡ nat_lt (length come) budget
  pub goes : Goes schemas room script old.left progress at (lines_left longest budget come) new.left text said put

-- the same, where the source tells the script and what is to come of it
abbrev pub Going : WorldSchemas EditFault → ℕ → Option (List ℕ) → Option code.Joiner → ℕ → ℕ → ℕ → Option (List ℕ) → Option (List ℕ) → Option (List ℕ) → Exchange → Exchange → Type 0
Going schemas room None client longest at budget come held holds old new = ⊤
Going schemas room (Some script) client longest at budget None held holds old new = ⊥
Going schemas room (Some script) client longest at budget (Some come) held holds old new = SoFar schemas room script client longest at budget come held holds old new

-- a script was played, where the source tells it
abbrev pub PlaysHere : WorldSchemas EditFault → ℕ → Option (List ℕ) → Option End → Option (List ℕ) → Option (List ℕ) → Exchange → Exchange → Type 0
PlaysHere schemas room None by held holds old new = ⊤
PlaysHere schemas room (Some script) by held holds old new = IsPlayed schemas room script by held holds old new

-- the same, where the link tells its exchange
pub plays_in : (schemas : WorldSchemas EditFault) (room : ℕ) (left : Option (List ℕ)) (by : Option End) (held holds : Option (List ℕ)) (old new : Option Exchange)
    → Tells (PlaysHere schemas room left by held holds) old new → PlaysIn schemas room left by held holds old new
plays_in schemas room None by held holds old new plays = tt
plays_in schemas room (Some script) by held holds old new plays = plays

module _ (schemas : WorldSchemas EditFault) (room : ℕ) where
  -- at first
  pub going_nowhere : (left : Option (List ℕ)) (held : Option (List ℕ)) (old : Exchange) → Going schemas room left None longest_line 1 most_bytes left held held old old
  going_nowhere None held old = tt
  going_nowhere (Some script) held old = record {
    text = [];
    said = [];
    put = [];
    progress = None;
    reads = tt;
    written = Extends-nil held;
    are = refl;
    sent = sym (append-nil old.sent);
    whole = refl;
    goes = goes_nowhere schemas room script old.left;
  }

  sent_more : (p q : List Outgoing) (old mid new : Exchange) → mid.sent ≡ old.sent ++ p → new.sent ≡ mid.sent ++ q → new.sent ≡ old.sent ++ (p ++ q)
  sent_more p q old mid new first second = second ∙ ap (λ s. s ++ q) first ∙ append_assoc old.sent p q

  module _ (before client : Option code.Joiner) (longest at budget : ℕ) (x y z : Exchange) where
    -- the next line gave no reply
    pub stops_here : (left come held holds : Option (List ℕ)) (cause : Stop)
        → Going schemas room left before longest at budget come held holds x y → ComesNext schemas room before longest at budget come (Err cause) client y z
        → PlaysHere schemas room left None held holds x z
    stops_here None come held holds cause going comes = tt
    stops_here (Some script) None held holds cause going comes = absurd going
    stops_here (Some script) (Some come) held holds cause going comes = by (comes going.progress going.reads)
      where
        by : Comes schemas (TakesNext schemas at room going.progress (nat_lt (length come) budget) (lines_left longest budget come)) (Err cause) client y z → IsPlayed schemas room script None held holds x z
        by (inl same) = (
          going.text,
          going.put,
          front_so_far schemas room script x.left going.progress at (lines_left longest budget come) y.left going.text going.said going.put going.goes,
          going.written,
          same ∙ going.sent,
        )
        by (inr (turn, takes, (p, begun, sent))) = (
          going.text,
          going.put ++ p,
          subst (λ t. JoinsFront schemas room script x.left t (going.put ++ p)) (append-nil going.text)
              (stops_within schemas room script x.left going.progress at y.left going.text going.said going.put turn (nat_lt (length come) budget) (lines_left longest budget come) [] p going.whole takes (turn.text, refl) begun going.goes),
          going.written,
          sent_more going.put p x y z going.sent sent,
        )

    -- a front of the next line's text was written
    pub stops_in : (left come held holds after : Option (List ℕ)) (reply : Reply) (f : List ℕ)
        → Going schemas room left before longest at budget come held holds x y → ComesNext schemas room before longest at budget come (Ok reply) client y z
        → IsFront f reply.text.items → Extends holds after f → PlaysHere schemas room left None held after x z
    stops_in None come held holds after reply f going comes is written = tt
    stops_in (Some script) None held holds after reply f going comes is written = absurd going
    stops_in (Some script) (Some come) held holds after reply f going comes is written = by (comes going.progress going.reads)
      where
        by : Comes schemas (TakesNext schemas at room going.progress (nat_lt (length come) budget) (lines_left longest budget come)) (Ok reply) client y z → IsPlayed schemas room script None held after x z
        by (turn, takes, text, on, (p, are, sent)) = (
          going.text ++ f,
          going.put ++ p,
          stops_within schemas room script x.left going.progress at y.left going.text going.said going.put turn (nat_lt (length come) budget) (lines_left longest budget come) f p going.whole takes
              (subst (IsFront f) text is) (put_begun turn.said p are) going.goes,
          Extends-trans held holds after going.text f going.written written,
          sent_more going.put p x y z going.sent sent,
        )

    -- the next line's text was written, and the script ends
    pub going_to_end : (left come held holds after : Option (List ℕ)) (reply : Reply) (by : End)
        → Going schemas room left before longest at budget come held holds x y → ComesNext schemas room before longest at budget come (Ok reply) client y z
        → reply.end ≡ Some by → Extends holds after reply.text.items → PlaysHere schemas room left (Some by) held after x z
    going_to_end None come held holds after reply by going comes is written = tt
    going_to_end (Some script) None held holds after reply by going comes is written = absurd going
    going_to_end (Some script) (Some come) held holds after reply by going comes is written = found (comes going.progress going.reads)
      where
        found : Comes schemas (TakesNext schemas at room going.progress (nat_lt (length come) budget) (lines_left longest budget come)) (Ok reply) client y z → IsPlayed schemas room script (Some by) held after x z
        found (turn, takes, text, on, (p, are, sent)) = with_next turn.next refl reply.end is on
          where
            with_next : (n : Next) → turn.next ≡ n → (e : Option End) → e ≡ Some by → GoesOn schemas n e client z.left → IsPlayed schemas room script (Some by) held after x z
            with_next (goes_on next left) next_is None e_is on = absurd (cc)
            with_next (goes_on next left) next_is (Some told) e_is on = absurd on
            with_next (ends b left) next_is None e_is on = absurd on
            with_next (ends b left) next_is (Some told) e_is on =
                let same : b ≡ by = let some : Some told ≡ Some by = e_is in let told_by : told ≡ by = cc in sym on.0 ∙ told_by in (
                  record { text = going.text ++ turn.text; said = going.said ++ turn.said; by = b; left = left },
                  ends_by schemas room script x.left going.progress at y.left going.text going.said going.put turn (nat_lt (length come) budget) (lines_left longest budget come) b left going.whole takes next_is going.goes,
                  same,
                  Extends-trans held holds after going.text turn.text going.written (subst (Extends holds after) text written),
                  on.1,
                  (going.put ++ p, put_append going.said turn.said going.put p going.are are, sent_more going.put p x y z going.sent sent),
                )

    -- the next line's text was written, and the script goes on
    pub going_on : (left come further held holds after : Option (List ℕ)) (reply : Reply) (less : ℕ)
        → Going schemas room left before longest at budget come held holds x y → ComesNext schemas room before longest at budget come (Ok reply) client y z
        → reply.end ≡ None → LeavesLines longest budget come less further → Extends holds after reply.text.items
        → Going schemas room left client longest (at + 1) less further held after x z
    going_on None come further held holds after reply less going comes is leaves written = tt
    going_on (Some script) None further held holds after reply less going comes is leaves written = absurd going
    going_on (Some script) (Some come) None held holds after reply less going comes is leaves written = absurd leaves
    going_on (Some script) (Some come) (Some further) held holds after reply less going comes is leaves written = found (comes going.progress going.reads)
      where
        found : Comes schemas (TakesNext schemas at room going.progress (nat_lt (length come) budget) (lines_left longest budget come)) (Ok reply) client y z
            → SoFar schemas room script client longest (at + 1) less further held after x z
        found (turn, takes, text, on, (p, are, sent)) = with_lines (lines_left longest budget come) refl takes
          where
            with_next : (line : List ℕ) (lines : List (List ℕ)) → lines_left longest budget come ≡ line ∷ lines → Takes schemas at room going.progress line y.left turn
                → (n : Next) → turn.next ≡ n → (e : Option End) → e ≡ None → GoesOn schemas n e client z.left → SoFar schemas room script client longest (at + 1) less further held after x z
            with_next line lines is_lines takes (ends b left) next_is (Some told) e_is on = absurd (cc)
            with_next line lines is_lines takes (ends b left) next_is None e_is on = absurd on
            with_next line lines is_lines takes (goes_on next left) next_is (Some told) e_is on = absurd on
            with_next line lines is_lines takes (goes_on next left) next_is None e_is on =
                let here : Goes schemas room script x.left going.progress at (line ∷ lines) y.left going.text going.said going.put =
                subst (λ l. Goes schemas room script x.left going.progress at l y.left going.text going.said going.put) is_lines going.goes in
                let on_lines : lines ≡ lines_left longest less further = ap (drop 1) (sym is_lines) ∙ leaves.0 in
                let on_goes = goes_further schemas room script x.left going.progress at y.left going.text going.said going.put turn line lines next left p takes next_is are here in
                record {
                  text = going.text ++ turn.text;
                  said = going.said ++ turn.said;
                  put = going.put ++ p;
                  progress = next;
                  reads = on.0;
                  written = Extends-trans held holds after going.text turn.text going.written (subst (Extends holds after) text written);
                  are = put_append going.said turn.said going.put p going.are are;
                  sent = sent_more going.put p x y z going.sent sent;
                  whole = going.whole ∙ leaves.1;
                  goes = subst (λ c. Goes schemas room script x.left next (at + 1) (lines_left longest less further) c (going.text ++ turn.text) (going.said ++ turn.said) (going.put ++ p)) (sym on.1)
                      (subst (λ l. Goes schemas room script x.left next (at + 1) l left (going.text ++ turn.text) (going.said ++ turn.said) (going.put ++ p)) on_lines on_goes);
                }

            with_lines : (lines : List (List ℕ)) → lines_left longest budget come ≡ lines → TakesNext schemas at room going.progress (nat_lt (length come) budget) lines y.left turn
                → SoFar schemas room script client longest (at + 1) less further held after x z
            with_lines [] is_lines takes = with_end reply.end is (subst (λ n. GoesOn schemas n reply.end client z.left) (ap (λ (t : Turn). t.next) takes) on)
              where
                with_end : (e : Option End) → e ≡ None → GoesOn schemas (ends Refused y.left) e client z.left → SoFar schemas room script client longest (at + 1) less further held after x z
                with_end None e_is on = absurd on
                with_end (Some told) e_is on = absurd (cc)
            with_lines (line ∷ lines) is_lines takes = with_next line lines is_lines takes turn.next refl reply.end is on

-- ---- the same, where the link tells its exchange, of all schemas that the tables decide

abbrev pub Goings : ℕ → Option (List ℕ) → Option code.Joiner → ℕ → ℕ → Option (List ℕ) → Option (List ℕ) → Option (List ℕ) → Exchange → Exchange → Type 0
Goings room left client at budget come held holds x y =
    (schemas : WorldSchemas EditFault) → AreOfTables schemas → Going schemas room left client longest_line at budget come held holds x y

abbrev pub Comings : ℕ → Option code.Joiner → ℕ → ℕ → ℕ → Option (List ℕ) → Result Reply Stop → Option code.Joiner → Exchange → Exchange → Type 0
Comings room before longest at budget come result client x y =
    (schemas : WorldSchemas EditFault) → AreOfTables schemas → ComesNext schemas room before longest at budget come result client x y

abbrev pub PlaysOf : ℕ → Option (List ℕ) → Option End → Option (List ℕ) → Option (List ℕ) → Option Exchange → Option Exchange → Type 0
PlaysOf room left by held holds o n = (schemas : WorldSchemas EditFault) → AreOfTables schemas → PlaysIn schemas room left by held holds o n

abbrev Here : ℕ → Option (List ℕ) → Option End → Option (List ℕ) → Option (List ℕ) → Exchange → Exchange → Type 0
Here room left by held holds x z = (schemas : WorldSchemas EditFault) → AreOfTables schemas → PlaysHere schemas room left by held holds x z

here_in : (room : ℕ) (left : Option (List ℕ)) (by : Option End) (held holds : Option (List ℕ)) (o n : Option Exchange) → Tells (Here room left by held holds) o n → PlaysOf room left by held holds o n
here_in room left by held holds o n here = λ schemas tables.
    plays_in schemas room left by held holds o n (tells_more {A = Here room left by held holds} {B = PlaysHere schemas room left by held holds} o n here (λ x z so. so schemas tables))

module _ (room : ℕ) (left held holds : Option (List ℕ)) where
  -- at first, nothing having been read
  pub goings_first : (client : Option code.Joiner) (budget : ℕ) (come : Option (List ℕ)) (told : Option Exchange) → client ≡ None → budget ≡ most_bytes → come ≡ left
      → Tells (Goings room left client 1 budget come held held) told told
  goings_first client budget come told none whole all =
      tells_same (Goings room left client 1 budget come held held) told
      (λ x schemas tables. subst (λ k. Going schemas room left k longest_line 1 budget come held held x x) (sym none)
      (subst (λ b. Going schemas room left None longest_line 1 b come held held x x) (sym whole)
      (subst (λ k. Going schemas room left None longest_line 1 most_bytes k held held x x) (sym all) (going_nowhere schemas room left held x))))

  -- nothing was done
  pub nothing_played : (told : Option Exchange) → PlaysOf room left None held held told told
  nothing_played told =
      here_in room left None held held told told (tells_same (Here room left None held held) told (λ x schemas tables. of x schemas left))
    where
      of : (x : Exchange) (schemas : WorldSchemas EditFault) (left : Option (List ℕ)) → PlaysHere schemas room left None held held x x
      of x schemas None = tt
      of x schemas (Some script) =
          ([], [], front_so_far schemas room script x.left None 1 (recorded_lines script) x.left [] [] [] (goes_nowhere schemas room script x.left), Extends-nil held, sym (append-nil x.sent))

  module _ (before client : Option code.Joiner) (other longest at budget : ℕ) (come : Option (List ℕ)) (o m n : Option Exchange) (same_room : other ≡ room) (same_longest : longest ≡ longest_line)
      (going : Tells (Goings room left before at budget come held holds) o m) where
    here_comes : (result : Result Reply Stop) → Tells (Comings other before longest at budget come result client) m n → Tells (Comings room before longest_line at budget come result client) m n
    here_comes result comes =
        subst (λ l. Tells (Comings room before l at budget come result client) m n) same_longest
        (subst (λ r. Tells (Comings r before longest at budget come result client) m n) same_room comes)

    pub played_to_here : (cause : Stop) → Tells (Comings other before longest at budget come (Err cause) client) m n → PlaysOf room left None held holds o n
    played_to_here cause comes =
        here_in room left None held holds o n
        (tells_then {A = Goings room left before at budget come held holds} {B = Comings room before longest_line at budget come (Err cause) client} {C = Here room left None held holds} o m n going (here_comes (Err cause) comes)
        (λ x y z g c schemas tables. stops_here schemas room before client longest_line at budget x y z left come held holds cause (g schemas tables) (c schemas tables)))

    module _ (reply : Reply) (after : Option (List ℕ)) (comes : Tells (Comings other before longest at budget come (Ok reply) client) m n) where
      pub played_in_part : (f : List ℕ) → IsFront f reply.text.items → Extends holds after f → PlaysOf room left None held after o n
      played_in_part f is written =
          here_in room left None held after o n
          (tells_then {A = Goings room left before at budget come held holds} {B = Comings room before longest_line at budget come (Ok reply) client} {C = Here room left None held after} o m n going (here_comes (Ok reply) comes)
          (λ x y z g c schemas tables. stops_in schemas room before client longest_line at budget x y z left come held holds after reply f (g schemas tables) (c schemas tables) is written))

      pub played_whole : (by : End) → reply.end ≡ Some by → Extends holds after reply.text.items → PlaysOf room left (Some by) held after o n
      played_whole by is written =
          here_in room left (Some by) held after o n
          (tells_then {A = Goings room left before at budget come held holds} {B = Comings room before longest_line at budget come (Ok reply) client} {C = Here room left (Some by) held after} o m n going (here_comes (Ok reply) comes)
          (λ x y z g c schemas tables. going_to_end schemas room before client longest_line at budget x y z left come held holds after reply by (g schemas tables) (c schemas tables) is written))

      pub goings_on : (further : Option (List ℕ)) (less : ℕ) → reply.end ≡ None → LeavesLines longest budget come less further → Extends holds after reply.text.items
          → Tells (Goings room left client (at + 1) less further held after) o n
      goings_on further less is leaves written =
          tells_then {A = Goings room left before at budget come held holds} {B = Comings room before longest_line at budget come (Ok reply) client} {C = Goings room left client (at + 1) less further held after} o m n going (here_comes (Ok reply) comes)
          (λ x y z g c schemas tables. going_on schemas room before client longest_line at budget x y z left come further held holds after reply less (g schemas tables) (c schemas tables) is
          (subst (λ l. LeavesLines l budget come less further) same_longest leaves) written)

-- what was read in all is a front within the limit
pub front_read : (most unread : ℕ) (old new : Option (List ℕ)) → TakesUnread most unread old new → Playing.Reads most old new
front_read most unread old new taken = (taken.0, omega (arith, taken.1), taken.2)

-- the first bytes of a text are a front of it
pub first_bytes : (n : ℕ) (text : List ℕ) → IsFront (take n text) text
first_bytes n text = (drop n text, sym (take-append-drop n text))

-- what a script ends with tells how it was played
pub ended_is : (r : Result End Stop) → ended_by (join_end r) ≡ played_to r
ended_is (Ok ended.Done) = refl
ended_is (Ok ended.Refused) = refl
ended_is (Ok ended.Server) = refl
ended_is (Err stopped.Read) = refl
ended_is (Err stopped.Write) = refl
ended_is (Err stopped.Memory) = refl
ended_is (Err stopped.Link) = refl
