-- That the lines of a script lead a client on its way over a link, and that a session that serves it isn't refused.
use Rattle.std.proofs.Common.{◌≡◌, inl, inr, ℕ, ◌+◌, Bool, true, false, List, [], ◌∷◌, ◌++◌, Option, Some, None, Result, Ok, Err, refl, sym, ap, subst, ◌∙◌, append-nil, append_assoc}
use Rattle.std.specs.Prelude.{codes}
use Rattle.std.specs.Option.{option_map_or}
use Rattle.client_link.specs.Waiting.{Waits}
use Rattle.client_link.specs.declared.saying.Saying.{Saying}
use Rattle.client_link.specs.declared.waiting.Heard.{Heard}
use Rattle.client_link.specs.declared.waiting.Heard.TheVariants as heard
use Rattle.join_job.specs.Playing.{Played, Follows, Plays, Joins}
use Rattle.join_job.specs.Texts.{is_passed_by, unended_text}
use Rattle.join_job.specs.Turns.{Progress, Next, ends, goes_on, Turn, refused, ended, IsDone, IsHeeded, Delivers, Does, TakesHeader, TakesStep, TakesUnless, Takes}
use Rattle.join_job.specs.declared.ending.End.{End}
use Rattle.join_job.specs.declared.ending.End.TheVariants.{Done, Refused, Server}
use Rattle.join_job.specs.declared.step.Step as job
use Rattle.join_job.specs.declared.step.Step.TheVariants as step
use Rattle.recording_lines.specs.Lines.{is_whole, recorded_lines}
use Rattle.room_events.specs.Events.{events_of}
use Rattle.room_events.specs.Legal.{Legal, state_of}
use Rattle.room_events.specs.declared.room_event.RoomEvent.{RoomEvent}
use Rattle.room_join.specs.Joiners.{Joiner, Acted, Outcome, new_joiner, acts, with_message, heard_of, hello, pushes, after_pushes, after_told}
use Rattle.room_join.specs.Texts.{take_fault_text}
use Rattle.room_join.specs.declared.act.Act.{Act}
use Rattle.room_link.specs.Exchange.{Arrival}
use Rattle.room_model.specs.Bases.{whole_for}
use Rattle.room_model.specs.Histories.{records_of, up_to}
use Rattle.room_model.specs.Schemas.{WorldSchemas, AreLawfulTogether, Plan}
use Rattle.side_effects.specs.declared.fault.EditFault.{EditFault}
use Rattle.sync_client.specs.Faults.{take_fault}
use Rattle.sync_client.specs.declared.fault.TakeFault.{TakeFault}
use Rattle.sync_msgs.specs.declared.server_message.ServerMessage.{ServerMessage}
use Rattle.wire_text.specs.Feeding.{Assembly}
use Rattle.wire_text.specs.Streams.{PiecesComeBack}
use Rattle.join_laws.specs.Linked.{step_by, Comes, joined, acted, waited, ServesOver}
use Rattle.join_laws.specs.Scripted.{LinesLead, Leads}
use Rattle.join_laws.specs.Serving.{Serves}
use Rattle.join_laws.specs.Sessions.{BeginsWith}
use Rattle.join_laws.specs.Ways.{Step, hears, idles, Way, after_act, after_coming, step_on}
use Rattle.join_laws.proofs.LinkedLemmas.{Keeps, acts_keep, served, took_all, refuses_none}
use Rattle.join_laws.proofs.WayLemmas.{base_is, version_is}

-- where a client that took each message has come to
abbrev way_at : Joiner → List Saying → List ServerMessage → Way
way_at joiner said came = record { joiner = joiner; said = said; came = came; fault = None }

module _ (schemas : WorldSchemas EditFault) (back : PiecesComeBack) (room : ℕ) (coming : List Arrival) where
  -- a client is on its way: it said this, and this is still to come
  abbrev pub OnWay : Joiner → List Saying → List Arrival → Type 0
  OnWay joiner said left = (version : ℕ) × (came : List ServerMessage) × Comes schemas version room coming (way_at joiner said came) left

  -- so is a client of a script, unless it was told that its link has ended; before the header nothing was said, and nothing came
  abbrev pub Holds : Progress → List Saying → List Arrival → Type 0
  Holds None said left = (said ≡ []) × (left ≡ coming)
  Holds (Some joiner) said left = joiner.is_lost ≡ false → OnWay joiner said left

  -- no session serves a client that said this
  abbrev pub Unserved : List Saying → Type 0
  Unserved said =
      (last : ℕ) (events : List RoomEvent) (number : ℕ) → AreLawfulTogether schemas → Legal schemas.room last events
      → ServesOver (events_of number events) coming said → ⊥

  -- how a script goes on behind what was said, with what is said for a line; where it ends, nothing is said for that, the end is a
  -- refusal of the room only where no session serves the client, and the script's own only where there is a client
  abbrev Then : Progress → List Arrival → List Saying → Next → List Saying → Type 0
  Then before now said (goes_on progress left) says = Holds progress (said ++ says) left
  Then before now said (ends by left) says =
      (says ≡ []) × (by ≡ Server → Unserved said) × (by ≡ Done → (joiner : Joiner) × (before ≡ Some joiner) × (left ≡ now))

  abbrev TurnsSo : Progress → List Arrival → List Saying → Turn → Type 0
  TurnsSo before now said turn = Then before now said turn.next turn.said

  -- ---- a client goes on its way

  way_first : (version : ℕ) → OnWay (new_joiner version) (hello schemas room version) coming
  way_first version = (version, [], joined)

  way_acted : (act : Act) (joiner : Joiner) (said : List Saying) (now : List Arrival) (made : Acted) → acts schemas act joiner ≡ Ok made → OnWay joiner said now
      → OnWay (after_told schemas (after_pushes schemas made.joiner)) (said ++ pushes schemas made.joiner) now
  way_acted act joiner said now made is w =
      let way = way_at joiner said w.1 in
      (w.0, w.1, subst (λ (o : Outcome). Comes schemas w.0 room coming (after_act schemas o way) now) is (acted way now act w.2))

  module _ (joiner : Joiner) (said : List Saying) (now left : List Arrival) (w : OnWay joiner said now) where
    way_waited : (h : Heard) (waiting : Assembly) (what : Step) → Waits joiner.waiting now h waiting left → step_by h waiting ≡ Some what
        → Comes schemas w.0 room coming (step_on schemas what (way_at joiner said w.1)) left
    way_waited h waiting what waits is = waited (way_at joiner said w.1) now left h waiting what w.2 refl waits is

    -- it took a message, or didn't for a fault
    way_heard : (message : ServerMessage) (waiting : Assembly) (o : Option TakeFault) → Waits joiner.waiting now (heard.Message message) waiting left → take_fault joiner.state.client message ≡ o
        → Comes schemas w.0 room coming (after_coming schemas message o (record joiner { waiting = waiting }) (way_at joiner said w.1)) left
    way_heard message waiting o waits is =
        subst (λ (o : Option TakeFault). Comes schemas w.0 room coming (after_coming schemas message o (record joiner { waiting = waiting }) (way_at joiner said w.1)) left) is
        (way_waited (heard.Message message) waiting (hears message waiting) waits refl)

    -- a message that isn't taken, and a text that is refused, come from no session that serves it
    not_taken : (message : ServerMessage) (waiting : Assembly) (fault : TakeFault) → Waits joiner.waiting now (heard.Message message) waiting left → take_fault joiner.state.client message ≡ Some fault → Unserved said
    not_taken message waiting fault waits is last events number lawful legal serves =
        let none : Some fault ≡ None =
        took_all schemas back w.0 room coming (after_coming schemas message (Some fault) (record joiner { waiting = waiting }) (way_at joiner said w.1)) left (way_heard message waiting (Some fault) waits is)
        last events number lawful legal serves in
        absurd (cc)

  -- ---- a turn

  refused_so : (before : Progress) (now : List Arrival) (said : List Saying) (at : ℕ) (text : List ℕ) → TurnsSo before now said (refused Refused at text now)
  refused_so before now said at text = (refl, (λ server. absurd (cc)), (λ done. absurd (cc)))

  served_not : (before : Progress) (now left : List Arrival) (said : List Saying) (at : ℕ) (text : List ℕ) → Unserved said → TurnsSo before now said (refused Server at text left)
  served_not before now left said at text unserved = (refl, (λ server. unserved), (λ done. absurd (cc)))

  ended_so : (joiner : Joiner) (now : List Arrival) (said : List Saying) → TurnsSo (Some joiner) now said (ended joiner now)
  ended_so joiner now said = (refl, (λ server. absurd (cc)), (λ done. (joiner, refl, refl)))

  module _ (at : ℕ) (joiner : Joiner) (now : List Arrival) (said : List Saying) (turn : Turn) (holds : Holds (Some joiner) said now) where
    abbrev So : Turn → Type 0
    So t = TurnsSo (Some joiner) now said t

    act_so : (act : Act) (o : Outcome) → acts schemas act joiner ≡ o → Keeps schemas joiner o → IsDone schemas at o now turn → So turn
    act_so act (Ok made) is keeps done = subst So (sym done) (λ not_lost. way_acted act joiner said now made is (holds (sym keeps.1 ∙ not_lost)))
    act_so act (Err fault) is keeps done = subst So (sym done.2) (refused_so (Some joiner) now said at done.0)

    module _ (waiting : Assembly) (left : List Arrival) (not_lost : joiner.is_lost ≡ false) where
      abbrev takes_by : ServerMessage → Option TakeFault → Result Acted (Option (List ℕ))
      takes_by message o = option_map_or (λ fault. Err (take_fault_text fault)) o (Ok (record { joiner = with_message schemas message (record joiner { waiting = waiting }); lines = [] }))

      message_so : (message : ServerMessage) → Waits joiner.waiting now (heard.Message message) waiting left → (o : Option TakeFault) → take_fault joiner.state.client message ≡ o
          → IsHeeded schemas at (takes_by message o) left turn → So turn
      message_so message waits None is done =
          let w = holds not_lost in
          subst So (sym done) (λ lost. (w.0, w.1 ++ message ∷ [], way_heard joiner said now left w message waiting None waits is))
      message_so message waits (Some fault) is done =
          subst So (sym done.2) (served_not (Some joiner) now left said at done.0 (not_taken joiner said now left (holds not_lost) message waiting fault waits is))

      heard_so : (h : Heard) → Waits joiner.waiting now h waiting left → IsHeeded schemas at (heard_of schemas (record joiner { waiting = waiting }) h) left turn → So turn
      heard_so (heard.Message message) waits done = message_so message waits (take_fault joiner.state.client message) refl done
      heard_so (heard.Refused fault) waits done =
          let w = holds not_lost in
          subst So (sym done.2) (served_not (Some joiner) now left said at done.0
          (λ last events number lawful legal serves.
          refuses_none schemas back w.0 room coming (way_at joiner said w.1) now w.2 last events number lawful legal serves fault waiting left waits))
      heard_so heard.Lost waits done = subst So (sym done) (λ lost. let no : true ≡ false = lost in absurd (cc))
      heard_so heard.Idle waits done =
          let w = holds not_lost in
          subst So (sym done) (λ lost. (w.0, w.1, way_waited joiner said now left w heard.Idle waiting (idles waiting) waits refl))

    deliver_so : (lost : Bool) → joiner.is_lost ≡ lost → Delivers schemas at lost joiner now turn → So turn
    deliver_so true is done = subst So (sym done) (refused_so (Some joiner) now said at (codes "NoSuchSession"))
    deliver_so false is done = heard_so done.1 done.2 is done.0 done.3 done.4

    does_so : (what : job.Step) → Does schemas at joiner what now turn → So turn
    does_so (step.Act act) done = act_so act (acts schemas act joiner) refl (acts_keep schemas act joiner) done
    does_so step.Deliver done = deliver_so joiner.is_lost refl done
    does_so step.End done = subst So (sym done) (ended_so joiner now said)

    step_so : (line : List ℕ) → TakesStep schemas at joiner line now turn → So turn
    step_so line (inl (text, unsaid, is)) = subst So (sym is) (refused_so (Some joiner) now said at text)
    step_so line (inr (what, says, done)) = does_so what done

  header_so : (at : ℕ) (line : List ℕ) (now : List Arrival) (said : List Saying) (turn : Turn) → Holds None said now → TakesHeader schemas at room line now turn → TurnsSo None now said turn
  header_so at line now said turn holds (inl (fault, text, refuses, told, is)) = subst (TurnsSo None now said) (sym is) (refused_so None now said at text)
  header_so at line now said turn holds (inr (header, is_header, is)) =
      let version = header.version in
      subst (TurnsSo None now said) (sym is) (λ not_lost.
      subst (OnWay (new_joiner version) (said ++ hello schemas room version)) (sym holds.1)
      (subst (λ s. OnWay (new_joiner version) (s ++ hello schemas room version) coming) (sym holds.0) (way_first version)))

  line_so : (at : ℕ) (passed : Bool) (before : Progress) (line : List ℕ) (now : List Arrival) (said : List Saying) (turn : Turn) → Holds before said now
      → TakesUnless schemas at passed room before line now turn → TurnsSo before now said turn
  line_so at true before line now said turn holds is = subst (TurnsSo before now said) (sym is) (subst (λ s. Holds before s now) (sym (append-nil said)) holds)
  line_so at false None line now said turn holds takes = header_so at line now said turn holds takes
  line_so at false (Some joiner) line now said turn holds takes = step_so at joiner now said turn holds line takes

  -- ---- the first lines

  pub lines_so : (lines : List (List ℕ)) (at : ℕ) (before after : Progress) (now left : List Arrival) (said more : List Saying) → Holds before said now
      → LinesLead schemas room before at lines now after more left → Holds after (said ++ more) left
  lines_so [] at before after now left said more holds (same, none, stays) =
      subst (λ p. Holds p (said ++ more) left) (sym same)
      (subst (λ s. Holds before (said ++ s) left) (sym none)
      (subst (λ s. Holds before s left) (sym (append-nil said)) (subst (Holds before said) (sym stays) holds)))
  lines_so (line ∷ lines) at before after now left said more holds (turn, takes, next, between, is, rest, joins, leads) =
      let here : Holds next (said ++ turn.said) between = subst (λ n. Then before now said n turn.said) is (line_so at (is_passed_by line) before line now said turn holds takes) in
      subst (λ s. Holds after s left) (append_assoc said turn.said rest ∙ ap (λ s. said ++ s) (sym joins)) (lines_so lines (at + 1) next after between left (said ++ turn.said) rest here leads)

  -- ---- a whole script

  -- how the script ends that these lines make: its first lines say all that it says, and the room refuses nothing of a client that is served
  record Ends (at : ℕ) (before : Progress) (lines : List (List ℕ)) (now : List Arrival) (said : List Saying) (all : Played) : Type 0 where
    first : List (List ℕ)
    begins : BeginsWith lines first
    progress : Progress
    left : List Arrival
    leads : LinesLead schemas room before at first now progress all.said left
    done : all.by ≡ Done → (joiner : Joiner) × (progress ≡ Some joiner) × (left ≡ all.left)
    server : all.by ≡ Server → Unserved (said ++ all.said)

  module _ (at : ℕ) (before : Progress) (line : List ℕ) (lines : List (List ℕ)) (now : List Arrival) (said : List Saying) (turn : Turn) (all : Played) (takes : Takes schemas at room before line now turn) where
    -- it ends with a line
    ends_here : (by : End) (left : List Arrival) → Then before now said (ends by left) turn.said → all ≡ record { text = turn.text; said = turn.said; by = by; left = left }
        → Ends at before (line ∷ lines) now said all
    ends_here by left so same =
        let none : all.said ≡ [] = ap (λ (p : Played). p.said) same ∙ so.0 in
        let by_is : all.by ≡ by = ap (λ (p : Played). p.by) same in
        let left_is : all.left ≡ left = ap (λ (p : Played). p.left) same in
        record {
          first = [];
          begins = (line ∷ lines, refl);
          progress = before;
          left = now;
          leads = (refl, none, refl);
          done = λ d.
              let t = so.2 (sym by_is ∙ d) in
              (t.0, t.1, sym t.2 ∙ sym left_is);
          server = λ s. subst Unserved (sym (append-nil said) ∙ ap (λ more. said ++ more) (sym none)) (so.1 (sym by_is ∙ s));
        }

    -- it goes on behind a line, and ends as what the others make
    ends_behind : (next : Progress) (left : List Arrival) (rest : Played) → turn.next ≡ goes_on next left → Ends (at + 1) next lines left (said ++ turn.said) rest
        → all ≡ record { text = turn.text ++ rest.text; said = turn.said ++ rest.said; by = rest.by; left = rest.left } → Ends at before (line ∷ lines) now said all
    ends_behind next left rest is e same =
        let joins : all.said ≡ turn.said ++ rest.said = ap (λ (p : Played). p.said) same in
        let by_is : all.by ≡ rest.by = ap (λ (p : Played). p.by) same in
        let left_is : all.left ≡ rest.left = ap (λ (p : Played). p.left) same in
        record {
          first = line ∷ e.first;
          begins = (e.begins.0, ap (λ ls. line ∷ ls) e.begins.1);
          progress = e.progress;
          left = e.left;
          leads = (turn, takes, next, left, is, rest.said, joins, e.leads);
          done = λ d.
              let t = e.done (sym by_is ∙ d) in
              (t.0, t.1, t.2 ∙ sym left_is);
          server = λ s. subst Unserved (append_assoc said turn.said rest.said ∙ ap (λ more. said ++ more) (sym joins)) (e.server (sym by_is ∙ s));
        }

    follows_so : (Rest : Progress → List Arrival → Played → Type 0)
        → ((next : Progress) (left : List Arrival) (rest : Played) → Holds next (said ++ turn.said) left → Rest next left rest → Ends (at + 1) next lines left (said ++ turn.said) rest)
        → (n : Next) → turn.next ≡ n → Then before now said n turn.said → Follows turn n Rest all → Ends at before (line ∷ lines) now said all
    follows_so Rest on (ends by left) is so same = ends_here by left so same
    follows_so Rest on (goes_on next left) is so (rest, plays, same) = ends_behind next left rest is (on next left rest so plays) same

  plays_so : (unended : List ℕ) (lines : List (List ℕ)) (at : ℕ) (before : Progress) (now : List Arrival) (said : List Saying) (all : Played) → Holds before said now
      → Plays schemas room unended before at lines now all → Ends at before lines now said all
  plays_so unended [] at before now said all holds same =
      let by_is : all.by ≡ Refused = ap (λ (p : Played). p.by) same in
      record {
        first = [];
        begins = ([], refl);
        progress = before;
        left = now;
        leads = (refl, ap (λ (p : Played). p.said) same, refl);
        done = λ d. let no : Refused ≡ Done = sym by_is ∙ d in absurd (cc);
        server = λ s. let no : Refused ≡ Server = sym by_is ∙ s in absurd (cc);
      }
  plays_so unended (line ∷ lines) at before now said all holds (turn, takes, follows) =
      follows_so at before line lines now said turn all takes (λ next left rest. Plays schemas room unended next (at + 1) lines left rest)
      (λ next left rest so plays. plays_so unended lines (at + 1) next left (said ++ turn.said) rest so plays) turn.next refl
      (line_so at (is_passed_by line) before line now said turn holds takes) follows

  -- ---- all of it

  module _ (script : List ℕ) where
    module _ (joiner : Joiner) (said : List Saying) (left : List Arrival) (leads : Leads schemas room script coming (Some joiner) said left) (not_lost : joiner.is_lost ≡ false) where
      on_way : OnWay joiner said left
      on_way = lines_so leads.0 1 None (Some joiner) coming left [] said (refl, refl) leads.2 not_lost

      pub comes_so : (version : ℕ) × (way : Way) × Comes schemas version room coming way left × (way.joiner ≡ joiner) × (way.said ≡ said) × (way.fault ≡ None)
      comes_so = (on_way.0, way_at joiner said on_way.1, on_way.2, refl, refl, refl)

      pub base_so : (last : ℕ) (events : List RoomEvent) (number : ℕ) (plan : Plan) → AreLawfulTogether schemas → Legal schemas.room last events → ServesOver (events_of number events) coming said
          → schemas.room.plan_for (schemas.client joiner.state.client.version).versions ≡ Ok plan
          → joiner.state.base ≡ whole_for schemas.room plan number (records_of (up_to joiner.state.client.reached (state_of schemas.room last events).history))
      base_so last events number plan lawful legal serves planned =
          let w = on_way in
          let h = served schemas back w.0 room coming (way_at joiner said w.1) left w.2 (events_of number events) serves in
          let here = subst (Serves (events_of number events)) (sym h.1) h.2 in
          let version : joiner.state.client.version ≡ w.0 = ap (λ (way : Way). way.joiner.state.client.version) (sym h.1) ∙ version_is schemas w.0 lawful last events number legal room h.0 here in
          let planned_here = subst (λ v. schemas.room.plan_for (schemas.client v).versions ≡ Ok plan) version planned in
          subst (λ (way : Way). way.joiner.state.base ≡ whole_for schemas.room plan number (records_of (up_to way.joiner.state.client.reached (state_of schemas.room last events).history))) h.1
          (base_is schemas w.0 lawful last events number legal room h.0 here plan planned_here)

    module _ (all : Played) (plays : Joins schemas room script coming all) where
      how : Ends 1 None (recorded_lines script) coming [] all
      how = plays_so (unended_text (is_whole script)) (recorded_lines script) 1 None coming [] all (refl, refl) plays

      pub ends_so : (progress : Progress) × (left : List Arrival) × Leads schemas room script coming progress all.said left
      ends_so = (how.progress, how.left, (how.first, how.begins, how.leads))

      pub done_so : all.by ≡ Done → (joiner : Joiner) × Leads schemas room script coming (Some joiner) all.said all.left
      done_so is =
          let t = how.done is in (
            t.0,
            (
              how.first,
              how.begins,
              subst (LinesLead schemas room None 1 how.first coming (Some t.0) all.said) t.2
                  (subst (λ p. LinesLead schemas room None 1 how.first coming p all.said how.left) t.1 how.leads),
            ),
          )

      pub not_by_server : all.by ≡ Server → Unserved all.said
      not_by_server is = how.server is
