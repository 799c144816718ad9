-- What the code's calls for a line come to.
use Rattle.std.proofs.Common.{◌≡◌, ℕ, List, [], ◌∷◌, ◌++◌, Bool, true, false, Option, None, Some, Result, Ok, Err, refl, sym, ap, subst, ◌∙◌, append-nil, inl, inr}
use Rattle.std.specs.Prelude.{codes}
use Rattle.client_link.specs.Sending.{ArePut, AreBegun, Puts, PutsAll}
use Rattle.client_link.specs.declared.saying.Saying.{Saying}
use Rattle.fault_texts.specs.Texts.{line_fault_text}
use Rattle.link_texts.proofs.SendingLemmas.{tells_then, tells_more}
use Rattle.rec_format.specs.Lines.{IsHeader, RefusesHeader}
use Rattle.rec_format.specs.declared.fault.LineFault.{LineFault}
use Rattle.peer_schemas.specs.Clients.{AreOfTables}
use Rattle.room_join.specs.Hearing.{Waited, SaysNothing}
use Rattle.room_join.specs.Joiners.{Joiner, Acted, new_joiner, acts, hello, pushes, after_pushes, told_lines, after_told, end_line}
use Rattle.room_join.specs.Standing.{Stands, Answers}
use Rattle.room_join.specs.declared.act.Act.{Act}
use Rattle.room_join.specs.declared.join_line.JoinLine.{JoinLine}
use Rattle.room_join.specs.declared.joiner.Joiner as code
use Rattle.room_link.specs.Exchange.{Arrival, Exchange, Tells}
use Rattle.room_link.specs.declared.passing.Stop as link
use Rattle.room_model.specs.Schemas.{WorldSchemas}
use Rattle.room_model.specs.declared.event.Header.{Header}
use Rattle.side_effects.specs.declared.fault.EditFault.{EditFault}
use Rattle.std.specs.Global.{Vec}
use Rattle.join_job.specs.Texts.{lines_text, fault_line, is_passed_by}
use Rattle.join_job.specs.Turning.{IsRead, Reads, GoesOn, Sends, Comes}
use Rattle.join_job.specs.Turns.{Progress, ends, goes_on, Turn, refused, nothing, ended, followed, IsDone, IsHeeded, Delivers, Does, TakesHeader, TakesStep, TakesUnless, Takes}
use Rattle.join_job.specs.declared.ending.End.{End}
use Rattle.join_job.specs.declared.ending.End.TheVariants as end
use Rattle.join_job.specs.declared.ending.Stop.{Stop}
use Rattle.join_job.specs.declared.script.Reply.{Reply}
use Rattle.join_job.specs.declared.step.Step.{Step}
use Rattle.join_job.specs.declared.step.Step.TheVariants as step
use Rattle.join_job.proofs.GoingLemmas.{put_begun}

abbrev acted_of : Joiner → List JoinLine → Acted
acted_of joiner lines = record { joiner = joiner; lines = lines }

-- nothing was said
says_none : (x y : Exchange) → y.sent ≡ x.sent → Sends (ArePut []) x y
says_none x y same = ([], refl, same ∙ sym (append-nil x.sent))

module _ (schemas : WorldSchemas EditFault) (client : Option code.Joiner) where
  -- a call behind one that said nothing
  pub comes_behind : (A B : List Arrival → Turn → Type 0) (result : Result Reply Stop) (x y z : Exchange) → y.sent ≡ x.sent
      → ((turn : Turn) → A y.left turn → B x.left turn) → Comes schemas A result client y z → Comes schemas B result client x z
  comes_behind A B (Ok reply) x y z same so (turn, is, text, on, (put, are, sent)) = (turn, so turn is, text, on, (put, are, subst (λ s. z.sent ≡ s ++ put) same sent))
  comes_behind A B (Err cause) x y z same so (inl none) = inl (none ∙ same)
  comes_behind A B (Err cause) x y z same so (inr (turn, is, (put, begun, sent))) = inr (turn, so turn is, (put, begun, subst (λ s. z.sent ≡ s ++ put) same sent))

  -- the script ends
  pub comes_to_end : (A : List Arrival → Turn → Type 0) (reply : Reply) (turn : Turn) (by : End) (x y : Exchange) → y.sent ≡ x.sent → A x.left turn → turn.said ≡ [] → turn.next ≡ ends by y.left
      → reply.text.items ≡ turn.text → reply.end ≡ Some by → Comes schemas A (Ok reply) client x y
  comes_to_end A reply turn by x y same is none next text told = (
    turn,
    is,
    text,
    subst (λ n. GoesOn schemas n reply.end client y.left) (sym next) (subst (λ e. GoesOn schemas (ends by y.left) e client y.left) (sym told) (refl, refl)),
    subst (λ s. Sends (ArePut s) x y) (sym none) (says_none x y same),
  )

-- a call that said nothing gave no reply
pub cut_off : (P : Exchange → Exchange → Type 0) (told : Option Exchange) → ((x : Exchange) → P x x) → Tells P told told
cut_off P None so = tt
cut_off P (Some x) so = so x

-- what a call says under a premise, and always that it says nothing
pub tells_under : {A : Type 0} (Q : Exchange → Exchange → Type 0) (P : A → Exchange → Exchange → Type 0) (old new : Option Exchange) → Tells Q old new → ((a : A) → Tells (P a) old new)
    → Tells (λ x y. Q x y × ((a : A) → P a x y)) old new
tells_under Q P old None always under = tt
tells_under Q P None (Some y) always under = absurd always
tells_under Q P (Some x) (Some y) always under = (always, under)

-- ---- a client that says its pushes and tells its views

-- it comes to what follows for the client that it stood for
abbrev pub FollowsTo : code.Joiner → List JoinLine → Result Reply Stop → code.Joiner → Exchange → Exchange → Type 0
FollowsTo start lines result now x y =
    (schemas : WorldSchemas EditFault) (client : Joiner) → Stands schemas client start
    → Comes schemas (λ coming turn. turn ≡ followed schemas (record { joiner = client; lines = lines }) coming) result (Some now) x y

-- what it said are its pushes
abbrev pub SaysPushes : code.Joiner → List Saying → code.Joiner → Type 0
SaysPushes start said mid =
    (schemas : WorldSchemas EditFault) (client : Joiner) → Stands schemas client start → (said ≡ pushes schemas client) × Stands schemas (after_pushes schemas client) mid

-- what it printed are the lines with what it told
abbrev pub TellsViews : code.Joiner → List JoinLine → List JoinLine → code.Joiner → Type 0
TellsViews mid lines all now =
    (schemas : WorldSchemas EditFault) (client : Joiner) → Stands schemas client mid → (all ≡ lines ++ told_lines schemas client) × Stands schemas (after_told schemas client) now

module _ (start mid now : code.Joiner) (lines : List JoinLine) (said : List Saying) where
  pub followed_whole : {A : Type 0} (done : A) (all : List JoinLine) (reply : Reply) (old new : Option Exchange) → SaysPushes start said mid → Tells (PutsAll {S = link.Stop} (ArePut said) (AreBegun said) (Ok done)) old new
      → TellsViews mid lines all now → reply.text.items ≡ lines_text all → reply.end ≡ None → Tells (FollowsTo start lines (Ok reply) now) old new
  followed_whole done all reply old new says puts tells text goes =
      tells_more {A = Puts (ArePut said)} {B = FollowsTo start lines (Ok reply) now} old new puts
      (λ x y put schemas client stands.
      let s = says schemas client stands in
      let t = tells schemas (after_pushes schemas client) s.1 in (
        followed schemas (record { joiner = client; lines = lines }) x.left,
        refl,
        text ∙ ap lines_text t.0,
        subst (λ e. GoesOn schemas (goes_on (Some (after_told schemas (after_pushes schemas client))) x.left) e (Some now) y.left) (sym goes) (t.1, ap (λ (e : Exchange). e.left) put.2),
        (put.0, subst (λ l. ArePut l put.0) s.0 put.1, ap (λ (e : Exchange). e.sent) put.2),
      ))

  followed_some : (cause : Stop) (old new : Option Exchange) → SaysPushes start said mid → Tells (Puts (AreBegun said)) old new → Tells (FollowsTo start lines (Err cause) now) old new
  followed_some cause old new says puts =
      tells_more {A = Puts (AreBegun said)} {B = FollowsTo start lines (Err cause) now} old new puts
      (λ x y put schemas client stands.
      let s = says schemas client stands in
      inr (followed schemas (record { joiner = client; lines = lines }) x.left, refl, (put.0, subst (λ l. AreBegun l put.0) s.0 put.1, ap (λ (e : Exchange). e.sent) put.2)))

  -- sending was cut off
  pub followed_begun : (A : Type 0) (why : link.Stop) (cause : Stop) (old new : Option Exchange) → SaysPushes start said mid → Tells (PutsAll {A = A} (ArePut said) (AreBegun said) (Err why)) old new
      → Tells (FollowsTo start lines (Err cause) now) old new
  followed_begun A why cause old new says puts = followed_some cause old new says puts

  -- all was sent, and then it was cut off
  pub followed_said : {A : Type 0} (done : A) (cause : Stop) (old new : Option Exchange) → SaysPushes start said mid → Tells (PutsAll {S = link.Stop} (ArePut said) (AreBegun said) (Ok done)) old new
      → Tells (FollowsTo start lines (Err cause) now) old new
  followed_said done cause old new says puts =
      followed_some cause old new says (tells_more {A = Puts (ArePut said)} {B = Puts (AreBegun said)} old new puts (λ x y put. (put.0, put_begun said put.0 put.1, put.2)))

-- ---- what a client does

module _ (at : ℕ) where
  -- an act was done
  pub acted : (act : Act) (start mid now : code.Joiner) (lines : Vec JoinLine) (result : Result Reply Stop) (old new : Option Exchange)
      → ((schemas : WorldSchemas EditFault) (client : Joiner) → Stands schemas client start → Answers schemas (acts schemas act client) (Ok lines) mid)
      → Tells (FollowsTo mid lines.items result now) old new
      → Tells (λ x y. (schemas : WorldSchemas EditFault) (client : Joiner) → Stands schemas client start → Comes schemas (IsDone schemas at (acts schemas act client)) result (Some now) x y) old new
  acted act start mid now lines result old new answers follows =
      tells_more {A = FollowsTo mid lines.items result now} old new follows
      (λ x y so schemas client stands.
      let a = answers schemas client stands in
      let same : acted_of a.0.joiner lines.items ≡ a.0 = ap (acted_of a.0.joiner) a.2 in
      comes_behind schemas (Some now) (λ coming turn. turn ≡ followed schemas (record { joiner = a.0.joiner; lines = lines.items }) coming) (IsDone schemas at (acts schemas act client)) result x x y refl
      (λ turn is. subst (λ o. IsDone schemas at o x.left turn) (sym a.1) (is ∙ ap (λ m. followed schemas m x.left) same))
      (so schemas a.0.joiner a.3))

  -- an act can't be done
  pub not_acted : (act : Act) (start mid now : code.Joiner) (text : List ℕ) (reply : Reply) (told : Option Exchange)
      → ((schemas : WorldSchemas EditFault) (client : Joiner) → Stands schemas client start → Answers schemas (acts schemas act client) (Err text) mid)
      → reply.text.items ≡ fault_line at text → reply.end ≡ Some end.Refused
      → Tells (λ x y. (schemas : WorldSchemas EditFault) (client : Joiner) → Stands schemas client start → Comes schemas (IsDone schemas at (acts schemas act client)) (Ok reply) (Some now) x y) told told
  not_acted act start mid now text reply told answers is by =
      cut_off _ told (λ x schemas client stands.
      let a = answers schemas client stands in
      comes_to_end schemas (Some now) (IsDone schemas at (acts schemas act client)) reply (refused end.Refused at text x.left) end.Refused x x refl
      (subst (λ o. IsDone schemas at o x.left (refused end.Refused at text x.left)) (sym a.1) (text, a.2, refl)) refl refl is by)

  abbrev pub DeliversTo : code.Joiner → Result Reply Stop → code.Joiner → Exchange → Exchange → Type 0
  DeliversTo start result now x y =
      (schemas : WorldSchemas EditFault) (client : Joiner) → Stands schemas client start → Comes schemas (Delivers schemas at client.is_lost client) result (Some now) x y

  abbrev IsLostAs : code.Joiner → Bool → Type 0
  IsLostAs start lost = (schemas : WorldSchemas EditFault) (client : Joiner) → Stands schemas client start → lost ≡ client.is_lost

  -- what was waited for, and that nothing was said meanwhile
  abbrev WaitsFor : code.Joiner → Result (Result (Vec JoinLine) (List ℕ)) link.Stop → code.Joiner → Option Exchange → Option Exchange → Type 0
  WaitsFor start delivery mid old new =
      Tells SaysNothing old new × ((schemas : WorldSchemas EditFault) (client : Joiner) → Stands schemas client start → Tells (Waited schemas client delivery mid) old new)

  abbrev Under : code.Joiner → Type 0
  Under start = (schemas : WorldSchemas EditFault) × (client : Joiner) × Stands schemas client start

  abbrev WaitedHere : code.Joiner → Result (Result (Vec JoinLine) (List ℕ)) link.Stop → code.Joiner → Exchange → Exchange → Type 0
  WaitedHere start delivery mid x y = SaysNothing x y × ((u : Under start) → Waited u.0 u.1 delivery mid x y)

  waited_here : (start mid : code.Joiner) (delivery : Result (Result (Vec JoinLine) (List ℕ)) link.Stop) (old new : Option Exchange) → WaitsFor start delivery mid old new → Tells (WaitedHere start delivery mid) old new
  waited_here start mid delivery old new waits =
      tells_under {A = Under start} SaysNothing (λ u x y. Waited u.0 u.1 delivery mid x y) old new waits.0 (λ u. waits.1 u.0 u.1 u.2)

  -- a message was taken, or the wait ended otherwise
  pub delivered : (start mid now : code.Joiner) (lost : Bool) (lines : Vec JoinLine) (result : Result Reply Stop) (old between new : Option Exchange)
      → IsLostAs start lost → lost ≡ false → WaitsFor start (Ok (Ok lines)) mid old between → Tells (FollowsTo mid lines.items result now) between new → Tells (DeliversTo start result now) old new
  delivered start mid now lost lines result old between new is_lost not_lost waits follows =
      tells_then {A = WaitedHere start (Ok (Ok lines)) mid} {B = FollowsTo mid lines.items result now} {C = DeliversTo start result now} old between new
      (waited_here start mid (Ok (Ok lines)) old between waits) follows
      (λ x y z waited so schemas client stands.
      let w = waited.1 (schemas, client, stands) in
      let heeds = w.3 in
      let made = heeds.0 in
      let same : acted_of made.joiner lines.items ≡ made = ap (acted_of made.joiner) heeds.2 in
      let lost_is : client.is_lost ≡ false = sym (is_lost schemas client stands) ∙ not_lost in
      comes_behind schemas (Some now) (λ coming turn. turn ≡ followed schemas (record { joiner = made.joiner; lines = lines.items }) coming) (Delivers schemas at client.is_lost client) result x y z waited.0
      (λ turn is. subst (λ b. Delivers schemas at b client x.left turn) (sym lost_is)
      (w.0, w.1, y.left, w.2, subst (λ o. IsHeeded schemas at o y.left turn) (sym heeds.1) (is ∙ ap (λ m. followed schemas m y.left) same)))
      (so schemas made.joiner heeds.3))

  -- what came is refused
  pub not_delivered : (start mid now : code.Joiner) (lost : Bool) (text : List ℕ) (reply : Reply) (old new : Option Exchange)
      → IsLostAs start lost → lost ≡ false → WaitsFor start (Ok (Err text)) mid old new → reply.text.items ≡ fault_line at text → reply.end ≡ Some end.Server
      → Tells (DeliversTo start (Ok reply) now) old new
  not_delivered start mid now lost text reply old new is_lost not_lost waits is by =
      tells_more {A = WaitedHere start (Ok (Err text)) mid} {B = DeliversTo start (Ok reply) now} old new (waited_here start mid (Ok (Err text)) old new waits)
      (λ x y waited schemas client stands.
      let w = waited.1 (schemas, client, stands) in
      let lost_is : client.is_lost ≡ false = sym (is_lost schemas client stands) ∙ not_lost in
      comes_to_end schemas (Some now) (Delivers schemas at client.is_lost client) reply (refused end.Server at text y.left) end.Server x y waited.0
      (subst (λ b. Delivers schemas at b client x.left (refused end.Server at text y.left)) (sym lost_is)
      (w.0, w.1, y.left, w.2, subst (λ o. IsHeeded schemas at o y.left (refused end.Server at text y.left)) (sym w.3) (text, refl, refl))) refl refl is by)

  -- the wait was cut off, or what comes after it was before anything was said
  pub wait_cut_off : (start mid now : code.Joiner) (cause : Stop) (old new : Option Exchange) → Tells SaysNothing old new → Tells (DeliversTo start (Err cause) now) old new
  wait_cut_off start mid now cause old new none =
      tells_more {A = SaysNothing} {B = DeliversTo start (Err cause) now} old new none (λ x y same schemas client stands. inl same)

  -- a client waits for nothing whose link has ended
  pub waits_no_more : (start now : code.Joiner) (lost : Bool) (text : List ℕ) (reply : Reply) (told : Option Exchange)
      → IsLostAs start lost → lost ≡ true → text ≡ codes "NoSuchSession" → reply.text.items ≡ fault_line at text → reply.end ≡ Some end.Refused → Tells (DeliversTo start (Ok reply) now) told told
  waits_no_more start now lost text reply told is_lost was name is by =
      cut_off _ told (λ x schemas client stands.
      let lost_is : client.is_lost ≡ true = sym (is_lost schemas client stands) ∙ was in
      comes_to_end schemas (Some now) (Delivers schemas at client.is_lost client) reply (refused end.Refused at (codes "NoSuchSession") x.left) end.Refused x x refl
      (subst (λ b. Delivers schemas at b client x.left (refused end.Refused at (codes "NoSuchSession") x.left)) (sym lost_is) refl) refl refl (is ∙ ap (fault_line at) name) by)

  -- the script is at its end
  pub at_end : (start now : code.Joiner) (lines : List JoinLine) (reply : Reply) (told : Option Exchange)
      → ((schemas : WorldSchemas EditFault) (client : Joiner) → Stands schemas client start → lines ≡ end_line client ∷ [])
      → reply.text.items ≡ lines_text lines → reply.end ≡ Some end.Done
      → Tells (λ x y. (schemas : WorldSchemas EditFault) (client : Joiner) → Stands schemas client start → Comes schemas (Does schemas at client step.End) (Ok reply) (Some now) x y) told told
  at_end start now lines reply told is text by =
      cut_off _ told (λ x schemas client stands.
      comes_to_end schemas (Some now) (Does schemas at client step.End) reply (ended client x.left) end.Done x x refl refl refl refl (text ∙ ap lines_text (is schemas client stands)) by)

  -- ---- a line

  -- a line says what is done
  pub taken : (line : List ℕ) (what : Step) (start now : code.Joiner) (result : Result Reply Stop) (old new : Option Exchange) → IsRead line (Ok what)
      → Tells (λ x y. (schemas : WorldSchemas EditFault) (client : Joiner) → Stands schemas client start → Comes schemas (Does schemas at client what) result (Some now) x y) old new
      → Tells (λ x y. (schemas : WorldSchemas EditFault) (client : Joiner) → Stands schemas client start → Comes schemas (TakesStep schemas at client line) result (Some now) x y) old new
  taken line what start now result old new says does =
      tells_more {A = λ x y. (schemas : WorldSchemas EditFault) (client : Joiner) → Stands schemas client start → Comes schemas (Does schemas at client what) result (Some now) x y} old new does
      (λ x y so schemas client stands.
      comes_behind schemas (Some now) (Does schemas at client what) (TakesStep schemas at client line) result x x y refl (λ turn is. inr (what, says, is)) (so schemas client stands))

  -- a line says nothing
  pub not_taken : (line text : List ℕ) (start now : code.Joiner) (reply : Reply) (told : Option Exchange) → IsRead line (Err text) → reply.text.items ≡ fault_line at text → reply.end ≡ Some end.Refused
      → Tells (λ x y. (schemas : WorldSchemas EditFault) (client : Joiner) → Stands schemas client start → Comes schemas (TakesStep schemas at client line) (Ok reply) (Some now) x y) told told
  not_taken line text start now reply told unsaid is by =
      cut_off _ told (λ x schemas client stands.
      comes_to_end schemas (Some now) (TakesStep schemas at client line) reply (refused end.Refused at text x.left) end.Refused x x refl (inl (text, unsaid, refl)) refl refl is by)

  module _ (room : ℕ) (line : List ℕ) where
    abbrev pub HeaderTo : Result Reply Stop → Option code.Joiner → Exchange → Exchange → Type 0
    HeaderTo result now x y = (schemas : WorldSchemas EditFault) → AreOfTables schemas → Comes schemas (TakesHeader schemas at room line) result now x y

    -- what a client says that joins
    abbrev SaysHello : ℕ → List Saying → Type 0
    SaysHello version said = (schemas : WorldSchemas EditFault) → AreOfTables schemas → said ≡ hello schemas room version

    -- the line is a header, and its client joins
    pub joined : {A : Type 0} (done : A) (header : Header) (joiner : code.Joiner) (said : List Saying) (reply : Reply) (now : Option code.Joiner) (old new : Option Exchange) → IsHeader line header
        → ((schemas : WorldSchemas EditFault) → AreOfTables schemas → Stands schemas (new_joiner header.version) joiner) → SaysHello header.version said
        → Tells (PutsAll {S = link.Stop} (ArePut said) (AreBegun said) (Ok done)) old new → reply.text.items ≡ [] → reply.end ≡ None → now ≡ Some joiner → Tells (HeaderTo (Ok reply) now) old new
    joined done header joiner said reply now old new is stands says puts text goes now_is =
        tells_more {A = Puts (ArePut said)} {B = HeaderTo (Ok reply) now} old new puts
        (λ x y put schemas tables. (
          record { text = []; said = hello schemas room header.version; next = goes_on (Some (new_joiner header.version)) x.left },
          inr (header, is, refl),
          text,
          subst (λ e. GoesOn schemas (goes_on (Some (new_joiner header.version)) x.left) e now y.left) (sym goes)
              (subst (Reads schemas (Some (new_joiner header.version))) (sym now_is) (stands schemas tables), ap (λ (e : Exchange). e.left) put.2),
          (put.0, subst (λ l. ArePut l put.0) (says schemas tables) put.1, ap (λ (e : Exchange). e.sent) put.2),
        ))

    -- its client has begun to join
    pub join_begun : (A : Type 0) (why : link.Stop) (cause : Stop) (header : Header) (said : List Saying) (now : Option code.Joiner) (old new : Option Exchange) → IsHeader line header
        → SaysHello header.version said → Tells (PutsAll {A = A} (ArePut said) (AreBegun said) (Err why)) old new → Tells (HeaderTo (Err cause) now) old new
    join_begun A why cause header said now old new is says puts =
        tells_more {A = Puts (AreBegun said)} {B = HeaderTo (Err cause) now} old new puts
        (λ x y put schemas tables. inr (
          record { text = []; said = hello schemas room header.version; next = goes_on (Some (new_joiner header.version)) x.left },
          inr (header, is, refl),
          (put.0, subst (λ l. AreBegun l put.0) (says schemas tables) put.1, ap (λ (e : Exchange). e.sent) put.2),
        ))

    -- the line is no header
    pub not_joined : (fault : LineFault) (text : List ℕ) (reply : Reply) (now : Option code.Joiner) (told : Option Exchange) → RefusesHeader line fault → line_fault_text fault ≡ Some text
        → reply.text.items ≡ fault_line at text → reply.end ≡ Some end.Refused → Tells (HeaderTo (Ok reply) now) told told
    not_joined fault text reply now told refuses name is by =
        cut_off _ told (λ x schemas tables.
        comes_to_end schemas now (TakesHeader schemas at room line) reply (refused end.Refused at text x.left) end.Refused x x refl (inl (fault, text, refuses, name, refl)) refl refl is by)

    abbrev pub LineTo : Option code.Joiner → Result Reply Stop → Option code.Joiner → Exchange → Exchange → Type 0
    LineTo before result now x y =
        (schemas : WorldSchemas EditFault) → AreOfTables schemas → (progress : Progress) → Reads schemas progress before → Comes schemas (Takes schemas at room progress line) result now x y

    -- the line is passed by
    pub passes_by : (client : Option code.Joiner) (reply : Reply) (told : Option Exchange) → is_passed_by line ≡ true → reply.text.items ≡ [] → reply.end ≡ None → Tells (LineTo client (Ok reply) client) told told
    passes_by client reply told passes text goes =
        cut_off _ told (λ x schemas tables progress reads. (
          nothing progress x.left,
          subst (λ b. TakesUnless schemas at b room progress line x.left (nothing progress x.left)) (sym passes) refl,
          text,
          subst (λ e. GoesOn schemas (goes_on progress x.left) e client x.left) (sym goes) (reads, refl),
          says_none x x refl,
        ))

    -- the line is to be the header
    pub first_taken : (before : Option code.Joiner) (result : Result Reply Stop) (now : Option code.Joiner) (old new : Option Exchange) → is_passed_by line ≡ false → before ≡ None
        → Tells (HeaderTo result now) old new → Tells (LineTo before result now) old new
    first_taken before result now old new stays none takes =
        tells_more {A = HeaderTo result now} {B = LineTo before result now} old new takes
        (λ x y so schemas tables progress reads. by x y schemas progress (subst (Reads schemas progress) none reads) (so schemas tables))
      where
        by : (x y : Exchange) (schemas : WorldSchemas EditFault) (progress : Progress) → Reads schemas progress None → Comes schemas (TakesHeader schemas at room line) result now x y
            → Comes schemas (Takes schemas at room progress line) result now x y
        by x y schemas (Some joiner) reads comes = absurd reads
        by x y schemas None reads comes =
            comes_behind schemas now (TakesHeader schemas at room line) (Takes schemas at room None line) result x x y refl
            (λ turn is. subst (λ b. TakesUnless schemas at b room None line x.left turn) (sym stays) is) comes

    -- the line is a later one
    pub later_taken : (before : Option code.Joiner) (start now : code.Joiner) (result : Result Reply Stop) (after : Option code.Joiner) (old new : Option Exchange) → is_passed_by line ≡ false → before ≡ Some start → after ≡ Some now
        → Tells (λ x y. (schemas : WorldSchemas EditFault) (client : Joiner) → Stands schemas client start → Comes schemas (TakesStep schemas at client line) result (Some now) x y) old new
        → Tells (LineTo before result after) old new
    later_taken before start now result after old new stays some then takes =
        tells_more {A = λ x y. (schemas : WorldSchemas EditFault) (client : Joiner) → Stands schemas client start → Comes schemas (TakesStep schemas at client line) result (Some now) x y}
        {B = LineTo before result after} old new takes
        (λ x y so schemas tables progress reads. subst (λ a. Comes schemas (Takes schemas at room progress line) result a x y) (sym then) (by x y schemas progress (subst (Reads schemas progress) some reads) so))
      where
        by : (x y : Exchange) (schemas : WorldSchemas EditFault) (progress : Progress) → Reads schemas progress (Some start)
            → ((schemas : WorldSchemas EditFault) (client : Joiner) → Stands schemas client start → Comes schemas (TakesStep schemas at client line) result (Some now) x y)
            → Comes schemas (Takes schemas at room progress line) result (Some now) x y
        by x y schemas None reads so = absurd reads
        by x y schemas (Some joiner) reads so =
            comes_behind schemas (Some now) (TakesStep schemas at joiner line) (Takes schemas at room (Some joiner) line) result x x y refl
            (λ turn is. subst (λ b. TakesUnless schemas at b room (Some joiner) line x.left turn) (sym stays) is) (so schemas joiner reads)
