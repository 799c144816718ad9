-- That waits give the messages whose pieces come.
use Rattle.std.proofs.Common.{◌≡◌, ◌⊎◌, inl, inr, ℕ, zero, suc, ◌+◌, ◌%◌, ◌<◌, ◌≤◌, nat_le, Bool, true, false, cond, List, [], ◌∷◌, ◌++◌, length, Option, Some, None, Result, Ok, Err, refl, sym, ap, subst, ◌∙◌}
use Rattle.std.specs.Prelude.{IsUtf8}
use Rattle.std.specs.Option.{option_map_or}
use Rattle.client_link.specs.Hearing as from_room
use Rattle.client_link.specs.Hearing.{IsHeard, Refuses}
use Rattle.client_link.specs.Waiting.{SayNothing, Hears, EndsWith, Waits}
use Rattle.client_link.specs.declared.hearing.TheConstants.{LONGEST_REPLY}
use Rattle.client_link.specs.declared.waiting.Heard.{Heard}
use Rattle.client_link.specs.declared.waiting.Heard.TheVariants as heard
use Rattle.link_texts.specs.Hearing.{IsPiece}
use Rattle.link_texts.specs.declared.fault.WireFault.{WireFault}
use Rattle.link_texts.specs.declared.fault.WireFault.TheVariants as wire
use Rattle.room_link.specs.Exchange.{Arrival, text, idle}
use Rattle.rooms_val.specs.Data.{Data}
use Rattle.rooms_val.specs.Json.{text_of}
use Rattle.rooms_val.specs.declared.fault.ValFault.{ValFault}
use Rattle.sync_msgs.specs.declared.server_message.ServerMessage.{ServerMessage}
use Rattle.wire_msgs.specs.Messages.{server_val}
use Rattle.wire_msgs.specs.Readings.{IsServer, RefusesServer}
use Rattle.wire_msgs.specs.declared.fault.MsgFault.{MsgFault}
use Rattle.wire_msgs.specs.declared.fault.MsgFault.TheVariants as msg_fault
use Rattle.wire_msgs.proofs.OneEachLemmas.{one_server}
use Rattle.wire_msgs.proofs.ReadsLemmas.{reads_server}
use Rattle.wire_text.specs.Feeding.{PieceTree, whole, Says, Assembly, empty, to_come, turn_fault, joined, given_within, given, gathered_at, after}
use Rattle.wire_text.specs.Streams.{AreSaid, Gives, PiecesComeBack}
use Rattle.wire_text.specs.declared.fault.PieceFault.{PieceFault}
use Rattle.wire_text.specs.declared.fault.PieceFault.TheVariants.{TooLong}
use Rattle.wire_text.proofs.PieceLemmas.{says_one}
use Rattle.join_laws.specs.Texts.{texts_in, AreUtf8, AllPieces, AreDue, GivesNext}

-- the text of a message begins with a bracket
begins : (message : ServerMessage) → (rest : List ℕ) × (text_of (server_val message) ≡ 123 ∷ rest)
begins message = (_, refl)

-- messages are due by their pieces
pub due_by_pieces : PiecesComeBack → (messages : List ServerMessage) (texts : List (List ℕ)) → AllPieces messages texts → AreDue (empty LONGEST_REPLY) texts messages
due_by_pieces pieces_come_back [] texts none = none
due_by_pieces pieces_come_back (message ∷ messages) texts are =
    let p = are.3 in
    let b = begins message in
    let back = pieces_come_back LONGEST_REPLY (text_of (server_val message)) b.0 are.0 b.1 p.short p.few p.cut in
    (are.0, are.1, are.2, record { said = back.0; whole = text_of (server_val message); are = back.1; utf8 = p.utf8; gives = back.2; reads = p.reads }, due_by_pieces pieces_come_back messages are.1 are.4)

-- a text is that of one message
same_message : (bytes : List ℕ) (a b : ServerMessage) → IsServer bytes a → IsServer bytes b → a ≡ b
same_message bytes a b is of_ =
    let same : ◌≡◌ {A = Result Data ValFault} (Ok (server_val a)) (Ok (server_val b)) = sym is.0 ∙ of_.0 in
    one_server a b (cc)

-- what stands for a message isn't refused
not_refused : (bytes : List ℕ) (message : ServerMessage) (f : MsgFault) → IsServer bytes message → RefusesServer bytes f → f ≡ msg_fault.OutOfMemory
not_refused bytes message f is refused = reads_server bytes (Err f) tt refused message is

-- after the last piece nothing is gathered
gives_last : (limit n : ℕ) (bytes t : List ℕ) → given_within limit n bytes ≡ Ok (Some t) → n ≡ 0
gives_last limit zero bytes t is = refl
gives_last limit (suc n) bytes t is =
    elim (nat_le (length bytes) limit) as (λ (b : Bool). cond {A = Result (Option (List ℕ)) PieceFault} b (Ok None) (Err TooLong) ≡ Ok (Some t) → suc n ≡ 0) [ true ↦ λ is. absurd (cc) | false ↦ λ is. absurd (cc) ] is

after_last : (before : Assembly) (p : PieceTree) (t : List ℕ) → given before p ≡ Ok (Some t) → after before p ≡ empty before.limit
after_last before p t is =
    let last : to_come p ≡ 0 =
    elim (turn_fault before.gathered p) as (λ (o : Option PieceFault). option_map_or Err o (given_within before.limit (to_come p) (joined before.gathered p)) ≡ Ok (Some t) → to_come p ≡ 0) [
      | None ↦ λ is. gives_last before.limit (to_come p) (joined before.gathered p) t is
      | Some fault ↦ λ is. absurd (cc)
    ] is in
    ap (λ n. record { limit = before.limit; gathered = gathered_at n (joined before.gathered p) }) last

-- what is due after a text that says no message
record IsOn (before : Assembly) (bytes : List ℕ) (texts : List (List ℕ)) (messages : List ServerMessage) : Type 0 where
  piece : PieceTree
  is : IsPiece bytes piece
  gives : (given before piece ≡ Ok None) × AreDue (after before piece) texts messages

record IsOver (before : Assembly) (bytes : List ℕ) (texts : List (List ℕ)) (messages : List ServerMessage) : Type 0 where
  piece : PieceTree
  is : IsPiece bytes piece
  message : ServerMessage
  rest : List ServerMessage
  are : messages ≡ message ∷ rest
  whole_text : List ℕ
  gives : given before piece ≡ Ok (Some whole_text)
  reads : IsServer whole_text message
  due : AreDue (after before piece) texts rest

-- the first text of what is due completes the next message, or says none yet
module _ (before : Assembly) (bytes : List ℕ) (texts : List (List ℕ)) (messages : List ServerMessage) where
  abbrev Goes : Type 0
  Goes = IsOn before bytes texts messages ⊎ IsOver before bytes texts messages

  first_due : (message : ServerMessage) (more : List ServerMessage) → messages ≡ message ∷ more → (first rest : List (List ℕ)) → first ++ rest ≡ texts
      → (p : PieceTree) (said : List PieceTree) (whole_text : List ℕ) → Says p bytes → IsUtf8 bytes → AreSaid said first → AreUtf8 first → Gives before (p ∷ said) whole_text → IsServer whole_text message
      → AreDue (empty before.limit) rest more → Goes
  first_due message more are [] rest is p [] whole_text says utf8 said all gives reads due =
      inr (record {
        piece = p;
        is = record { utf8 = utf8; says = says };
        message = message;
        rest = more;
        are = are;
        whole_text = whole_text;
        gives = gives;
        reads = reads;
        due = subst (λ a. AreDue a texts more) (sym (after_last before p whole_text gives)) (subst (λ ts. AreDue (empty before.limit) ts more) is due);
      })
  first_due message more are (x ∷ first) rest is p [] whole_text says utf8 said all gives reads due = absurd said
  first_due message more are [] rest is p (q ∷ said) whole_text says utf8 are_said all gives reads due = absurd are_said
  first_due message more are (x ∷ first) rest is p (q ∷ said) whole_text says utf8 are_said all gives reads due =
      inl (record {
        piece = p;
        is = record { utf8 = utf8; says = says };
        gives = (
          gives.0,
          subst (AreDue (after before p) texts) (sym are)
              (x ∷ first, rest, is, record { said = q ∷ said; whole = whole_text; are = are_said; utf8 = all; gives = gives.1; reads = reads }, due),
        );
      })

  due_split : (message : ServerMessage) (more : List ServerMessage) → messages ≡ message ∷ more → (first rest : List (List ℕ)) → first ++ rest ≡ bytes ∷ texts
      → (said : List PieceTree) (whole_text : List ℕ) → AreSaid said first → AreUtf8 first → Gives before said whole_text → IsServer whole_text message → AreDue (empty before.limit) rest more → Goes
  due_split message more are first rest is [] whole_text said all gives reads due = absurd gives
  due_split message more are [] rest is (p ∷ said) whole_text are_said all gives reads due = absurd are_said
  due_split message more are (x ∷ first) rest is (p ∷ said) whole_text are_said all gives reads due =
      let head : x ≡ bytes = cc in
      let tail : first ++ rest ≡ texts = cc in
      first_due message more are first rest tail p said whole_text (subst (Says p) head are_said.0) (subst IsUtf8 head all.0) are_said.1 all.1 gives reads due

  due_goes : (ms : List ServerMessage) → messages ≡ ms → AreDue before (bytes ∷ texts) ms → Goes
  due_goes [] are due = absurd (cc)
  due_goes (message ∷ more) are due =
      let c = due.3 in
      due_split message more are due.0 due.1 due.2 c.said c.whole c.are c.utf8 c.gives c.reads due.4

  -- a text that says no message leaves what is due
  nothing_leaves : (next : Assembly) → IsHeard before bytes None next → Goes → AreDue next texts messages
  nothing_leaves next h (inl on) =
      let same : h.piece ≡ on.piece = says_one h.piece on.piece bytes h.is.says on.is.says in
      subst (λ a. AreDue a texts messages) (sym (h.now_is ∙ ap (after before) same)) on.gives.1
  nothing_leaves next h (inr over) =
      let same : h.piece ≡ over.piece = says_one h.piece over.piece bytes h.is.says over.is.says in
      absurd (subst (λ r. from_room.Completes r None) (ap (given before) same ∙ over.gives) h.completes)

  -- a text that completes a message is the next one's
  message_next : (message : ServerMessage) (now : Assembly) → IsHeard before bytes (Some message) now → Goes → GivesNext (heard.Message message) now texts messages
  message_next message now h (inl on) =
      let same : h.piece ≡ on.piece = says_one h.piece on.piece bytes h.is.says on.is.says in
      absurd (subst (λ r. from_room.Completes r (Some message)) (ap (given before) same ∙ on.gives.0) h.completes)
  message_next message now h (inr over) =
      let same : h.piece ≡ over.piece = says_one h.piece over.piece bytes h.is.says over.is.says in
      let reads : IsServer over.whole_text message = subst (λ r. from_room.Completes r (Some message)) (ap (given before) same ∙ over.gives) h.completes in
      let next : over.message ≡ message = same_message over.whole_text over.message message over.reads reads in
      (over.rest, over.are ∙ ap (λ m. m ∷ over.rest) next, subst (λ a. AreDue a texts over.rest) (sym (h.now_is ∙ ap (after before) same)) over.due)

  -- no text is refused
  not_given : (piece : PieceTree) (fault : PieceFault) → IsPiece bytes piece → given before piece ≡ Err fault → Goes → ⊥
  not_given piece fault is refused (inl on) =
      let same : piece ≡ on.piece = says_one piece on.piece bytes is.says on.is.says in
      let e : ◌≡◌ {A = Result (Option (List ℕ)) PieceFault} (Err fault) (Ok None) = sym refused ∙ ap (given before) same ∙ on.gives.0 in
      absurd (cc)
  not_given piece fault is refused (inr over) =
      let same : piece ≡ over.piece = says_one piece over.piece bytes is.says over.is.says in
      let e : ◌≡◌ {A = Result (Option (List ℕ)) PieceFault} (Err fault) (Ok (Some over.whole_text)) = sym refused ∙ ap (given before) same ∙ over.gives in
      absurd (cc)

  some_piece : Goes → (piece : PieceTree) × IsPiece bytes piece
  some_piece (inl on) = (on.piece, on.is)
  some_piece (inr over) = (over.piece, over.is)

  none_refused : (fault : WireFault) → Refuses before bytes fault → Goes → ⊥
  none_refused wire.Join refused goes = absurd refused
  none_refused (wire.Piece fault) (inl none) goes = let p = some_piece goes in absurd (none.0 p.0 p.1)
  none_refused (wire.Piece fault) (inr other) goes = not_given other.0 fault other.1 other.2 goes
  none_refused (wire.Message fault) refused (inl on) =
      let same : refused.piece ≡ on.piece = says_one refused.piece on.piece bytes refused.is.says on.is.says in
      let e : ◌≡◌ {A = Result (Option (List ℕ)) PieceFault} (Ok (Some refused.text)) (Ok None) = sym refused.completes ∙ ap (given before) same ∙ on.gives.0 in
      absurd (cc)
  none_refused (wire.Message fault) refused (inr over) =
      let same : refused.piece ≡ over.piece = says_one refused.piece over.piece bytes refused.is.says over.is.says in
      let e : ◌≡◌ {A = Result (Option (List ℕ)) PieceFault} (Ok (Some refused.text)) (Ok (Some over.whole_text)) = sym refused.completes ∙ ap (given before) same ∙ over.gives in
      let bytes_are : refused.text ≡ over.whole_text = cc in
      absurd (refused.cause (not_refused over.whole_text over.message fault over.reads (subst (λ t. RefusesServer t fault) bytes_are refused.refused)))

-- what is due once nothing was said
still_due : (arrivals rest : List Arrival) (messages : List ServerMessage) (before kept : Assembly) → AreDue before (texts_in (arrivals ++ rest)) messages → SayNothing before arrivals kept → AreDue kept (texts_in rest) messages
still_due [] rest messages before kept due same = subst (λ a. AreDue a (texts_in rest) messages) (sym same) due
still_due (idle ∷ arrivals) rest messages before kept due says = still_due arrivals rest messages before kept due says
still_due (text bytes ∷ arrivals) rest messages before kept due says =
    let texts = texts_in (arrivals ++ rest) in
    still_due arrivals rest messages says.0 kept (nothing_leaves before bytes texts messages says.0 says.1 (due_goes before bytes texts messages messages refl due)) says.2

-- where nothing comes, nothing is due
none_due : (before : Assembly) (messages : List ServerMessage) → AreDue before [] messages → messages ≡ []
none_due before [] due = refl
none_due before (message ∷ messages) due = absurd (nothing due.0 due.1 due.2 due.3.said due.3.are due.3.gives)
  where
    nothing : (first rest : List (List ℕ)) → first ++ rest ≡ [] → (said : List PieceTree) → AreSaid said first → Gives before said due.3.whole → ⊥
    nothing first rest is [] are gives = absurd gives
    nothing [] rest is (p ∷ said) are gives = absurd are
    nothing (x ∷ first) rest is (p ∷ said) are gives = absurd (cc)

heard_next : (kept : Assembly) (bytes : List ℕ) (texts : List (List ℕ)) (messages : List ServerMessage) (h : Heard) (now : Assembly) → AreDue kept (bytes ∷ texts) messages → Hears kept bytes (Some h) now
    → GivesNext h now texts messages
heard_next kept bytes texts messages (heard.Message message) now due hears = message_next kept bytes texts messages message now hears (due_goes kept bytes texts messages messages refl due)
heard_next kept bytes texts messages (heard.Refused fault) now due hears = none_refused kept bytes texts messages fault hears (due_goes kept bytes texts messages messages refl due)
heard_next kept bytes texts messages heard.Lost now due hears = absurd hears
heard_next kept bytes texts messages heard.Idle now due hears = absurd hears

ends_next : (kept : Assembly) (idles : ℕ) (rest : List Arrival) (messages : List ServerMessage) (h : Heard) (now : Assembly) (left : List Arrival) → AreDue kept (texts_in rest) messages → EndsWith kept idles rest h now left
    → GivesNext h now (texts_in left) messages
ends_next kept idles (text bytes ∷ rest) messages h now left due ends =
    subst (λ ls. GivesNext h now (texts_in ls) messages) (sym ends.1) (heard_next kept bytes (texts_in rest) messages h now due ends.0)
ends_next kept idles (idle ∷ rest) messages h now left due ends =
    subst (λ h. GivesNext h now (texts_in left) messages) (sym ends.0)
    (subst (λ a. AreDue a (texts_in left) messages) (sym ends.2) (subst (λ ls. AreDue kept (texts_in ls) messages) (sym ends.3) due))
ends_next kept idles [] messages h now left due ends = subst (λ h. GivesNext h now (texts_in left) messages) (sym ends.0) (none_due kept messages due)

-- a wait gives the next message that is due
pub wait_gives_next : (before now : Assembly) (coming left : List Arrival) (h : Heard) (messages : List ServerMessage) → AreDue before (texts_in coming) messages → Waits before coming h now left
    → GivesNext h now (texts_in left) messages
wait_gives_next before now coming left h messages due w =
    ends_next w.kept _ w.rest messages h now left
    (still_due w.arrivals w.rest messages before w.kept (subst (λ c. AreDue before (texts_in c) messages) w.taken due) w.nothing) w.ends
