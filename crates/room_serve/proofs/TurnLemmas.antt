-- What one arrival, or none, makes of a conversation.
use Rattle.std.proofs.Common.{◌≡◌, inl, inr, ℕ, List, [], ◌∷◌, ◌++◌, All, true, Some, None, Result, Ok, Err, refl, sym, ap, ◌∙◌, subst}
use Rattle.std.specs.Global.{Vec}
use Rattle.std.proofs.lemmas.List.{append-nil}
use Rattle.std.proofs.lemmas.List.Elements.{All-cons, All-nil}
use Rattle.std.proofs.lemmas.List.Sums.{fold-append}
use Rattle.link_texts.specs.Hearing.{IsHeard, Refuses}
use Rattle.link_texts.specs.Sending.{ArePrinted, count_up, counted, counted_one}
use Rattle.link_texts.specs.declared.fault.WireFault.{WireFault}
use Rattle.link_texts.specs.declared.sending.Sent.{Sent}
use Rattle.room_events.specs.declared.room_event.RoomEvent.{RoomEvent}
use Rattle.room_link.specs.Exchange.{Exchange, Arrival, text, idle}
use Rattle.room_link.specs.declared.passing.Outgoing.{Outgoing}
use Rattle.room_link.specs.declared.passing.Outgoing.TheVariants.{Text, Close}
use Rattle.room_run.specs.Passes.{view_of}
use Rattle.room_serve.proofs.CourseLemmas.{whole_nothing}
use Rattle.room_serve.specs.Accounts.{texts_after}
use Rattle.room_serve.specs.Answering.{Input, said, idled, AreHeard}
use Rattle.room_serve.specs.Courses.{IsMessage, IsLast}
use Rattle.room_serve.specs.Turns.{Answers, Closes, Converses, GoesOn, IsAsked, Reacts, Replies}
use Rattle.room_serve.specs.declared.account.Account.{Account}
use Rattle.room_serve.specs.declared.conversation.Conversation.{Conversation}
use Rattle.sync_msgs.specs.declared.client_message.ClientMessage.{ClientMessage}
use Rattle.sync_msgs.specs.declared.end_reason.EndReason.TheVariants.{InvalidRecord}
use Rattle.sync_msgs.specs.declared.out.Out.{Out}
use Rattle.sync_msgs.specs.declared.out.Out.TheVariants.{Message, End}

-- once a close went out, there is a reason
stays_ended : (sent : Sent) (put : List Outgoing) → (sent.ended ≡ None → ⊥) → (counted sent put).ended ≡ None → ⊥
stays_ended sent [] some none = absurd (some none)
stays_ended sent (Text piece ∷ put) some none = stays_ended (counted_one sent (Text piece)) put some none
stays_ended sent (Close reason ∷ put) some none = stays_ended (counted_one sent (Close reason)) put (λ is. absurd (cc)) none

-- if no close went out, nothing that was given is an end
pub no_end : (sent : Sent) (outs : List Out) (put : List Outgoing) → ArePrinted outs put → (counted sent put).ended ≡ None → All IsMessage outs
no_end sent [] put printed none = All-nil IsMessage
no_end sent (Message message ∷ outs) put (first, rest, one, others, is) none =
    let same : counted sent put ≡ counted (counted sent first) rest = ap (counted sent) is ∙ fold-append counted_one sent first rest in
    All-cons IsMessage (Message message) outs tt (no_end (counted sent first) outs rest others (ap (λ s. s.ended) (sym same) ∙ none))
no_end sent (End reason ∷ outs) put (first, rest, one, others, is) none =
    let same : counted sent put ≡ counted (counted sent (Close reason ∷ [])) rest =
    ap (counted sent) (is ∙ ap (λ l. l ++ rest) one) ∙ fold-append counted_one sent (Close reason ∷ []) rest in
    absurd (stays_ended (counted sent (Close reason ∷ [])) rest (λ is. absurd (cc)) (ap (λ s. s.ended) (sym same) ∙ none))

-- what the last arrival makes of a conversation, or none
goes_by : (arrivals : List Arrival) (events : List RoomEvent) (put : List Outgoing) (before after : Conversation) (old new : Exchange)
    → old.left ≡ arrivals ++ new.left → new.sent ≡ old.sent ++ put → (view_of after.pass).mine ≡ (view_of before.pass).mine ++ events
    → after.account.texts ≡ texts_after before.account.texts arrivals → after.account.sent ≡ counted before.account.sent put
    → IsLast before.pass.session before.assembler after.assembler after.account arrivals events put → GoesOn arrivals before after old new
goes_by arrivals events put before after old new taken out mine texts sent last = record {
  events = events;
  put = put;
  taken = taken;
  out = out;
  mine = mine;
  course = record {
    done = [];
    last = arrivals;
    now = before.assembler;
    first = [];
    rest = events;
    replies = [];
    more = put;
    arrived = refl;
    events_are = refl;
    put_is = refl;
    done_is = whole_nothing before.pass.session before.assembler;
    last_is = last;
  };
  texts = texts;
  sent = sent;
}

-- a pass that did nothing
did_nothing : (before after : Conversation) → after.pass ≡ before.pass → (view_of after.pass).mine ≡ (view_of before.pass).mine ++ []
did_nothing before after pass = ap (λ p. (view_of p).mine) pass ∙ sym (append-nil (view_of before.pass).mine)

-- nothing arrived
pub stays : (before after : Conversation) (x : Exchange) → after.pass ≡ before.pass → after.assembler ≡ before.assembler → after.account.wire ≡ None
    → after.account.texts ≡ before.account.texts → after.account.sent ≡ before.account.sent → Converses before after x x
stays before after x pass assembler none texts sent = record {
  arrivals = [];
  goes = goes_by [] [] [] before after x x refl (sym (append-nil x.sent)) (did_nothing before after pass) texts sent (assembler, none, refl, refl);
}

-- what was taken before is answered
pub taken_then : (arrival : Arrival) (before after : Conversation) (old mid new : Exchange) → old ≡ record mid { left = arrival ∷ mid.left }
    → Reacts arrival before after mid new → Converses before after old new
taken_then arrival before after old mid new is reacts = record {
  arrivals = arrival ∷ [];
  goes = subst (λ x. GoesOn (arrival ∷ []) before after x new) (sym is) reacts;
}

-- a text that completes no message
pub heard_none : (bytes : List ℕ) (before after : Conversation) (x : Exchange) → IsHeard before.assembler bytes None after.assembler
    → after.pass ≡ before.pass → after.account.wire ≡ None → after.account.texts ≡ count_up before.account.texts → after.account.sent ≡ before.account.sent
    → Reacts (text bytes) before after x x
heard_none bytes before after x heard pass none texts sent =
    goes_by (text bytes ∷ []) [] [] before after (record x { left = text bytes ∷ x.left }) x refl (sym (append-nil x.sent)) (did_nothing before after pass)
    texts sent (inl (record {
      inputs = [];
      outs = [];
      says = (None, after.assembler, [], heard, (refl, refl), refl);
      wire = none;
      answered = (refl, refl);
      begun = refl;
      whole = λ well. refl;
      goes_on = λ still. All-nil IsMessage;
    }))

-- an arrival that asks the room something
asked : (arrival : Arrival) (input : Input) (before mid after : Conversation) (old new : Exchange) → AreHeard before.assembler (arrival ∷ []) (input ∷ []) after.assembler
    → mid.pass ≡ before.pass → mid.account.wire ≡ None → mid.account.texts ≡ texts_after before.account.texts (arrival ∷ []) → mid.account.sent ≡ before.account.sent
    → Answers input mid after old new → Reacts arrival before after old new
asked arrival input before mid after old new heard pass none texts sent a =
    goes_by (arrival ∷ []) a.events a.put before after (record old { left = arrival ∷ old.left }) new (ap (λ x. arrival ∷ x.left) (sym a.goes.out))
    (ap (λ x. x.sent) a.goes.out) (a.mine ∙ ap (λ p. (view_of p).mine ++ a.events) pass) (a.goes.texts ∙ texts)
    (a.goes.sent ∙ ap (λ s. counted s a.put) sent) (subst (λ p. IsLast p.session before.assembler after.assembler after.account (arrival ∷ []) a.events a.put) pass last)
  where
    last : IsLast mid.pass.session before.assembler after.assembler after.account (arrival ∷ []) a.events a.put
    last = elim a.how [
      | inl g ↦ inl (record {
        inputs = input ∷ [];
        outs = g.outs;
        says = heard;
        wire = a.wire ∙ none;
        answered = (a.events, [], g.outs, [], g.answered, (refl, refl), sym (append-nil a.events), sym (append-nil g.outs));
        begun = g.begun;
        whole = g.whole;
        goes_on = g.goes_on;
      })
      | inr l ↦ inr (inl (record {
        inputs = input ∷ [];
        next = after.assembler;
        says = heard;
        refused = l.refused;
        wire = a.wire ∙ none;
        begun = l.begun;
        silent = l.silent;
      }))
    ]

pub heard_message : (bytes : List ℕ) (message : ClientMessage) (before mid after : Conversation) (old new : Exchange)
    → IsHeard before.assembler bytes (Some message) mid.assembler → after.assembler ≡ mid.assembler
    → mid.pass ≡ before.pass → mid.account.wire ≡ None → mid.account.texts ≡ count_up before.account.texts → mid.account.sent ≡ before.account.sent
    → Answers (said message) mid after old new → Reacts (text bytes) before after old new
heard_message bytes message before mid after old new heard same pass none texts sent a =
    asked (text bytes) (said message) before mid after old new
    (Some message, after.assembler, [], subst (IsHeard before.assembler bytes (Some message)) (sym same) heard, (refl, refl), refl) pass none texts sent a

pub heard_idle : (before after : Conversation) (old new : Exchange) → after.assembler ≡ before.assembler → before.account.wire ≡ None
    → Answers idled before after old new → Reacts idle before after old new
heard_idle before after old new same none a =
    asked idle idled before before after old new ([], (refl, same), refl) refl none refl refl a

-- a text that is refused
pub refused_text : (bytes : List ℕ) (fault : WireFault) (before : Conversation) (mid : Account) (after : Conversation) (old new : Exchange)
    → Refuses before.assembler bytes fault → after.pass ≡ before.pass → after.account.wire ≡ Some fault → mid.texts ≡ count_up before.account.texts
    → mid.sent ≡ before.account.sent → Closes InvalidRecord mid after.account old new → Reacts (text bytes) before after old new
refused_text bytes fault before mid after old new refuses pass noted texts sent c =
    goes_by (text bytes ∷ []) [] c.put before after (record old { left = text bytes ∷ old.left }) new (ap (λ x. text bytes ∷ x.left) (sym c.goes.out))
    (ap (λ x. x.sent) c.goes.out) (did_nothing before after pass) (c.goes.texts ∙ texts) (c.goes.sent ∙ ap (λ s. counted s c.put) sent)
    (inr (inr (inl (bytes, refl, record { fault = fault; refuses = refuses; noted = noted; nothing = refl; closing = c.closing }))))

-- a text for which memory was refused
pub unread_text : (bytes : List ℕ) (before after : Conversation) (x : Exchange) → after.pass ≡ before.pass → after.account.wire ≡ None
    → after.account.memory ≡ true → after.account.texts ≡ count_up before.account.texts → after.account.sent ≡ before.account.sent → Reacts (text bytes) before after x x
unread_text bytes before after x pass none refused texts sent =
    goes_by (text bytes ∷ []) [] [] before after (record x { left = text bytes ∷ x.left }) x refl (sym (append-nil x.sent)) (did_nothing before after pass)
    texts sent (inr (inr (inr (bytes, refl, record { refused = refused; wire = none; nothing = refl; silent = refl }))))

-- what the room was asked, and what went out for it
pub answers : {E : Type 0} (input : Input) (result : Result (Vec Out) E) (before after : Conversation) (old new : Exchange)
    → IsAsked input result before.pass after.pass → Replies result before.account after.account old new → Answers input before after old new
answers input (Ok outs) before after old new (events, answered, mine) d = record {
  events = events;
  put = d.put;
  mine = mine;
  how = inl (record {
    outs = outs.items;
    answered = answered;
    begun = d.begun;
    whole = d.whole;
    goes_on = λ still. no_end before.account.sent outs.items d.put (d.whole (still.fault, still.memory)) (ap (λ s. s.ended) (sym d.goes.sent) ∙ still.ended);
  });
  goes = d.goes;
  wire = d.wire;
}
answers input (Err refused) before after old new (events, cut, mine) (is, same) = record {
  events = events;
  put = [];
  mine = mine;
  how = inr (record { refused = ap (λ a. a.memory) is; begun = cut; silent = refl });
  goes = record {
    out = same ∙ ap (λ l. record old { sent = l }) (sym (append-nil old.sent));
    sent = ap (λ a. a.sent) is;
    texts = ap (λ a. a.texts) is;
  };
  wire = ap (λ a. a.wire) is;
}
