-- What is served in a row is served together.
use Rattle.std.proofs.Common.{◌≡◌, inl, inr, ℕ, List, [], ◌∷◌, ◌++◌, arith, Bool, Option, Some, None, refl, sym, ap, ◌∙◌, subst}
use Rattle.std.proofs.lemmas.List.{append_assoc}
use Rattle.std.proofs.lemmas.List.Elements.{All-append, All-nil}
use Rattle.std.proofs.lemmas.List.Sums.{fold-append}
use Rattle.link_texts.specs.Sending.{count_up, counted, counted_one}
use Rattle.link_texts.proofs.SendingLemmas.{printed_append}
use Rattle.room_events.specs.declared.room_event.RoomEvent.{RoomEvent}
use Rattle.room_link.specs.Exchange.{Exchange, Arrival, text, idle, Tells}
use Rattle.room_link.specs.declared.passing.Outgoing.{Outgoing}
use Rattle.room_run.specs.Passes.{view_of}
use Rattle.room_serve.specs.Accounts.{IsOpen, texts_after, IsBlamed}
use Rattle.room_serve.specs.Answering.{Input, AreHeard, input_of, AreAnswered}
use Rattle.room_serve.specs.Courses.{IsMessage, IsLast, IsWhole, Course}
use Rattle.room_serve.specs.Turns.{GoesOn, Converses}
use Rattle.room_serve.specs.declared.account.Account.{Account}
use Rattle.room_serve.specs.declared.conversation.Conversation.{Conversation}
use Rattle.sync_msgs.specs.declared.out.Out.{Out}
use Rattle.wire_text.specs.Feeding.{Assembly}

-- what is made of what stays
pub tells_same : {E : Type 0} (A : E → E → Type 0) (o : Option E) → ((x : E) → A x x) → Tells A o o
tells_same A None is = tt
tells_same A (Some x) is = is x

pub blamed_then : {a b c : Bool} {k m n : ℕ} → IsBlamed a b k m → IsBlamed b c m n → IsBlamed a c k n
blamed_then {a} {b} {c} {k} {m} {n} first second = record {
  stays = omega (arith, first.stays, second.stays);
  rose = λ is. elim (second.rose is) [
    | inl before ↦ elim (first.rose before) [ inl earlier ↦ inl earlier | inr less ↦ inr (omega (arith, less, second.stays)) ]
    | inr less ↦ inr (omega (arith, less, first.stays))
  ];
}

heard_append : (a b c : Assembly) (xs ys : List Arrival) (is js : List Input) → AreHeard a xs is b → AreHeard b ys js c → AreHeard a (xs ++ ys) (is ++ js) c
heard_append a b c [] ys is js (none, same) more =
    subst (λ l. AreHeard a ys (l ++ js) c) (sym none) (subst (λ d. AreHeard d ys js c) same more)
heard_append a b c (idle ∷ xs) ys is js (others, heard, are) more =
    (others ++ js, heard_append a b c xs ys others js heard more, ap (λ l. l ++ js) are)
heard_append a b c (text bytes ∷ xs) ys is js (message, next, others, one, heard, are) more = (
  message,
  next,
  others ++ js,
  one,
  heard_append next b c xs ys others js heard more,
  ap (λ l. l ++ js) are ∙ append_assoc (input_of message) others js,
)

answered_append : (n : ℕ) (is js : List Input) (es fs : List RoomEvent) (os ps : List Out)
    → AreAnswered n is es os → AreAnswered n js fs ps → AreAnswered n (is ++ js) (es ++ fs) (os ++ ps)
answered_append n [] js es fs os ps (no_events, no_outs) more =
    subst (λ l. AreAnswered n js (l ++ fs) (os ++ ps)) (sym no_events) (subst (λ l. AreAnswered n js fs (l ++ ps)) (sym no_outs) more)
answered_append n (i ∷ is) js es fs os ps (first, rest, given, others, one, answered, events_are, outs_are) more = (
  first,
  rest ++ fs,
  given,
  others ++ ps,
  one,
  answered_append n is js rest fs others ps answered more,
  ap (λ l. l ++ fs) events_are ∙ append_assoc first rest fs,
  ap (λ l. l ++ ps) outs_are ∙ append_assoc given others ps,
)

pub texts_append : (n : ℕ) (xs ys : List Arrival) → texts_after n (xs ++ ys) ≡ texts_after (texts_after n xs) ys
texts_append n [] ys = refl
texts_append n (text bytes ∷ xs) ys = texts_append (count_up n) xs ys
texts_append n (idle ∷ xs) ys = texts_append n xs ys

whole_append : (n : ℕ) (a b c : Assembly) (xs ys : List Arrival) (es fs : List RoomEvent) (p q : List Outgoing)
    → IsWhole n a b xs es p → IsWhole n b c ys fs q → IsWhole n a c (xs ++ ys) (es ++ fs) (p ++ q)
whole_append n a b c xs ys es fs p q f s = record {
  inputs = f.inputs ++ s.inputs;
  outs = f.outs ++ s.outs;
  says = heard_append a b c xs ys f.inputs s.inputs f.says s.says;
  answered = answered_append n f.inputs s.inputs es fs f.outs s.outs f.answered s.answered;
  no_end = All-append IsMessage f.outs s.outs f.no_end s.no_end;
  printed = printed_append f.outs s.outs p q f.printed s.printed;
}

pub whole_nothing : (n : ℕ) (a : Assembly) → IsWhole n a a [] [] []
whole_nothing n a = record { inputs = []; outs = []; says = (refl, refl); answered = (refl, refl); no_end = All-nil IsMessage; printed = refl }

-- where nothing ended the service, the last arrival was heard and answered too
whole_last : (n : ℕ) (now next : Assembly) (account : Account) (last : List Arrival) (es : List RoomEvent) (p : List Outgoing)
    → IsOpen account → IsLast n now next account last es p → IsWhole n now next last es p
whole_last n now next account [] es p still (same, none, no_events, silent) =
    subst (λ m. IsWhole n now m [] es p) (sym same) (subst (λ l. IsWhole n now now [] l p) (sym no_events)
    (subst (IsWhole n now now [] []) (sym silent) (whole_nothing n now)))
whole_last n now next account (arrival ∷ []) es p still is = elim is [
  | inl h ↦ record {
    inputs = h.inputs;
    outs = h.outs;
    says = h.says;
    answered = h.answered;
    no_end = h.goes_on still;
    printed = h.whole (still.fault, still.memory);
  }
  | inr other ↦ elim other [
    | inl cut ↦ absurd (let e = sym still.memory ∙ cut.refused in cc)
    | inr none ↦ elim none [
      | inl refused ↦ absurd (let e = sym still.wire ∙ refused.2.noted in cc)
      | inr unread ↦ absurd (let e = sym still.memory ∙ unread.2.refused in cc)
    ]
  ]
]
whole_last n now next account (arrival ∷ other ∷ arrivals) es p still is = absurd is

-- a course that nothing ended, and one that goes on from there
pub course_append : (n : ℕ) (a b c : Assembly) (xs ys : List Arrival) (es fs : List RoomEvent) (p q : List Outgoing) (mid account : Account)
    → IsOpen mid → Course n a b xs es p mid → Course n b c ys fs q account → Course n a c (xs ++ ys) (es ++ fs) (p ++ q) account
course_append n a b c xs ys es fs p q mid account still f s =
    let both : IsWhole n a b (f.done ++ f.last) (f.first ++ f.rest) (f.replies ++ f.more) = whole_append n a f.now b f.done f.last f.first f.rest
    f.replies f.more f.done_is (whole_last n f.now b mid f.last f.rest f.more still f.last_is) in
    let whole : IsWhole n a b xs es p = subst (λ l. IsWhole n a b l es p) (sym f.arrived) (subst (λ l. IsWhole n a b (f.done ++ f.last) l p) (sym f.events_are)
    (subst (IsWhole n a b (f.done ++ f.last) (f.first ++ f.rest)) (sym f.put_is) both)) in record {
      done = xs ++ s.done;
      last = s.last;
      now = s.now;
      first = es ++ s.first;
      rest = s.rest;
      replies = p ++ s.replies;
      more = s.more;
      arrived = ap (λ l. xs ++ l) s.arrived ∙ sym (append_assoc xs s.done s.last);
      events_are = ap (λ l. es ++ l) s.events_are ∙ sym (append_assoc es s.first s.rest);
      put_is = ap (λ l. p ++ l) s.put_is ∙ sym (append_assoc p s.replies s.more);
      done_is = whole_append n a b s.now xs s.done es s.first p s.replies whole s.done_is;
      last_is = s.last_is;
    }

-- a conversation that nothing ended, and goes on
pub goes_append : (xs ys : List Arrival) (before mid after : Conversation) (o m e : Exchange) → IsOpen mid.account → mid.pass.session ≡ before.pass.session
    → GoesOn xs before mid o m → GoesOn ys mid after m e → GoesOn (xs ++ ys) before after o e
goes_append xs ys before mid after o m e still own g h = record {
  events = g.events ++ h.events;
  put = g.put ++ h.put;
  taken = g.taken ∙ ap (λ l. xs ++ l) h.taken ∙ sym (append_assoc xs ys e.left);
  out = h.out ∙ ap (λ l. l ++ h.put) g.out ∙ append_assoc o.sent g.put h.put;
  mine = h.mine ∙ ap (λ l. l ++ h.events) g.mine ∙ append_assoc (view_of before.pass).mine g.events h.events;
  course = course_append before.pass.session before.assembler mid.assembler after.assembler xs ys g.events h.events g.put h.put mid.account
      after.account still g.course (subst (λ n. Course n mid.assembler after.assembler ys h.events h.put after.account) own h.course);
  texts = h.texts ∙ ap (λ n. texts_after n ys) g.texts ∙ sym (texts_append before.account.texts xs ys);
  sent = h.sent ∙ ap (λ s. counted s h.put) g.sent ∙ sym (fold-append counted_one before.account.sent g.put h.put);
}

pub converses_then : (before mid after : Conversation) → IsOpen mid.account → mid.pass.session ≡ before.pass.session
    → (o m e : Exchange) → Converses before mid o m → Converses mid after m e → Converses before after o e
converses_then before mid after still own o m e g h = record {
  arrivals = g.arrivals ++ h.arrivals;
  goes = goes_append g.arrivals h.arrivals before mid after o m e still own g.goes h.goes;
}
