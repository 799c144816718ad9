-- What goes out one after another.
use Rattle.std.proofs.Common.{◌≡◌, ℕ, ◌+◌, ◌<◌, ◌≤◌, inl, inr, List, [], ◌∷◌, ◌++◌, length, map, take, drop, get_or, decimal, Option, Some, None, Result, Ok, Err, IsErr, refl, sym, ap, subst, ◌∙◌, append_assoc, append-nil, length-drop, drop-cons, add-one, arith, Bor}
use Rattle.std.proofs.Math.Seq.{take-suc}
use Rattle.std.proofs.lemmas.List.{length-map, take-append-drop, take_all}
use Rattle.std.proofs.lemmas.List.Sums.{fold-append}
use Rattle.link_texts.specs.Sending.{ArePieces, AreNumbered, IsPrinted, ArePrinted, Begins, AreBegun, counted, counted_one, PutsOut, PutsOutAll}
use Rattle.link_texts.specs.declared.sending.Sent.{Sent}
use Rattle.room_link.specs.Exchange.{Exchange, Tells}
use Rattle.room_link.specs.declared.passing.Outgoing.{Outgoing}
use Rattle.room_link.specs.declared.passing.Outgoing.TheVariants.{Text}
use Rattle.room_link.specs.declared.passing.Stop.{Stop}
use Rattle.rooms_val.proofs.ListLemmas.{one_off}
use Rattle.sync_msgs.specs.declared.out.Out.{Out}
use Rattle.wire_text.specs.Cutting.{AreParts, numbered}
use Rattle.wire_text.specs.declared.cut.TheConstants.{LONGEST_PART}

-- what two calls made after one another, where the exchange is told
pub tells_then : {E : Type 0} {A B C : E → E → Type 0} (o m n : Option E) → Tells A o m → Tells B m n → ((x y z : E) → A x y → B y z → C x z) → Tells C o n
tells_then o m None first second so = tt
tells_then o None (Some z) first second so = absurd second
tells_then None (Some y) (Some z) first second so = absurd first
tells_then (Some x) (Some y) (Some z) first second so = so x y z first second

-- the same of one call
pub tells_more : {E : Type 0} {A B : E → E → Type 0} (o n : Option E) → Tells A o n → ((x y : E) → A x y → B x y) → Tells B o n
tells_more o None made so = tt
tells_more None (Some y) made so = absurd made
tells_more (Some x) (Some y) made so = so x y made

pub puts_more : (p q : List Outgoing) (a b c : Sent) (x y z : Exchange) → PutsOut p a b x y → PutsOut q b c y z → PutsOut (p ++ q) a c x z
puts_more p q a b c x y z first second = record {
  out = second.out ∙ rw (first.out, append_assoc x.sent p q) refl;
  count = second.count ∙ ap (λ s. counted s q) first.count ∙ sym (fold-append counted_one a p q);
}

-- something with a property went out
abbrev pub PutsSuch : (List Outgoing → Type 0) → Sent → Sent → Exchange → Exchange → Type 0
PutsSuch is a b x y = (put : List Outgoing) × is put × PutsOut put a b x y

-- a call that gave no answer
pub stopped : {A : Type 0} (all begun : List Outgoing → Type 0) (r : Result A Stop) (a b : Sent) (x y : Exchange) → IsErr r → PutsSuch begun a b x y → PutsOutAll all begun r a b x y
stopped all begun (Ok done) a b x y is puts = absurd (cc)
stopped all begun (Err s) a b x y is puts = puts

-- ---- the pieces of a long text's parts

abbrev pub pieces_of : List (Bor (List ℕ)) → List Outgoing
pieces_of parts = map Text (numbered (map (λ part. part.now) parts))

-- something went out, and this is left of all
pub record IsSent (all left : List Outgoing) (a b : Sent) (x y : Exchange) : Type 0 where
  pub put : List Outgoing
  pub joins : put ++ left ≡ all
  pub puts : PutsOut put a b x y

pub one_sent : (all left rest : List Outgoing) (o : Outgoing) (a b c : Sent) (x y z : Exchange) → left ≡ o ∷ rest → IsSent all left a b x y
    → PutsSuch (λ put. put ≡ o ∷ []) b c y z → IsSent all rest a c x z
one_sent all left rest o a b c x y z first sent (put, one, puts) = record {
  put = sent.put ++ put;
  joins = rw one (append_assoc sent.put (o ∷ []) rest ∙ ap (λ l. sent.put ++ l) (sym first) ∙ sent.joins);
  puts = puts_more sent.put put a b c x y z sent.puts puts;
}

-- the piece of the next part is the next piece
pub next_piece : (parts : List (Bor (List ℕ))) (i to_come : ℕ) (none : Bor (List ℕ)) (piece : List ℕ) → i < length parts → to_come + (i + 1) ≡ length parts
    → piece ≡ decimal to_come ++ 95 ∷ (get_or parts i none).now → pieces_of (drop i parts) ≡ Text piece ∷ pieces_of (drop (i + 1) parts)
next_piece parts i to_come none piece within count is =
    let others : length (map (λ part. part.now) (drop (i + 1) parts)) ≡ to_come = simp (length-map, length-drop) (omega arith) in
    let first : drop i parts ≡ get_or parts i none ∷ drop (i + 1) parts = rw add-one (drop-cons parts i none within) in
    ap pieces_of first ∙ rw (others, is) refl

-- the pieces of a text that isn't too long, and of one that is
short_pieces : (text : List ℕ) (put : List Outgoing) → length text ≤ LONGEST_PART → put ≡ Text text ∷ [] → ArePieces text put
short_pieces text put short is = (text ∷ [], record { short = λ fits. refl; long = λ long. absurd (omega (arith, short, long)) }, is)

long_pieces : (text : List ℕ) (parts : List (List ℕ)) (put : List Outgoing) → LONGEST_PART < length text → AreParts text parts → AreNumbered parts put → ArePieces text put
long_pieces text parts put long are is = (numbered parts, record { short = λ fits. absurd (omega (arith, long, fits)); long = λ _. (parts, are, refl) }, is)

pub short_sent : {A : Type 0} (text : List ℕ) (r : Result A Stop) (a b : Sent) (o n : Option Exchange) → length text ≤ LONGEST_PART
    → Tells (PutsOutAll (λ put. put ≡ Text text ∷ []) (λ put. put ≡ []) r a b) o n → Tells (PutsOutAll (ArePieces text) (Begins (ArePieces text)) r a b) o n
short_sent text r a b o n short sent =
    tells_more {A = PutsOutAll (λ put. put ≡ Text text ∷ []) (λ put. put ≡ []) r a b} {B = PutsOutAll (ArePieces text) (Begins (ArePieces text)) r a b} o n sent (λ x y. by r x y)
  where
    by : {A : Type 0} (r : Result A Stop) (x y : Exchange) → PutsOutAll (λ put. put ≡ Text text ∷ []) (λ put. put ≡ []) r a b x y → PutsOutAll (ArePieces text) (Begins (ArePieces text)) r a b x y
    by (Ok done) x y (put, is, puts) = (put, short_pieces text put short is, puts)
    by (Err s) x y (put, is, puts) = (put, inl is, puts)

pub long_sent : {A : Type 0} (text : List ℕ) (parts : List (List ℕ)) (r : Result A Stop) (a b : Sent) (o n : Option Exchange) → LONGEST_PART < length text → AreParts text parts
    → Tells (PutsOutAll (AreNumbered parts) (Begins (AreNumbered parts)) r a b) o n → Tells (PutsOutAll (ArePieces text) (Begins (ArePieces text)) r a b) o n
long_sent text parts r a b o n long are sent =
    tells_more {A = PutsOutAll (AreNumbered parts) (Begins (AreNumbered parts)) r a b} {B = PutsOutAll (ArePieces text) (Begins (ArePieces text)) r a b} o n sent (λ x y. by r x y)
  where
    by : {A : Type 0} (r : Result A Stop) (x y : Exchange) → PutsOutAll (AreNumbered parts) (Begins (AreNumbered parts)) r a b x y → PutsOutAll (ArePieces text) (Begins (ArePieces text)) r a b x y
    by (Ok done) x y (put, is, puts) = (put, long_pieces text parts put long are is, puts)
    by (Err s) x y (put, inl none, puts) = (put, inl none, puts)
    by (Err s) x y (put, inr (rest, is), puts) = (put, inr (rest, long_pieces text parts (put ++ rest) long are is), puts)

-- ---- what is printed of all that was given

pub printed_append : (xs ys : List Out) (p q : List Outgoing) → ArePrinted xs p → ArePrinted ys q → ArePrinted (xs ++ ys) (p ++ q)
printed_append [] ys p q first second = subst (ArePrinted ys) (sym (ap (λ l. l ++ q) first)) second
printed_append (x ∷ xs) ys p q (one, rest, is, are, joins) second =
    (one, rest ++ q, is, printed_append xs ys rest q are second, ap (λ l. l ++ q) joins ∙ append_assoc one rest q)

pub begun_append : (xs ys : List Out) (p q : List Outgoing) → ArePrinted xs p → AreBegun ys q → AreBegun (xs ++ ys) (p ++ q)
begun_append [] ys p q first second = subst (AreBegun ys) (sym (ap (λ l. l ++ q) first)) second
begun_append (x ∷ xs) ys p q (one, rest, is, are, joins) second =
    inr (one, rest ++ q, is, begun_append xs ys rest q are second, ap (λ l. l ++ q) joins ∙ append_assoc one rest q)

pub printed_begun : (xs : List Out) (p : List Outgoing) → ArePrinted xs p → AreBegun xs p
printed_begun [] p are = are
printed_begun (x ∷ xs) p (one, rest, is, are, joins) = inr (one, rest, is, printed_begun xs rest are, joins)

-- the next of all was printed and sent
pub next_sent : (outs : List Out) (i : ℕ) (out : Out) (a b c : Sent) (o m n : Option Exchange) → i < length outs → out ≡ get_or outs i out
    → Tells (PutsSuch (ArePrinted (take i outs)) a b) o m → Tells (PutsSuch (IsPrinted out) b c) m n → Tells (PutsSuch (ArePrinted (take (i + 1) outs)) a c) o n
next_sent outs i out a b c o m n within here sent one =
    let more : take (i + 1) outs ≡ take i outs ++ out ∷ [] = rw add-one (take-suc outs i out within ∙ ap (λ o. take i outs ++ o ∷ []) (sym here)) in
    tells_then {A = PutsSuch (ArePrinted (take i outs)) a b} {B = PutsSuch (IsPrinted out) b c} {C = PutsSuch (ArePrinted (take (i + 1) outs)) a c} o m n sent one
    (λ x y z p q. (
      p.0 ++ q.0,
      rw more (printed_append (take i outs) (out ∷ []) p.0 q.0 p.1 (q.0, [], q.1, refl, sym (append-nil q.0))),
      puts_more p.0 q.0 a b c x y z p.2 q.2,
    ))

-- the next of all has begun
pub next_begun : {A : Type 0} (outs : List Out) (i : ℕ) (out : Out) (r : Result A Stop) (a b c : Sent) (o m n : Option Exchange) → i < length outs → out ≡ get_or outs i out → IsErr r
    → Tells (PutsSuch (ArePrinted (take i outs)) a b) o m → Tells (PutsSuch (Begins (IsPrinted out)) b c) m n → Tells (PutsOutAll (ArePrinted outs) (AreBegun outs) r a c) o n
next_begun outs i out r a b c o m n within here failed sent one =
    let split : take i outs ++ out ∷ drop (i + 1) outs ≡ outs = ap (λ l. take i outs ++ l) (sym (one_off outs i out within here)) ∙ take-append-drop i outs in
    tells_then {A = PutsSuch (ArePrinted (take i outs)) a b} {B = PutsSuch (Begins (IsPrinted out)) b c} {C = PutsOutAll (ArePrinted outs) (AreBegun outs) r a c} o m n sent one
    (λ x y z p q. stopped (ArePrinted outs) (AreBegun outs) r a c x z failed (
      p.0 ++ q.0,
      subst (λ l. AreBegun l (p.0 ++ q.0)) split (begun_append (take i outs) (out ∷ drop (i + 1) outs) p.0 q.0 p.1 (inl q.1)),
      puts_more p.0 q.0 a b c x y z p.2 q.2,
    ))

-- all were printed and sent
pub all_sent : (outs : List Out) (i : ℕ) (a b : Sent) (o n : Option Exchange) → length outs ≤ i → Tells (PutsSuch (ArePrinted (take i outs)) a b) o n → Tells (PutsSuch (ArePrinted outs) a b) o n
all_sent outs i a b o n past sent = subst (λ l. Tells (PutsSuch (ArePrinted l) a b) o n) (take_all i outs past) sent
