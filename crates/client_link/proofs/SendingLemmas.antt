-- What goes out one after another.
use Rattle.std.proofs.Common.{◌≡◌, ℕ, ◌+◌, ◌<◌, ◌≤◌, inl, inr, List, [], ◌∷◌, ◌++◌, length, map, take, drop, get_or, Option, Some, None, Result, Ok, Err, IsErr, refl, sym, ap, subst, ◌∙◌, append_assoc, append-nil, add-one}
use Rattle.std.proofs.Math.Seq.{take-suc}
use Rattle.std.proofs.lemmas.List.{map-append, take-append-drop, take_all}
use Rattle.client_link.specs.Sending.{AreTexts, IsPut, ArePut, AreBegun, Puts, PutsAll}
use Rattle.client_link.specs.declared.saying.Saying.{Saying}
use Rattle.link_texts.proofs.SendingLemmas.{tells_then, tells_more}
use Rattle.link_texts.specs.Sending.{ArePieces, Begins}
use Rattle.room_link.specs.Exchange.{Exchange, Tells, Sends}
use Rattle.room_link.specs.declared.passing.Outgoing.{Outgoing}
use Rattle.room_link.specs.declared.passing.Outgoing.TheVariants.{Text}
use Rattle.room_link.specs.declared.passing.Stop.{Stop}
use Rattle.rooms_val.proofs.ListLemmas.{one_off}
use Rattle.wire_text.specs.Cutting.{IsCutInto}

-- what holds of each exchange and itself
pub tells_same : {E : Type 0} (P : E → E → Type 0) (o : Option E) → ((x : E) → P x x) → Tells P o o
tells_same P None so = tt
tells_same P (Some x) so = so x

pub puts_more : (p q : List Outgoing) (x y z : Exchange) → y ≡ record x { sent = x.sent ++ p } → z ≡ record y { sent = y.sent ++ q } → z ≡ record x { sent = x.sent ++ (p ++ q) }
puts_more p q x y z first second =
    second ∙ ap (λ (e : Exchange). record e { sent = e.sent ++ q }) first ∙ ap (λ l. record x { sent = l }) (append_assoc x.sent p q)

-- a call that gave no answer
pub stopped : {A : Type 0} (all begun : List Outgoing → Type 0) (r : Result A Stop) (x y : Exchange) → IsErr r → Puts begun x y → PutsAll all begun r x y
stopped all begun (Ok done) x y is puts = absurd (cc)
stopped all begun (Err s) x y is puts = puts

-- ---- the pieces of a text

-- the first of the pieces went out
abbrev pub IsGone : ℕ → List (List ℕ) → Exchange → Exchange → Type 0
IsGone i pieces x y = y ≡ record x { sent = x.sent ++ map Text (take i pieces) }

pub gone_begins : (pieces : List (List ℕ)) (x : Exchange) → IsGone 0 pieces x x
gone_begins pieces x = ap (λ l. record x { sent = l }) (sym (append-nil x.sent))

pub gone_on : (pieces : List (List ℕ)) (i : ℕ) (piece : List ℕ) (x y z : Exchange) → i < length pieces → piece ≡ get_or pieces i piece
    → IsGone i pieces x y → z ≡ record y { sent = y.sent ++ Text piece ∷ [] } → IsGone (i + 1) pieces x z
gone_on pieces i piece x y z within here gone sent =
    let more : take (i + 1) pieces ≡ take i pieces ++ piece ∷ [] = rw add-one (take-suc pieces i piece within ∙ ap (λ o. take i pieces ++ o ∷ []) (sym here)) in
    let split : map Text (take i pieces) ++ Text piece ∷ [] ≡ map Text (take (i + 1) pieces) = sym (ap (map Text) more ∙ map-append Text (take i pieces) (piece ∷ [])) in
    puts_more (map Text (take i pieces)) (Text piece ∷ []) x y z gone sent ∙ ap (λ l. record x { sent = x.sent ++ l }) split

-- all went out
pub gone_all : (pieces : List (List ℕ)) (i : ℕ) (x y : Exchange) → length pieces ≤ i → IsGone i pieces x y → Puts (AreTexts pieces) x y
gone_all pieces i x y past gone = (map Text pieces, refl, gone ∙ ap (λ l. record x { sent = x.sent ++ map Text l }) (take_all i pieces past))

-- or a beginning of them
pub gone_some : (pieces : List (List ℕ)) (i : ℕ) (x y : Exchange) → IsGone i pieces x y → Puts (Begins (AreTexts pieces)) x y
gone_some pieces i x y gone = (
  map Text (take i pieces),
  inr (map Text (drop i pieces), sym (map-append Text (take i pieces) (drop i pieces)) ∙ ap (map Text) (take-append-drop i pieces)),
  gone,
)

-- the pieces of a text went out
pub cut_sent : {A : Type 0} (text : List ℕ) (pieces : List (List ℕ)) (r : Result A Stop) (o n : Option Exchange) → IsCutInto text pieces
    → Tells (PutsAll (AreTexts pieces) (Begins (AreTexts pieces)) r) o n → Tells (PutsAll (ArePieces text) (Begins (ArePieces text)) r) o n
cut_sent text pieces r o n cut sent =
    tells_more {A = PutsAll (AreTexts pieces) (Begins (AreTexts pieces)) r} {B = PutsAll (ArePieces text) (Begins (ArePieces text)) r} o n sent (λ x y. by r x y)
  where
    all : (put : List Outgoing) → AreTexts pieces put → ArePieces text put
    all put is = (pieces, cut, is)

    begun : (put : List Outgoing) → Begins (AreTexts pieces) put → Begins (ArePieces text) put
    begun put (inl none) = inl none
    begun put (inr some) = inr (some.0, all (put ++ some.0) some.1)

    by : {A : Type 0} (r : Result A Stop) (x y : Exchange) → PutsAll (AreTexts pieces) (Begins (AreTexts pieces)) r x y → PutsAll (ArePieces text) (Begins (ArePieces text)) r x y
    by (Ok done) x y puts = (puts.0, all puts.0 puts.1, puts.2)
    by (Err stop) x y puts = (puts.0, begun puts.0 puts.1, puts.2)

-- ---- all that is said

pub put_append : (xs ys : List Saying) (p q : List Outgoing) → ArePut xs p → ArePut ys q → ArePut (xs ++ ys) (p ++ q)
put_append [] ys p q first second = subst (ArePut ys) (sym (ap (λ l. l ++ q) first)) second
put_append (x ∷ xs) ys p q (one, rest, is, are, joins) second =
    (one, rest ++ q, is, put_append xs ys rest q are second, ap (λ l. l ++ q) joins ∙ append_assoc one rest q)

pub begun_append : (xs ys : List Saying) (p q : List Outgoing) → ArePut xs p → AreBegun ys q → AreBegun (xs ++ ys) (p ++ q)
begun_append [] ys p q first second = subst (AreBegun ys) (sym (ap (λ l. l ++ q) first)) second
begun_append (x ∷ xs) ys p q (one, rest, is, are, joins) second =
    inr (one, rest ++ q, is, begun_append xs ys rest q are second, ap (λ l. l ++ q) joins ∙ append_assoc one rest q)

-- the next was sent
pub next_sent : (sayings : List Saying) (i : ℕ) (saying : Saying) (o m n : Option Exchange) → i < length sayings → saying ≡ get_or sayings i saying
    → Tells (Puts (ArePut (take i sayings))) o m → Tells (Puts (IsPut saying)) m n → Tells (Puts (ArePut (take (i + 1) sayings))) o n
next_sent sayings i saying o m n within here sent one =
    let more : take (i + 1) sayings ≡ take i sayings ++ saying ∷ [] = rw add-one (take-suc sayings i saying within ∙ ap (λ o. take i sayings ++ o ∷ []) (sym here)) in
    tells_then {A = Puts (ArePut (take i sayings))} {B = Puts (IsPut saying)} {C = Puts (ArePut (take (i + 1) sayings))} o m n sent one
    (λ x y z p q. (
      p.0 ++ q.0,
      rw more (put_append (take i sayings) (saying ∷ []) p.0 q.0 p.1 (q.0, [], q.1, refl, sym (append-nil q.0))),
      puts_more p.0 q.0 x y z p.2 q.2,
    ))

-- the next has begun
pub next_begun : {A : Type 0} (sayings : List Saying) (i : ℕ) (saying : Saying) (r : Result A Stop) (o m n : Option Exchange) → i < length sayings → saying ≡ get_or sayings i saying → IsErr r
    → Tells (Puts (ArePut (take i sayings))) o m → Tells (Puts (Begins (IsPut saying))) m n → Tells (PutsAll (ArePut sayings) (AreBegun sayings) r) o n
next_begun sayings i saying r o m n within here failed sent one =
    let split : take i sayings ++ saying ∷ drop (i + 1) sayings ≡ sayings = ap (λ l. take i sayings ++ l) (sym (one_off sayings i saying within here)) ∙ take-append-drop i sayings in
    tells_then {A = Puts (ArePut (take i sayings))} {B = Puts (Begins (IsPut saying))} {C = PutsAll (ArePut sayings) (AreBegun sayings) r} o m n sent one
    (λ x y z p q. stopped (ArePut sayings) (AreBegun sayings) r x z failed (
      p.0 ++ q.0,
      subst (λ l. AreBegun l (p.0 ++ q.0)) split (begun_append (take i sayings) (saying ∷ drop (i + 1) sayings) p.0 q.0 p.1 (inl q.1)),
      puts_more p.0 q.0 x y z p.2 q.2,
    ))

-- all was sent
pub all_sent : (sayings : List Saying) (i : ℕ) (o n : Option Exchange) → length sayings ≤ i → Tells (Puts (ArePut (take i sayings))) o n → Tells (Puts (ArePut sayings)) o n
all_sent sayings i o n past sent = subst (λ l. Tells (Puts (ArePut l)) o n) (take_all i sayings past) sent
