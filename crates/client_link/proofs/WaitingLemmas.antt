-- A wait goes on, and ends.
use Rattle.std.proofs.Common.{◌≡◌, ℕ, zero, suc, ◌+◌, ◌<◌, ◌≤◌, List, [], ◌∷◌, ◌++◌, length, Bool, true, false, nat_le, Option, None, Some, refl, sym, ap, subst, ◌∙◌, append_assoc, append-nil, if◌then◌else◌, arith}
use Rattle.std.proofs.lemmas.Bool.Decides.{nat_tests}
use Rattle.std.proofs.lemmas.List.Sums.{sum_by-append}
use Rattle.std.specs.Prelude.{count_by, cond, nat_eq, pos, Ok, Err}
use Rattle.std.specs.Option.{option_map_or}
use Rattle.client_link.specs.Hearing.{IsHeard, Completes}
use Rattle.client_link.specs.Waiting.{is_idle, SayNothing, Hears, EndsWith, Waits}
use Rattle.client_link.specs.declared.waiting.Heard.{Heard}
use Rattle.client_link.specs.declared.waiting.Heard.TheVariants.{Lost, Idle}
use Rattle.client_link.specs.declared.waiting.TheConstants.{MOST_IDLES}
use Rattle.room_link.specs.Exchange.{Arrival, text, idle, Exchange}
use Rattle.wire_text.specs.Feeding.{PieceTree, whole, part, Gathered, Assembly, Says, to_come, joined, gathered_at, given_within, given, after}
use Rattle.wire_text.specs.declared.fault.PieceFault.TheVariants.{OutOfTurn, TooLong}
use Rattle.wire_text.specs.declared.piece.TheConstants.{MOST_TO_COME}

say_append : (a b c : Assembly) (xs ys : List Arrival) → SayNothing a xs b → SayNothing b ys c → SayNothing a (xs ++ ys) c
say_append a b c [] ys first second = subst (λ s. SayNothing s ys c) first second
say_append a b c (idle ∷ xs) ys first second = say_append a b c xs ys first second
say_append a b c (text bytes ∷ xs) ys first second = (first.0, first.1, say_append first.0 b c xs ys first.2 second)

count_append : (xs ys : List Arrival) → count_by is_idle (xs ++ ys) ≡ count_by is_idle xs + count_by is_idle ys
count_append xs ys = sum_by-append (λ (arrival : Arrival). cond (is_idle arrival) 1 0) xs ys

-- what came so far said nothing, with so many Idles among it, and nothing went out
pub record IsWaiting (before : Assembly) (idles : ℕ) (now : Assembly) (old new : Exchange) : Type 0 where
  pub arrivals : List Arrival
  pub taken : old.left ≡ arrivals ++ new.left
  pub nothing : SayNothing before arrivals now
  pub count : count_by is_idle arrivals ≡ idles
  pub silent : new.sent ≡ old.sent

pub waiting_begins : (before : Assembly) (x : Exchange) → IsWaiting before 0 before x x
waiting_begins before x = record { arrivals = []; taken = refl; nothing = refl; count = refl; silent = refl }

-- one more arrival that says nothing
one_more : (before : Assembly) (idles more : ℕ) (now next : Assembly) (arrival : Arrival) (x y z : Exchange) → IsWaiting before idles now x y
    → y ≡ record z { left = arrival ∷ z.left } → SayNothing now (arrival ∷ []) next → idles + count_by is_idle (arrival ∷ []) ≡ more → IsWaiting before more next x z
one_more before idles more now next arrival x y z waits came nothing counted = record {
  arrivals = waits.arrivals ++ arrival ∷ [];
  taken = waits.taken ∙ ap (λ (e : Exchange). waits.arrivals ++ e.left) came ∙ sym (append_assoc waits.arrivals (arrival ∷ []) z.left);
  nothing = say_append before now next waits.arrivals (arrival ∷ []) waits.nothing nothing;
  count = count_append waits.arrivals (arrival ∷ []) ∙ ap (λ n. n + count_by is_idle (arrival ∷ [])) waits.count ∙ counted;
  silent = ap (λ (e : Exchange). e.sent) (sym came) ∙ waits.silent;
}

pub idle_more : (before : Assembly) (idles : ℕ) (now : Assembly) (x y z : Exchange) → IsWaiting before idles now x y → y ≡ record z { left = idle ∷ z.left } → IsWaiting before (idles + 1) now x z
idle_more before idles now x y z waits came = one_more before idles (idles + 1) now now idle x y z waits came refl refl

pub text_more : (before : Assembly) (idles : ℕ) (now next : Assembly) (bytes : List ℕ) (x y z : Exchange) → IsWaiting before idles now x y → y ≡ record z { left = text bytes ∷ z.left }
    → IsHeard now bytes None next → IsWaiting before idles next x z
text_more before idles now next bytes x y z waits came heard = one_more before idles idles now next (text bytes) x y z waits came (next, heard, refl) (omega arith)

-- what ends the wait
ended : (before : Assembly) (idles : ℕ) (now next : Assembly) (rest : List Arrival) (heard : Heard) (x y z : Exchange) → idles < MOST_IDLES → IsWaiting before idles now x y
    → y.left ≡ rest → z.sent ≡ y.sent → EndsWith now idles rest heard next z.left → Waits before x.left heard next z.left × (z.sent ≡ x.sent)
ended before idles now next rest heard x y z few waits is same ends = (
  record {
    arrivals = waits.arrivals;
    rest = rest;
    taken = waits.taken ∙ ap (λ l. waits.arrivals ++ l) is;
    kept = now;
    nothing = waits.nothing;
    few = subst (λ n. n < MOST_IDLES) (sym waits.count) few;
    ends = subst (λ n. EndsWith now n rest heard next z.left) (sym waits.count) ends;
  },
  same ∙ waits.silent,
)

pub text_ends : (before : Assembly) (idles : ℕ) (now next : Assembly) (bytes : List ℕ) (heard : Heard) (x y z : Exchange) → idles < MOST_IDLES → IsWaiting before idles now x y
    → y ≡ record z { left = text bytes ∷ z.left } → Hears now bytes (Some heard) next → Waits before x.left heard next z.left × (z.sent ≡ x.sent)
text_ends before idles now next bytes heard x y z few waits came hears =
    ended before idles now next (text bytes ∷ z.left) heard x y z few waits (ap (λ (e : Exchange). e.left) came) (ap (λ (e : Exchange). e.sent) (sym came)) (hears, refl)

pub idle_ends : (before : Assembly) (idles : ℕ) (now : Assembly) (x y z : Exchange) → idles + 1 ≡ MOST_IDLES → IsWaiting before idles now x y
    → y ≡ record z { left = idle ∷ z.left } → Waits before x.left Idle now z.left × (z.sent ≡ x.sent)
idle_ends before idles now x y z last waits came =
    ended before idles now now (idle ∷ z.left) Idle x y z (omega (arith, last)) waits (ap (λ (e : Exchange). e.left) came) (ap (λ (e : Exchange). e.sent) (sym came)) (refl, last, refl, refl)

pub lost_ends : (before : Assembly) (idles : ℕ) (now : Assembly) (x y z : Exchange) → idles < MOST_IDLES → IsWaiting before idles now x y
    → (y.left ≡ []) × (z ≡ y) → Waits before x.left Lost now z.left × (z.sent ≡ x.sent)
lost_ends before idles now x y z few waits (none, same) =
    ended before idles now now [] Lost x y z few waits none (ap (λ (e : Exchange). e.sent) same) (refl, refl, ap (λ (e : Exchange). e.left) same ∙ none)

-- ---- how many texts may still come before one completes a message or is refused

abbrev pub still : Option Gathered → ℕ
still gathered = option_map_or (λ (g : Gathered). suc g.next) gathered (MOST_TO_COME + 2)

no_whole : (within : Bool) (bytes : List ℕ) → Completes (if within then Ok (Some bytes) else Err TooLong) None → ⊥
no_whole true bytes done = done
no_whole false bytes done = done

in_turn : (limit n : ℕ) (g : Gathered) (bytes : List ℕ) → n ≡ g.next → Completes (given_within limit n bytes) None → still (gathered_at n bytes) < suc g.next
in_turn limit zero g bytes same done = absurd (no_whole (nat_le (length bytes) limit) bytes done)
in_turn limit (suc n) g bytes same done = omega (arith, same)

less_by : (limit : ℕ) (gathered : Option Gathered) (piece : PieceTree) → to_come piece ≤ MOST_TO_COME → Completes (given (record { limit = limit; gathered = gathered }) piece) None
    → still (gathered_at (to_come piece) (joined gathered piece)) < still gathered
less_by limit None (whole bytes) few done = absurd (no_whole (nat_le (length bytes) limit) bytes done)
less_by limit None (part zero p) few done = absurd (no_whole (nat_le (length p) limit) p done)
less_by limit None (part (suc n) p) few done = omega (arith, few)
less_by limit (Some g) (whole bytes) few done = absurd done
less_by limit (Some g) (part n p) few done = by (nat_eq n g.next) refl done
  where
    by : (same : Bool) → nat_eq n g.next ≡ same
        → Completes (option_map_or Err (if same then None else Some (OutOfTurn (pos g.next) (pos n))) (given_within limit n (g.text ++ p))) None
        → still (gathered_at n (g.text ++ p)) < suc g.next
    by false is done = absurd done
    by true is done = in_turn limit n g (g.text ++ p) (grind (arith, nat_tests, is)) done

-- a piece that says no message yet leaves fewer
pub heard_less : (before now : Assembly) (bytes : List ℕ) → IsHeard before bytes None now → still now.gathered < still before.gathered
heard_less before now bytes heard =
    subst (λ (a : Assembly). still a.gathered < still before.gathered) (sym heard.now_is)
    (less_by before.limit before.gathered heard.piece (few heard.piece heard.is.says) heard.completes)
  where
    few : (piece : PieceTree) → Says piece bytes → to_come piece ≤ MOST_TO_COME
    few (whole bytes) says = omega arith
    few (part n p) says = says.1.0
