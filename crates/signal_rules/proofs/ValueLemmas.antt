-- A key has one value, and it stays where no atom changes that its run meets.
use Rattle.std.proofs.Math.Nat.{eq-or-lt_of_le}
use Rattle.std.proofs.Common.{◌≡◌, ℕ, zero, suc, ◌+◌, ◌<◌, ◌≤◌, inl, inr, List, [], ◌∷◌, ◌++◌, length, refl, sym, ◌∙◌, ap, subst, arith, length-append}
use Rattle.signal_rules.specs.declared.rules.Ask.{Ask}
use Rattle.signal_rules.specs.declared.rules.Ask.TheVariants.{Need, Done}
use Rattle.signal_rules.specs.Meaning.{Meaning, IsLawful, IsDone, limit}
use Rattle.signal_rules.specs.Values.{after, by_rank, ended, value_within, value, HasValue, HasAsked, Meets}
use Rattle.signal_rules.specs.Values.HasValue.{atom, ran}
use Rattle.signal_rules.specs.Values.HasAsked.{start, next}
use Rattle.signal_rules.specs.Values.Meets.{itself, through}

same_need : {K V : Type 0} {a : Ask K V} {k l : K} → a ≡ Need k → a ≡ Need l → k ≡ l
same_need p q = cc

same_done : {K V : Type 0} {a : Ask K V} {v w : V} → a ≡ Done v → a ≡ Done w → v ≡ w
same_done p q = cc

not_both : {K V : Type 0} {a : Ask K V} {k : K} {v : V} → a ≡ Need k → a ≡ Done v → ⊥
not_both p q = cc

-- the keys below a rank have one value each
abbrev pub AreSingle : {K V : Type 0} → Meaning K V → (K → V) → ℕ → Type 0
AreSingle {K} {V} m atoms rank = (key : K) (v w : V) → m.rank key < rank → HasValue m atoms key v → HasValue m atoms key w → v ≡ w

-- one more answer
longer : {V : Type 0} (got : List V) (v : V) (all : List V) → all ≡ got ++ v ∷ [] → length all ≡ suc (length got)
longer got v all e = omega (arith, ap length e, length-append got (v ∷ []))

-- answers that are as many are the same
asked_same : {K V : Type 0} (m : Meaning K V) (atoms : K → V) → IsLawful m → (rank : ℕ) → AreSingle m atoms rank
    → (key : K) (g : List V) → HasAsked m atoms key g → (h : List V) → m.rank key ≤ rank → HasAsked m atoms key h → length g ≡ length h → g ≡ h
asked_same m atoms law rank single _ _ (start key g e) h low (start _ _ f) same = cc
asked_same m atoms law rank single _ _ (start key g e) h low (next _ needed got v _ asked is has f) same =
    absurd (omega (arith, ap length e, longer got v h f))
asked_same m atoms law rank single _ _ (next key needed got v g asked is has e) h low (start _ _ f) same =
    absurd (omega (arith, ap length f, longer got v g e))
asked_same {K} {V} m atoms law rank single _ _ (next key needed got v g asked is has e) h low (next _ other was w _ before asks had f) same =
    let shorter : length got ≡ length was = omega (arith, longer got v g e, longer was w h f) in
    let first : got ≡ was = asked_same m atoms law rank single _ _ asked was low before shorter in
    let one : other ≡ needed = same_need asks (subst (λ (l : List V). m.ask key l ≡ Need needed) first is) in
    let falls : m.rank needed < m.rank key = law.falls key needed got is in
    let last : v ≡ w = single needed v w (omega arith) has (subst (λ (k : K). HasValue m atoms k w) one had) in
    cc

-- a run that ends with some answers has no more
no_more : {K V : Type 0} (m : Meaning K V) (atoms : K → V) → IsLawful m → (rank : ℕ) → AreSingle m atoms rank
    → (key : K) (h : List V) → HasAsked m atoms key h → (g : List V) (v : V) → m.rank key ≤ rank → HasAsked m atoms key g → m.ask key g ≡ Done v → length h ≤ length g
no_more m atoms law rank single _ _ (start key h e) g v low asked is = omega (arith, ap length e)
no_more {K} {V} m atoms law rank single _ _ (next key needed got w h before asks has e) g v low asked is =
    let most : length got ≤ length g = no_more m atoms law rank single _ _ before g v low asked is in
    elim (eq-or-lt_of_le most) [
      | inl same ↦ absurd (not_both asks (subst (λ (l : List V). m.ask key l ≡ Done v) (sym (asked_same m atoms law rank single _ _ before g low asked same)) is))
      | inr less ↦ omega (arith, longer got w h e)
    ]

both_end : {K V : Type 0} (m : Meaning K V) (atoms : K → V) → IsLawful m → (rank : ℕ) → AreSingle m atoms rank
    → (key : K) (g h : List V) (v w : V) → m.rank key ≤ rank → HasAsked m atoms key g → m.ask key g ≡ Done v → HasAsked m atoms key h → m.ask key h ≡ Done w → v ≡ w
both_end {K} {V} m atoms law rank single key g h v w low asked is before was =
    let one : g ≡ h = asked_same m atoms law rank single key g asked h low before (omega (arith, no_more m atoms law rank single key g asked h w low before was, no_more m atoms law rank single key h before g v low asked is)) in
    same_done (subst (λ (l : List V). m.ask key l ≡ Done v) one is) was

one_value : {K V : Type 0} (m : Meaning K V) (atoms : K → V) → IsLawful m → (rank : ℕ) → AreSingle m atoms rank
    → (key : K) (v w : V) → m.rank key ≤ rank → HasValue m atoms key v → HasValue m atoms key w → v ≡ w
one_value m atoms law rank single key v w low (atom _ _ at is) (atom _ _ _ also) = cc
one_value m atoms law rank single key v w low (atom _ _ at is) (ran _ g _ above _ _) = absurd (omega arith)
one_value m atoms law rank single key v w low (ran _ g _ above _ _) (atom _ _ at is) = absurd (omega arith)
one_value m atoms law rank single key v w low (ran _ g _ above asked is) (ran _ h _ _ before was) =
    both_end m atoms law rank single key g h v w low asked is before was

all_single : {K V : Type 0} (m : Meaning K V) (atoms : K → V) → IsLawful m → (rank : ℕ) → AreSingle m atoms rank
all_single m atoms law zero key v w low has had = absurd (omega arith)
all_single m atoms law (suc rank) key v w low has had =
    one_value m atoms law rank (all_single m atoms law rank) key v w (omega arith) has had

-- a key has one value
pub value_same : {K V : Type 0} (m : Meaning K V) (atoms : K → V) → IsLawful m → (key : K) (v w : V)
    → HasValue m atoms key v → HasValue m atoms key w → v ≡ w
value_same m atoms law key v w has had = all_single m atoms law (suc (m.rank key)) key v w (omega arith) has had

-- answers of one run that are as many are the same
pub answers_same : {K V : Type 0} (m : Meaning K V) (atoms : K → V) → IsLawful m → (key : K) (g h : List V)
    → HasAsked m atoms key g → HasAsked m atoms key h → length g ≡ length h → g ≡ h
answers_same m atoms law key g h asked before same =
    asked_same m atoms law (m.rank key) (all_single m atoms law (m.rank key)) key g asked h (omega arith) before same

-- a run that ends with some answers asked for something only with fewer
pub asked_before : {K V : Type 0} (m : Meaning K V) (atoms : K → V) → IsLawful m → (key : K) (g h : List V) (v : V) (needed : K)
    → HasAsked m atoms key g → m.ask key g ≡ Done v → HasAsked m atoms key h → m.ask key h ≡ Need needed → length h < length g
asked_before {K} {V} m atoms law key g h v needed asked is before asks =
    elim (eq-or-lt_of_le (no_more m atoms law (m.rank key) (all_single m atoms law (m.rank key)) key h before g v (omega arith) asked is)) [
      | inl same ↦ absurd (not_both asks (subst (λ (l : List V). m.ask key l ≡ Done v) (sym (answers_same m atoms law key h g before asked same)) is))
      | inr less ↦ less
    ]

-- The function gives the value.

abbrev HoldBelow : {K V : Type 0} → Meaning K V → (K → V) → (K → V) → ℕ → Type 0
HoldBelow {K} {V} m atoms value_of rank = (key : K) → m.rank key < rank → HasValue m atoms key (value_of key)

-- the first ask of what is left decides
first_ask : {K V : Type 0} (ask : List V → Ask K V) (value_of : K → V) (blank : V) (count : ℕ) (got : List V)
    → ended ask value_of blank (suc count) got ≡ after (ask got) (λ key. ended ask value_of blank count (got ++ value_of key ∷ [])) (λ v. v)
unfolding ended
first_ask ask value_of blank count got = refl

after_has : {K V : Type 0} (m : Meaning K V) (atoms : K → V) (key : K) (got : List V) → 0 < m.rank key → HasAsked m atoms key got → (need : K → V)
    → ((k : K) → m.ask key got ≡ Need k → HasValue m atoms key (need k))
    → (a : Ask K V) → m.ask key got ≡ a → HasValue m atoms key (after a need (λ v. v))
after_has m atoms key got above asked need rest (Need k) is = rest k is
after_has m atoms key got above asked need rest (Done v) is = ran key got v above asked is

ended_has : {K V : Type 0} (m : Meaning K V) (atoms : K → V) → IsLawful m → (value_of : K → V) (key : K) → 0 < m.rank key → HoldBelow m atoms value_of (m.rank key)
    → (count : ℕ) (got : List V) → HasAsked m atoms key got → limit ≤ length got + count → HasValue m atoms key (ended (m.ask key) value_of (m.blank key) (suc count) got)
ended_has {K} {V} m atoms law value_of key above below zero got asked far =
    subst (λ (v : V). HasValue m atoms key v) (sym (first_ask (m.ask key) value_of (m.blank key) zero got))
    (after_has m atoms key got above asked _ (λ k is. absurd (subst (λ (a : Ask K V). IsDone a) is (law.ends key got (omega arith)))) (m.ask key got) refl)
ended_has {K} {V} m atoms law value_of key above below (suc count) got asked far =
    subst (λ (v : V). HasValue m atoms key v) (sym (first_ask (m.ask key) value_of (m.blank key) (suc count) got))
    (after_has m atoms key got above asked (λ k. ended (m.ask key) value_of (m.blank key) (suc count) (got ++ value_of k ∷ []))
    (λ k is. ended_has m atoms law value_of key above below count (got ++ value_of k ∷ [])
    (next key k got (value_of k) (got ++ value_of k ∷ []) asked is (below k (law.falls key k got is)) refl)
    (omega (arith, length-append got (value_of k ∷ [])))) (m.ask key got) refl)

rank_has : {K V : Type 0} (m : Meaning K V) (atoms : K → V) (key : K) (above : V) → (0 < m.rank key → HasValue m atoms key above)
    → (rank : ℕ) → m.rank key ≡ rank → HasValue m atoms key (by_rank rank (atoms key) above)
rank_has m atoms key above has zero is = atom key (atoms key) is refl
rank_has m atoms key above has (suc rank) is = has (omega arith)

within_has : {K V : Type 0} (m : Meaning K V) (atoms : K → V) → IsLawful m → (rank : ℕ) (key : K) → m.rank key ≤ rank → HasValue m atoms key (value_within m atoms rank key)
unfolding value_within
within_has m atoms law zero key low = atom key (atoms key) (omega arith) refl
within_has m atoms law (suc rank) key low =
    rank_has m atoms key _ (λ above. ended_has m atoms law (value_within m atoms rank) key above (λ k falls. within_has m atoms law rank k (omega arith)) limit [] (start key [] refl) (omega arith)) (m.rank key) refl

pub has_value : {K V : Type 0} (m : Meaning K V) (atoms : K → V) → IsLawful m → (key : K) → HasValue m atoms key (value m atoms key)
unfolding value
has_value m atoms law key = within_has m atoms law (m.rank key) key (omega arith)

pub value_is : {K V : Type 0} (m : Meaning K V) (atoms : K → V) → IsLawful m → (key : K) (v : V) → HasValue m atoms key v → v ≡ value m atoms key
value_is m atoms law key v has = value_same m atoms law key v _ has (has_value m atoms law key)

-- Where an atom changes.

-- the atoms are the same but for one
abbrev pub DiffersAt : {K V : Type 0} → Meaning K V → (K → V) → (K → V) → K → Type 0
DiffersAt {K} {V} m before after_ a = (key : K) → m.rank key ≡ 0 → (key ≡ a → ⊥) → before key ≡ after_ key

mutual
  value_back : {K V : Type 0} (m : Meaning K V) (before now : K → V) (a : K) → DiffersAt m before now a
      → (key : K) (v : V) → HasValue m now key v → (Meets m before a key → ⊥) → HasValue m before key v
  value_back m before now a same _ _ (atom key v at is) apart =
      atom key v at (is ∙ sym (same key at (λ e. apart (itself key (ap m.rank (sym e) ∙ at) e))))
  value_back m before now a same _ _ (ran key got v above asked is) apart =
      ran key got v above (asked_back m before now a same _ _ asked above apart) is

  asked_back : {K V : Type 0} (m : Meaning K V) (before now : K → V) (a : K) → DiffersAt m before now a
      → (key : K) (got : List V) → HasAsked m now key got → 0 < m.rank key → (Meets m before a key → ⊥) → HasAsked m before key got
  asked_back m before now a same _ _ (start key got e) above apart = start key got e
  asked_back m before now a same _ _ (next key needed got v all asked is has e) above apart =
      next key needed got v all (asked_back m before now a same _ _ asked above apart) is
      (value_back m before now a same _ _ has (λ q. apart (through key needed got above (asked_back m before now a same _ _ asked above apart) is q))) e

meets_back : {K V : Type 0} (m : Meaning K V) (before now : K → V) (a : K) → DiffersAt m before now a
    → (x key : K) → Meets m now x key → (Meets m before a key → ⊥) → Meets m before x key
meets_back m before now a same x _ (itself key at is) apart = itself key at is
meets_back m before now a same x _ (through key needed got above asked is deeper) apart =
    let was = asked_back m before now a same key got asked above apart in
    through key needed got above was is (meets_back m before now a same x needed deeper (λ q. apart (through key needed got above was is q)))

-- what a key comes to and meets is as before
pub record Stays {K V : Type 0} (m : Meaning K V) (before now : K → V) (key : K) : Type 0 where
  pub value : (v : V) → HasValue m before key v → HasValue m now key v
  pub meets : (x : K) → Meets m before x key → Meets m now x key
  pub met : (x : K) → Meets m now x key → Meets m before x key

-- a key whose run doesn't meet the atom that changes stays
pub stays : {K V : Type 0} (m : Meaning K V) (before now : K → V) (a : K) → DiffersAt m before now a
    → (key : K) → (Meets m before a key → ⊥) → Stays m before now key
stays {K} {V} m before now a same key apart =
    let away : Meets m now a key → ⊥ = λ q. apart (meets_back m before now a same a key q apart) in
    let other : DiffersAt m now before a = λ k at ne. sym (same k at ne) in
    record {
      value = λ v has. value_back m now before a other key v has away;
      meets = λ x q. meets_back m now before a other x key q away;
      met = λ x q. meets_back m before now a same x key q apart;
    }
