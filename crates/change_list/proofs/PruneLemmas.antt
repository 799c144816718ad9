-- What a pruning leaves.
use Rattle.std.proofs.Common.{◌≡◌, ◌⊎◌, ℕ, ◌-◌, ◌≤◌, ℤ, Bool, true, false, ◌&&◌, ◌||◌, T, cond, List, [], ◌∷◌, length, get_or, filter, Contains, refl, sym, ap, subst, ◌∙◌, inl, inr, lt-ltb}
use Rattle.std.specs.Prelude.{nat_lt}
use Rattle.std.specs.FinMap.Entries.{below_all}
use Rattle.std.proofs.lemmas.Bool.{false≢true}
use Rattle.links_core.specs.Lists.{list_at}
use Rattle.links_core.proofs.Members.{here, there, none_in_nil, contains_cases}
use Rattle.rooms_val.proofs.Truths.{and_holds}
use Rattle.rooms_val.specs.Maps.{order}
use Rattle.rooms_val.proofs.MapsLemmas.{first, second}
use Rattle.change_list.specs.declared.entries.Change.{Change}
use Rattle.change_list.specs.Changes.{blank, is_after, next_dead, HasRisingClocks}
use Rattle.change_list.specs.Kept.{entry_at, changes_at, keyed, HasRisingIds, IsKept, AreFreed, stays_at}
use Rattle.change_list.proofs.Clocks.{rising_filter}

pub kept_in_filter : (p : ℕ → Bool) (x : ℕ) (xs : List ℕ) → p x ≡ true → Contains xs x → Contains (filter p xs) x
kept_in_filter p x [] e q = q
kept_in_filter p x (y ∷ xs) e q =
    at (p y) refl (elim (contains_cases x y xs q) [ inl same ↦ inl same | inr rest ↦ inr (kept_in_filter p x xs e rest) ])
  where
    at : (b : Bool) → p y ≡ b → (y ≡ x) ⊎ Contains (filter p xs) x → Contains (cond b (y ∷ filter p xs) (filter p xs)) x
    at true h (inl same) = subst (λ (w : ℕ). Contains (y ∷ filter p xs) w) same (here y (filter p xs))
    at true h (inr rest) = there x y (filter p xs) rest
    at false h (inl same) = absurd (false≢true (sym h ∙ ap p same ∙ e))
    at false h (inr rest) = rest

pub from_filter : (p : ℕ → Bool) (x : ℕ) (xs : List ℕ) → Contains (filter p xs) x → Contains xs x × (p x ≡ true)
from_filter p x [] q = absurd (none_in_nil x q)
from_filter p x (y ∷ xs) q = at (from_filter p x xs) (p y) refl q
  where
    at : (Contains (filter p xs) x → Contains xs x × (p x ≡ true)) → (b : Bool) → p y ≡ b → Contains (cond b (y ∷ filter p xs) (filter p xs)) x → Contains (y ∷ xs) x × (p x ≡ true)
    at deeper true h r = elim (contains_cases x y (filter p xs) r) [
      | inl same ↦ (subst (λ (w : ℕ). Contains (y ∷ xs) w) same (here y xs), ap p (sym same) ∙ h)
      | inr rest ↦ let d = deeper rest in (there x y xs d.0, d.1)
    ]
    at deeper false h r = let d = deeper r in (there x y xs d.0, d.1)

pub map_filter : (entries : List Change) (p : Change → Bool) (xs : List ℕ) → changes_at entries (filter (λ n. p (entry_at entries n)) xs) ≡ filter p (changes_at entries xs)
map_filter entries p [] = refl
map_filter entries p (x ∷ xs) = at (p (entry_at entries x)) (map_filter entries p xs)
  where
    at : (b : Bool) → changes_at entries (filter (λ n. p (entry_at entries n)) xs) ≡ filter p (changes_at entries xs) → changes_at entries (cond b (x ∷ filter (λ n. p (entry_at entries n)) xs) (filter (λ n. p (entry_at entries n)) xs)) ≡ cond b (entry_at entries x ∷ filter p (changes_at entries xs)) (filter p (changes_at entries xs))
    at true rest = ap (λ cs. entry_at entries x ∷ cs) rest
    at false rest = rest

below_filter : (entries : List Change) (p : ℕ → Bool) (key : List ℕ) (xs : List ℕ) → T (below_all order key (keyed entries xs)) → T (below_all order key (keyed entries (filter p xs)))
below_filter entries p key [] h = h
below_filter entries p key (x ∷ xs) h = at (p x) (below_filter entries p key xs (second _ _ h))
  where
    at : (b : Bool) → T (below_all order key (keyed entries (filter p xs))) → T (below_all order key (keyed entries (cond b (x ∷ filter p xs) (filter p xs))))
    at true rest = and_holds _ _ (first _ _ h) rest
    at false rest = rest

pub rising_order : (entries : List Change) (p : ℕ → Bool) (xs : List ℕ) → HasRisingIds entries xs → HasRisingIds entries (filter p xs)
rising_order entries p [] h = h
rising_order entries p (x ∷ xs) h = at (p x) (rising_order entries p xs (second _ _ h))
  where
    at : (b : Bool) → HasRisingIds entries (filter p xs) → HasRisingIds entries (cond b (x ∷ filter p xs) (filter p xs))
    at true rest = and_holds _ _ (below_filter entries p (entry_at entries x).id xs (first _ _ h)) rest
    at false rest = rest

stays_where : (live low after : Bool) → low ≡ true → (live ≡ true) ⊎ (after ≡ true) → (low && (live || after)) ≡ true
stays_where true true after e h = refl
stays_where false true after e (inl l) = absurd (false≢true l)
stays_where false true after e (inr l) = l
stays_where live false after e h = absurd (false≢true e)

after_where : (live low after : Bool) → live ≡ false → (low && (live || after)) ≡ true → after ≡ true
after_where false true after l h = h
after_where false false after l h = absurd (false≢true h)
after_where true low after l h = absurd (false≢true (sym l))

-- after a pruning the lists and the order hold what they keep
pub pruned_kept : (lists others : List (List ℕ)) (entries : List Change) (order : List ℕ) (clock : ℤ) (count less : ℕ) → IsKept lists entries order count → AreFreed lists others entries clock less → IsKept others entries (filter (stays_at entries clock) order) less
pruned_kept lists others entries order clock count less k f = record {
  three = f.three;
  sound = f.sound;
  rising = rising_order entries (stays_at entries clock) order k.rising;
  live_listed = λ n q. let was = k.live_listed n (subst (λ (ws : List ℕ). Contains ws n) f.live q) in
      (kept_in_filter (stays_at entries clock) n order (stays_where _ _ _ (lt-ltb n (length entries) (f.sound.made 0 n q)) (inl was.1)) was.0, was.1);
  dead_listed = λ n q. let now = from_filter (λ m. is_after clock (entry_at entries m)) n (list_at lists 1) (subst (λ (ws : List ℕ). Contains ws n) f.dead q) in
      let was = k.dead_listed n now.0 in
      (kept_in_filter (stays_at entries clock) n order (stays_where _ _ _ (lt-ltb n (length entries) (f.sound.made 1 n q)) (inr now.1)) was.0, was.1);
  linked = λ n q. let now = from_filter (stays_at entries clock) n order q in
      elim (k.linked n now.0) [
        | inl l ↦ inl (subst (λ (ws : List ℕ). Contains ws n) (sym f.live) l)
        | inr l ↦ inr (subst (λ (ws : List ℕ). Contains ws n) (sym f.dead) (kept_in_filter (λ m. is_after clock (entry_at entries m)) n (list_at lists 1) (after_where _ _ _ (k.dead_listed n l).1 now.1) l))
      ];
  live_clocks = subst (λ (ws : List ℕ). HasRisingClocks (changes_at entries ws)) (sym f.live) k.live_clocks;
  dead_clocks = subst HasRisingClocks (sym (ap (changes_at entries) f.dead ∙ map_filter entries (is_after clock) (list_at lists 1))) (rising_filter (is_after clock) (changes_at entries (list_at lists 1)) k.dead_clocks);
  counted = f.counted;
}

pub next_dead_is : (most kept : ℕ) (start clock : ℤ) (dead : List Change) → nat_lt most (length dead) ≡ true → clock ≡ (get_or dead (length dead - kept - 1) blank).clock → filter (is_after clock) dead ≡ next_dead most kept start dead
next_dead_is most kept start clock dead more is = at (nat_lt most (length dead)) more
  where
    at : (b : Bool) → b ≡ true → filter (is_after clock) dead ≡ cond b (filter (is_after (cond b (get_or dead (length dead - kept - 1) blank).clock start)) dead) dead
    at true e = ap (λ k. filter (is_after k) dead) is
    at false e = absurd (false≢true e)
