-- No change is after the clock of a touch, of a burial, or of a pruning after them.
use Rattle.std.proofs.Common.{◌≡◌, ℕ, ℤ, ◌≤ℤ◌, Bool, true, false, cond, nat_lt, List, [], ◌∷◌, ◌++◌, length, map, filter, All, Contains, sym, subst, arith}
use Rattle.std.proofs.lemmas.Int.{ints}
use Rattle.std.proofs.lemmas.List.{map-append}
use Rattle.std.proofs.lemmas.List.Elements.{All-nil, All-cons, All-head, All-tail, All-append, All-push, All-filter, All-weaker, Contains-push}
use Rattle.change_list.specs.declared.entries.Change.{Change}
use Rattle.change_list.specs.Changes.{Changes, listed, IsListed, without_id, AreUpTo, is_after, next_start, next_dead}

front : (P : Change → Type 0) (xs ys : List Change) → All P (xs ++ ys) → All P xs
front P [] ys a = All-nil P
front P (x ∷ xs) ys a = All-cons P x xs (All-head P x (xs ++ ys) a) (front P xs ys (All-tail P x (xs ++ ys) a))

rest : (P : Change → Type 0) (xs ys : List Change) → All P (xs ++ ys) → All P ys
rest P [] ys a = a
rest P (x ∷ xs) ys a = rest P xs ys (All-tail P x (xs ++ ys) a)

of_parts : (P : Change → Type 0) (new : Changes) (live dead : List Change) → new.live ≡ live → new.dead ≡ dead → All P live → All P dead → All P (listed new)
of_parts P new live dead l d a b = All-append P new.live new.dead (subst (All P) (sym l) a) (subst (All P) (sym d) b)

pub up_to_touched : (old new : Changes) (id : List ℕ) (before clock : ℤ) → AreUpTo before (listed old) → before ≤ℤ clock → new.live ≡ without_id id old.live ++ record { id = id; clock = clock; live = true } ∷ [] → new.dead ≡ without_id id old.dead → AreUpTo clock (listed new)
up_to_touched old new id before clock up later live dead =
    of_parts P new _ _ live dead (All-push P (without_id id old.live) (record { id = id; clock = clock; live = true }) (All-filter _ P old.live (front P old.live old.dead so_far)) (omega (arith, ints))) (All-filter _ P old.dead (rest P old.live old.dead so_far))
  where
    P : Change → Type 0
    P change = change.clock ≤ℤ clock

    so_far : All P (listed old)
    so_far = All-weaker (λ (c : Change). c.clock ≤ℤ before) P (λ c le. omega (arith, ints, le, later)) (listed old) up

pub up_to_buried : (old new : Changes) (id : List ℕ) (clock : ℤ) → AreUpTo clock (listed old) → new.live ≡ without_id id old.live → new.dead ≡ old.dead ++ record { id = id; clock = clock; live = false } ∷ [] → AreUpTo clock (listed new)
up_to_buried old new id clock up live dead =
    of_parts P new _ _ live dead (All-filter _ P old.live (front P old.live old.dead up)) (All-push P old.dead (record { id = id; clock = clock; live = false }) (rest P old.live old.dead up) (omega (arith, ints)))
  where
    P : Change → Type 0
    P change = change.clock ≤ℤ clock

pub up_to_pruned : (old new : Changes) (most kept : ℕ) (clock : ℤ) → AreUpTo clock (listed old) → new.live ≡ old.live → new.dead ≡ next_dead most kept old.start old.dead → AreUpTo clock (listed new)
up_to_pruned old new most kept clock up live dead =
    of_parts P new _ _ live dead (front P old.live old.dead up) (chosen (nat_lt most (length old.dead)))
  where
    P : Change → Type 0
    P change = change.clock ≤ℤ clock

    chosen : (b : Bool) → All P (cond b (filter (is_after (next_start most kept old.start old.dead)) old.dead) old.dead)
    chosen true = All-filter _ P old.dead (rest P old.live old.dead up)
    chosen false = rest P old.live old.dead up

pub listed_last : (live before : List Change) (change : Change) (id : List ℕ) → change.id ≡ id → live ≡ before ++ change ∷ [] → IsListed live id
listed_last live before change id same e =
    subst (IsListed live) same (subst (λ (cs : List Change). IsListed cs change.id) (sym e) (subst (λ (ids : List (List ℕ)). Contains ids change.id) (sym (map-append (λ (c : Change). c.id) before (change ∷ []))) (Contains-push (map (λ (c : Change). c.id) before) change.id)))
