-- No change is after the clock of a touch.
use Rattle.std.proofs.Common.{◌≡◌, ℕ, ℤ, ◌≤ℤ◌, true, List, [], ◌∷◌, ◌++◌, All, sym, subst, arith}
use Rattle.std.proofs.lemmas.Int.{ints}
use Rattle.std.proofs.lemmas.List.Elements.{All-nil, All-cons, All-head, All-tail, All-append, All-push, All-filter, All-weaker}
use Rattle.change_list.specs.declared.entries.Change.{Change}
use Rattle.change_list.specs.Changes.{Changes, listed, without_id, AreUpTo}

front : (P : Change → Type 0) (xs ys : List Change) → All P (xs ++ ys) → All P xs
front P [] ys a = All-nil P
front P (x ∷ xs) ys a = All-cons P x xs (All-head P x (xs ++ ys) a) (front P xs ys (All-tail P x (xs ++ ys) a))

rest : (P : Change → Type 0) (xs ys : List Change) → All P (xs ++ ys) → All P ys
rest P [] ys a = a
rest P (x ∷ xs) ys a = rest P xs ys (All-tail P x (xs ++ ys) a)

pub up_to_touched : (old new : Changes) (id : List ℕ) (before clock : ℤ) → AreUpTo before (listed old) → before ≤ℤ clock → new.live ≡ without_id id old.live ++ record { id = id; clock = clock; live = true } ∷ [] → new.dead ≡ without_id id old.dead → AreUpTo clock (listed new)
up_to_touched old new id before clock up later live dead =
    All-append P new.live new.dead (subst (All P) (sym live) touched) (subst (All P) (sym dead) (All-filter _ P old.dead (rest P old.live old.dead so_far)))
  where
    P : Change → Type 0
    P change = change.clock ≤ℤ clock

    so_far : All P (listed old)
    so_far = All-weaker (λ (c : Change). c.clock ≤ℤ before) P (λ c le. omega (arith, ints, le, later)) (listed old) up

    touched : All P (without_id id old.live ++ record { id = id; clock = clock; live = true } ∷ [])
    touched = All-push P (without_id id old.live) (record { id = id; clock = clock; live = true }) (All-filter _ P old.live (front P old.live old.dead so_far)) (omega (arith, ints))
