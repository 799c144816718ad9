-- What marks of ids make of the lists, wherever those were listed.
use Rattle.std.proofs.Common.{◌≡◌, ℕ, ℤ, ◌≤ℤ◌, Bool, true, false, ◌||◌, cond, not, is_eq, List, [], ◌∷◌, ◌++◌, refl, ap, ◌∙◌}
use Rattle.std.proofs.lemmas.List.{append-nil}
use Rattle.std.proofs.lemmas.List.Elements.{All-append, All-filter, filter-append}
use Rattle.change_list.specs.declared.entries.Change.{Change}
use Rattle.change_list.specs.Changes.{has_id, without_id, AreUpTo, IsListed}
use Rattle.rooms_val.proofs.MapsLemmas.{order_itself}
use Rattle.room_history.specs.Begins.{mark_new}
use Rattle.room_history.specs.Marks.{Lists, is_listed}
use Rattle.room_history.proofs.ListedLemmas.{all_left, all_right, is_contained, latest_after}

-- a change is of its own id
own : (change : Change) → has_id change.id change ≡ true
own change = ap is_eq (order_itself change.id)

-- the id that is put last is listed
pub last_listed : (changes : List Change) (change : Change) → IsListed (changes ++ change ∷ []) change.id
last_listed changes change = is_contained (changes ++ change ∷ []) change.id (pushed changes)
  where
    pushed : (cs : List Change) → is_listed (cs ++ change ∷ []) change.id ≡ true
    pushed [] = ap (λ b. b || false) (own change)
    pushed (c ∷ cs) = elim (has_id change.id c) as (λ b. b || is_listed (cs ++ change ∷ []) change.id ≡ true) [ true ↦ refl | false ↦ pushed cs ]

twice : (id : List ℕ) (changes : List Change) → without_id id (without_id id changes) ≡ without_id id changes
twice id [] = refl
twice id (c ∷ cs) =
    elim (has_id id c) as (λ b. has_id id c ≡ b → without_id id (cond (not b) (c ∷ without_id id cs) (without_id id cs)) ≡ cond (not b) (c ∷ without_id id cs) (without_id id cs)) [
      | true ↦ λ is. twice id cs
      | false ↦ λ is. ap (λ b. cond (not b) (c ∷ without_id id (without_id id cs)) (without_id id (without_id id cs))) is ∙ ap (λ r. c ∷ r) (twice id cs)
    ] refl

-- the id that is put last is taken away again
pub last_gone : (changes : List Change) (change : Change) → without_id change.id (without_id change.id changes ++ change ∷ []) ≡ without_id change.id changes
last_gone changes change =
    filter-append (λ c. not (has_id change.id c)) (without_id change.id changes) (change ∷ [])
    ∙ (λ i. twice change.id changes i ++ cond (not (own change i)) (change ∷ []) [])
    ∙ append-nil (without_id change.id changes)

-- the marked id has the latest clock
pub latest_new : (clock : ℤ) (id : List ℕ) (live : Bool) (lists : Lists) → AreUpTo clock (lists.0 ++ lists.1) → AreUpTo clock ((mark_new clock id live lists).0 ++ (mark_new clock id live lists).1)
latest_new clock id true lists h = latest_after clock id true lists h
latest_new clock id false lists h =
    let P : Change → Type 0 = λ change. change.clock ≤ℤ clock in
    latest_after clock id false (lists.0, without_id id lists.1)
    (All-append P _ _ (all_left P lists.0 lists.1 h) (All-filter (λ c. not (has_id id c)) P lists.1 (all_right P lists.0 lists.1 h)))
