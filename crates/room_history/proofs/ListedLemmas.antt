-- What lists of changes have once ids are marked.
use Rattle.std.proofs.Common.{◌≡◌, ℕ, ℤ, ◌≤ℤ◌, Bool, true, false, ◌||◌, cond, not, List, [], ◌∷◌, ◌++◌, map, Some, None, All, Contains, refl, sym, ap, subst, ◌∙◌, arith}
use Rattle.std.specs.List.{list_all}
use Rattle.std.proofs.lemmas.List.Elements.{All-nil, All-cons, All-head, All-tail, All-append, All-filter, Contains-append_left, Contains-append_right, Contains-push}
use Rattle.std.proofs.lemmas.Int.{ints}
use Rattle.change_list.specs.declared.entries.Change.{Change}
use Rattle.change_list.specs.Changes.{has_id, without_id, IsListed, AreUpTo}
use Rattle.rooms_val.proofs.Truths.{or_left, and_left, and_right, and_true}
use Rattle.rooms_val.specs.Maps.{value_at, ties}
use Rattle.rooms_val.proofs.MapsLemmas.{ties_same, ties_flip}
use Rattle.room_history.specs.Marks.{Marks, Lists, is_listed, mark_one}

module _ {X : Type 0} (P : X → Type 0) where
  pub all_left : (xs ys : List X) → All P (xs ++ ys) → All P xs
  all_left [] ys h = All-nil P
  all_left (x ∷ xs) ys h = All-cons P x xs (All-head P x (xs ++ ys) h) (all_left xs ys (All-tail P x (xs ++ ys) h))

  pub all_right : (xs ys : List X) → All P (xs ++ ys) → All P ys
  all_right [] ys h = h
  all_right (x ∷ xs) ys h = all_right xs ys (All-tail P x (xs ++ ys) h)

-- an id that is listed stands among the ids
pub is_contained : (changes : List Change) (id : List ℕ) → is_listed changes id ≡ true → IsListed changes id
is_contained [] id is = absurd (cc)
is_contained (change ∷ changes) id is =
    elim (ties change.id id) as (λ b. ties change.id id ≡ b → b || is_listed changes id ≡ true → IsListed (change ∷ changes) id) [
      | true ↦ λ same h. subst (λ k. Contains (k ∷ map (λ c. c.id) changes) id) (sym (ties_same change.id id same)) (Contains-append_left (id ∷ []) (map (λ c. c.id) changes) id (Contains-push [] id))
      | false ↦ λ other h. Contains-append_right (change.id ∷ []) (map (λ c. c.id) changes) id (is_contained changes id h)
    ] refl is

module _ (clock : ℤ) (id : List ℕ) where
  abbrev UpTo : Change → Type 0
  UpTo change = change.clock ≤ℤ clock

  -- a marked id has the latest clock
  pub latest_after : (live : Bool) (lists : Lists) → AreUpTo clock (lists.0 ++ lists.1) → AreUpTo clock ((mark_one clock id live lists).0 ++ (mark_one clock id live lists).1)
  latest_after true lists h =
      let l = All-filter (λ c. not (has_id id c)) UpTo lists.0 (all_left UpTo lists.0 lists.1 h) in
      let d = All-filter (λ c. not (has_id id c)) UpTo lists.1 (all_right UpTo lists.0 lists.1 h) in
      All-append UpTo _ _ (All-append UpTo _ _ l (All-cons UpTo _ [] (omega (arith, ints)) (All-nil UpTo))) d
  latest_after false lists h =
      let l = All-filter (λ c. not (has_id id c)) UpTo lists.0 (all_left UpTo lists.0 lists.1 h) in
      let d = all_right UpTo lists.0 lists.1 h in
      All-append UpTo _ _ l (All-append UpTo _ _ d (All-cons UpTo _ [] (omega (arith, ints)) (All-nil UpTo)))

listed-append : (xs ys : List Change) (q : List ℕ) → is_listed (xs ++ ys) q ≡ is_listed xs q || is_listed ys q
listed-append [] ys q = refl
listed-append (x ∷ xs) ys q = elim (has_id q x) as (λ b. b || is_listed (xs ++ ys) q ≡ (b || is_listed xs q) || is_listed ys q) [ true ↦ refl | false ↦ listed-append xs ys q ]

-- another id is listed as before
listed-without : (changes : List Change) (id q : List ℕ) → ties q id ≡ false → is_listed changes q ≡ true → is_listed (without_id id changes) q ≡ true
listed-without [] id q other is = is
listed-without (c ∷ cs) id q other is =
    elim (ties c.id q) as (λ b. ties c.id q ≡ b → b || is_listed cs q ≡ true → is_listed (cond (not (ties c.id id)) (c ∷ without_id id cs) (without_id id cs)) q ≡ true) [
      | true ↦ λ same h.
          let stays : ties c.id id ≡ false = ap (λ k. ties k id) (ties_same c.id q same) ∙ other in
          ap (λ b. is_listed (cond (not b) (c ∷ without_id id cs) (without_id id cs)) q) stays ∙ ap (λ b. b || is_listed (without_id id cs) q) same
      | false ↦ λ differs h.
          let rest = listed-without cs id q other h in
          elim (ties c.id id) as (λ b. is_listed (cond (not b) (c ∷ without_id id cs) (without_id id cs)) q ≡ true) [
            | true ↦ rest
            | false ↦ ap (λ b. b || is_listed (without_id id cs) q) differs ∙ rest
          ]
    ] refl is

listed-marked : (clock : ℤ) (id q : List ℕ) (live : Bool) (lists : Lists) → ties q id ≡ false → is_listed lists.0 q ≡ true → is_listed ((mark_one clock id live lists).0) q ≡ true
listed-marked clock id q true lists other is = listed-append (without_id id lists.0) _ q ∙ or_left _ _ (listed-without lists.0 id q other is)
listed-marked clock id q false lists other is = listed-without lists.0 id q other is

-- those that are still to be marked can be
pub can_mark : (clock : ℤ) (id : List ℕ) (live : Bool) (lists : Lists) (marks : Marks) → value_at marks id ≡ None
    → list_all (λ mark. mark.1 || is_listed lists.0 mark.0) marks ≡ true → list_all (λ mark. mark.1 || is_listed ((mark_one clock id live lists).0) mark.0) marks ≡ true
can_mark clock id live lists [] fresh all = refl
can_mark clock id live lists (mark ∷ marks) fresh all =
    elim (ties id mark.0) as (λ b. ties id mark.0 ≡ b → cond b (Some mark.1) (value_at marks id) ≡ None → list_all (λ mark. mark.1 || is_listed ((mark_one clock id live lists).0) mark.0) (mark ∷ marks) ≡ true) [
      | true ↦ λ same some. absurd (cc)
      | false ↦ λ other rest.
          and_true _ _
          (elim mark.1 as (λ b. b || is_listed lists.0 mark.0 ≡ true → b || is_listed ((mark_one clock id live lists).0) mark.0 ≡ true) [
            | true ↦ λ h. refl
            | false ↦ λ h. listed-marked clock id mark.0 live lists (ties_flip mark.0 id ∙ other) h
          ] (and_left _ _ all))
          (can_mark clock id live lists marks rest (and_right _ _ all))
    ] refl fresh
