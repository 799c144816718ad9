-- Edges after a node is taken, linked and unlinked.
use Rattle.std.proofs.Common.{◌≡◌, ℕ, zero, suc, ◌+◌, ◌<◌, ◌≤◌, Bool, true, false, not, cond, eqb, inl, inr, List, [], ◌∷◌, ◌++◌, length, set, map, ◌≢◌, Contains, refl, sym, ◌∙◌, ap, subst, arith, length-append, eqb-true, eq-eqb, Option, Some, None}
use Rattle.std.proofs.lemmas.List.{length-map, length-set, get_or-map, get_or_past, get_or-set_same, get_or-set_other, get_or_append_left, map-append}
use Rattle.std.proofs.Math.Seq.{get_or-append_seam}
use Rattle.std.proofs.lemmas.Bool.{cases_lt, false≢true}
use Rattle.links_core.specs.Lists.{Lists, list_at, IsApart, AreSound, without, first_of}
use Rattle.links_core.proofs.Members.{first_in_list, here, there, none_in_nil, contains_cases, without-absent, without_all}
use Rattle.signal_values.specs.Wired.{child_at, children_of, AreWired, IsTaken, HaveGrown}
use Rattle.signal_values.proofs.RowLemmas.{grown, push_cases, push_has, push_keeps, in_without, to_without}

pub without-shorter : (x : ℕ) (xs : List ℕ) → length (without x xs) ≤ length xs
without-shorter x [] = omega arith
without-shorter x (z ∷ xs) = at (without-shorter x xs) (eqb z x)
  where
    at : length (without x xs) ≤ length xs → (b : Bool) → length (cond (not b) (z ∷ without x xs) (without x xs)) ≤ length (z ∷ xs)
    at most true = omega arith
    at most false = omega arith

-- a list is shorter without what it has
pub without-less : (x : ℕ) (xs : List ℕ) → Contains xs x → length (without x xs) < length xs
without-less x [] p = absurd (none_in_nil x p)
without-less x (z ∷ xs) p = at (without-less x xs) (eqb z x) refl
  where
    at : (Contains xs x → length (without x xs) < length xs) → (b : Bool) → eqb z x ≡ b → length (cond (not b) (z ∷ without x xs) (without x xs)) < length (z ∷ xs)
    at less true e = omega (arith, without-shorter x xs)
    at less false e =
        elim (contains_cases x z xs p) [
          | inl same ↦ absurd (false≢true (sym e ∙ eq-eqb z x same))
          | inr rest ↦ omega (arith, less rest)
        ]

-- without a child it makes no difference that an edge to it is gone
drop_one : (c d : ℕ) (ys : List ℕ) → d ≡ c → without c (d ∷ ys) ≡ without c ys
drop_one c d ys same = at (eqb d c) (eq-eqb d c same)
  where
    at : (b : Bool) → b ≡ true → cond (not b) (d ∷ without c ys) (without c ys) ≡ without c ys
    at true e = refl
    at false e = absurd (false≢true e)

same_row : (ends : List ℕ) (edge : ℕ) (xs : List ℕ) → without (child_at ends edge) (map (child_at ends) (without edge xs)) ≡ without (child_at ends edge) (map (child_at ends) xs)
same_row ends edge [] = refl
same_row ends edge (z ∷ xs) = at (same_row ends edge xs) (eqb z edge) refl
  where
    keep : (c d : ℕ) (ys zs : List ℕ) → without c ys ≡ without c zs → without c (d ∷ ys) ≡ without c (d ∷ zs)
    keep c d ys zs e = ap (λ ws. cond (not (eqb d c)) (d ∷ ws) ws) e

    at : without (child_at ends edge) (map (child_at ends) (without edge xs)) ≡ without (child_at ends edge) (map (child_at ends) xs) → (b : Bool) → eqb z edge ≡ b
        → without (child_at ends edge) (map (child_at ends) (cond (not b) (z ∷ without edge xs) (without edge xs))) ≡ without (child_at ends edge) (map (child_at ends) (z ∷ xs))
    at rest true e =
        rest ∙ sym (drop_one (child_at ends edge) (child_at ends z) (map (child_at ends) xs) (ap (child_at ends) (eqb-true z edge e)))
    at rest false e = keep (child_at ends edge) (child_at ends z) _ _ rest

pub same_without : (ends : List ℕ) (edge child : ℕ) → child_at ends edge ≡ child → (lists : List (List ℕ)) → map (without child) (children_of ends (map (without edge) lists)) ≡ map (without child) (children_of ends lists)
same_without ends edge child is [] = refl
same_without ends edge child is (xs ∷ lists) =
    let first : without child (map (child_at ends) (without edge xs)) ≡ without child (map (child_at ends) xs) = subst (λ (c : ℕ). without c (map (child_at ends) (without edge xs)) ≡ without c (map (child_at ends) xs)) is (same_row ends edge xs) in
    let rest = same_without ends edge child is lists in
    cc

-- the children of one row
pub row_of : (ends : List ℕ) (lists : List (List ℕ)) (n : ℕ) → list_at (children_of ends lists) n ≡ map (child_at ends) (list_at lists n)
row_of ends lists n =
    elim (cases_lt n (length lists)) [
      | inl below ↦ get_or-map (map (child_at ends)) lists n [] [] below
      | inr above ↦ get_or_past (children_of ends lists) n [] (omega (arith, length-map lists (map (child_at ends)))) ∙ ap (map (child_at ends)) (sym (get_or_past lists n [] above))
    ]

-- a child of a row is that of an edge
pub edge_of : (ends : List ℕ) (xs : List ℕ) (c : ℕ) → Contains (map (child_at ends) xs) c → (e : ℕ) × Contains xs e × (child_at ends e ≡ c)
edge_of ends [] c p = absurd (none_in_nil c p)
edge_of ends (x ∷ xs) c p =
    elim (contains_cases c (child_at ends x) (map (child_at ends) xs) p) [
      | inl same ↦ (x, here x xs, same)
      | inr rest ↦ let q = edge_of ends xs c rest in (q.0, there q.0 x xs q.1, q.2)
    ]

-- lists of which none has a number are as they are without it
pub none_without : (x : ℕ) (lists : List (List ℕ)) → ((n : ℕ) → Contains (list_at lists n) x → ⊥) → map (without x) lists ≡ lists
none_without x [] none = refl
none_without x (ws ∷ lists) none =
    let first : without x ws ≡ ws = without-absent x ws (none 0) in
    let rest : map (without x) lists ≡ lists = none_without x lists (λ n. none (suc n)) in
    cc

-- the list of a child comes after the free ones
pub other_list : (lists : List (List ℕ)) (xs : List ℕ) (n : ℕ) → list_at (set lists 0 xs) (suc n) ≡ list_at lists (suc n)
other_list [] xs n = refl
other_list (ws ∷ lists) xs n = refl

-- an edge was unlinked, and its node is free
pub unlinked_is : (parents kids after_parents after_kids : List (List ℕ)) (pc kc pd kd : ℕ) (ends : List ℕ) (child edge : ℕ) → AreWired parents kids pc kc ends
    → Contains (list_at kids (suc child)) edge
    → after_parents ≡ map (without edge) parents → pd ≡ pc → AreSound after_parents pd
    → after_kids ≡ set (map (without edge) kids) 0 (list_at (map (without edge) kids) 0 ++ edge ∷ []) → kd ≡ kc → AreSound after_kids kd
    → AreWired after_parents after_kids pd kd ends
unlinked_is parents kids after_parents after_kids pc kc pd kd ends child edge wired has pl pe ps kl ke ks =
    let moved : (n : ℕ) → list_at after_kids (suc n) ≡ list_at (map (without edge) kids) (suc n) = λ n. ap (λ (ls : List (List ℕ)). list_at ls (suc n)) kl ∙ other_list (map (without edge) kids) _ n in
    record {
      parent_made = pe ∙ wired.parent_made;
      kid_made = ke ∙ wired.kid_made;
      parent_sound = ps;
      kid_sound = ks;
      rows = omega (arith, wired.rows, ap length pl, ap length kl, length-map parents (without edge), length-map kids (without edge), length-set (map (without edge) kids) 0 (list_at (map (without edge) kids) 0 ++ edge ∷ []));
      into = λ parent x p.
          let q = in_without edge parents parent x (subst (λ (ls : List (List ℕ)). Contains (list_at ls parent) x) pl p) in
          subst (λ (ws : List ℕ). Contains ws x) (sym (moved (child_at ends x))) (to_without edge kids (suc (child_at ends x)) x q.0 (wired.into parent x q.1));
      out = λ c x p.
          let q = in_without edge kids (suc c) x (subst (λ (ws : List ℕ). Contains ws x) (moved c) p) in
          let was = wired.out c x q.1 in
          ((was.0.0, subst (λ (ls : List (List ℕ)). Contains (list_at ls was.0.0) x) (sym pl) (to_without edge parents was.0.0 x q.0 was.0.1)), was.1);
    }

-- where the list of a child is empty no row has it
pub gone : (parents kids : List (List ℕ)) (pc kc : ℕ) (ends : List ℕ) (child : ℕ) → AreWired parents kids pc kc ends → list_at kids (suc child) ≡ [] → (n : ℕ) → Contains (list_at (children_of ends parents) n) child → ⊥
gone parents kids pc kc ends child wired empty n p =
    let q = edge_of ends (list_at parents n) child (subst (λ (ws : List ℕ). Contains ws child) (row_of ends parents n) p) in
    let w = wired.into n q.0 q.1 in
    none_in_nil q.0 (subst (λ (ws : List ℕ). Contains ws q.0) (ap (λ c. list_at kids (suc c)) q.2 ∙ empty) w)

-- what is first in a list is in it, and a list with no first is empty
pub first_has : (lists : List (List ℕ)) (n child edge : ℕ) (found : Option ℕ) → n ≡ child + 1 → found ≡ first_of (list_at lists n) → found ≡ Some edge → Contains (list_at lists (suc child)) edge
first_has lists n child edge found at is some =
    first_in_list (list_at lists (suc child)) edge (ap (λ (k : ℕ). first_of (list_at lists k)) (sym (at_suc n child at)) ∙ sym is ∙ some)
  where
    at_suc : (n child : ℕ) → n ≡ child + 1 → n ≡ suc child
    at_suc n child e = omega arith

pub first_none : (lists : List (List ℕ)) (n child : ℕ) (found : Option ℕ) → n ≡ child + 1 → found ≡ first_of (list_at lists n) → found ≡ None → list_at lists (suc child) ≡ []
first_none lists n child found at is none =
    empty (list_at lists (suc child)) (ap (λ (k : ℕ). first_of (list_at lists k)) (sym (at_suc n child at)) ∙ sym is ∙ none)
  where
    at_suc : (n child : ℕ) → n ≡ child + 1 → n ≡ suc child
    at_suc n child e = omega arith

    empty : (xs : List ℕ) → first_of xs ≡ None → xs ≡ []
    empty [] e = refl
    empty (x ∷ xs) e = absurd (cc)

-- Edges made.

-- what is wired stays so where nothing that it reads changes
pub wired_same : (parents kids parents_after kids_after : List (List ℕ)) (pc kc pd kd : ℕ) (ends ends_after : List ℕ) → parents_after ≡ parents → kids_after ≡ kids → pd ≡ pc → kd ≡ kc → ends_after ≡ ends
    → AreWired parents kids pc kc ends → AreWired parents_after kids_after pd kd ends_after
wired_same parents kids parents_after kids_after pc kc pd kd ends ends_after pl kl pe ke el wired =
    subst (λ (ls : List (List ℕ)). AreWired ls kids_after pd kd ends_after) (sym pl)
    (subst (λ (ls : List (List ℕ)). AreWired parents ls pd kd ends_after) (sym kl)
    (subst (λ (n : ℕ). AreWired parents kids n kd ends_after) (sym pe)
    (subst (λ (n : ℕ). AreWired parents kids pc n ends_after) (sym ke)
    (subst (λ (xs : List ℕ). AreWired parents kids pc kc xs) (sym el) wired))))

sound_grown : (lists : List (List ℕ)) (count : ℕ) → AreSound lists count → AreSound (lists ++ [] ∷ []) count
sound_grown lists count sound = record {
  made = λ n x p. sound.made n x (subst (λ (ws : List ℕ). Contains ws x) (grown lists n) p);
  once = λ n. subst (λ (ws : List ℕ). IsApart ws) (sym (grown lists n)) (sound.once n);
  in_one = λ n k x p q. sound.in_one n k x (subst (λ (ws : List ℕ). Contains ws x) (grown lists n) p) (subst (λ (ws : List ℕ). Contains ws x) (grown lists k) q);
}

-- one more list of children
pub kids_grown : (parents kids : List (List ℕ)) (pc kc : ℕ) (ends : List ℕ) → AreWired parents kids pc kc ends → AreWired parents (kids ++ [] ∷ []) pc kc ends
kids_grown parents kids pc kc ends wired = record {
  parent_made = wired.parent_made;
  kid_made = wired.kid_made;
  parent_sound = wired.parent_sound;
  kid_sound = sound_grown kids kc wired.kid_sound;
  rows = omega (arith, wired.rows, length-append kids ([] ∷ []));
  into = λ p x q. subst (λ (ws : List ℕ). Contains ws x) (sym (grown kids (suc (child_at ends x)))) (wired.into p x q);
  out = λ c x q. wired.out c x (subst (λ (ws : List ℕ). Contains ws x) (grown kids (suc c)) q);
}

-- one more row
pub parents_grown : (parents kids : List (List ℕ)) (pc kc : ℕ) (ends : List ℕ) → suc (length parents) < length kids → AreWired parents kids pc kc ends → AreWired (parents ++ [] ∷ []) kids pc kc ends
parents_grown parents kids pc kc ends low wired = record {
  parent_made = wired.parent_made;
  kid_made = wired.kid_made;
  parent_sound = sound_grown parents pc wired.parent_sound;
  kid_sound = wired.kid_sound;
  rows = omega (arith, low, length-append parents ([] ∷ []));
  into = λ p x q. wired.into p x (subst (λ (ws : List ℕ). Contains ws x) (grown parents p) q);
  out = λ c x q. let was = wired.out c x q in ((was.0.0, subst (λ (ws : List ℕ). Contains ws x) (sym (grown parents was.0.0)) was.0.1), was.1);
}

map_same : (f g : ℕ → ℕ) (xs : List ℕ) → ((x : ℕ) → Contains xs x → f x ≡ g x) → map f xs ≡ map g xs
map_same f g [] same = refl
map_same f g (x ∷ xs) same =
    let first : f x ≡ g x = same x (here x xs) in
    let rest : map f xs ≡ map g xs = map_same f g xs (λ y p. same y (there y x xs p)) in
    cc

children_same : (ends ends_after : List ℕ) (lists : List (List ℕ)) → ((n x : ℕ) → Contains (list_at lists n) x → child_at ends_after x ≡ child_at ends x) → children_of ends_after lists ≡ children_of ends lists
children_same ends ends_after [] same = refl
children_same ends ends_after (ws ∷ lists) same =
    let first : map (child_at ends_after) ws ≡ map (child_at ends) ws = map_same (child_at ends_after) (child_at ends) ws (same 0) in
    let rest : children_of ends_after lists ≡ children_of ends lists = children_same ends ends_after lists (λ n. same (suc n)) in
    cc

-- a free node is no edge
free_apart : (parents kids : List (List ℕ)) (pc kc : ℕ) (ends : List ℕ) (edge : ℕ) → AreWired parents kids pc kc ends → Contains (list_at kids 0) edge → (n x : ℕ) → Contains (list_at parents n) x → x ≢ edge
free_apart parents kids pc kc ends edge wired free n x p = λ same.
    let q : 0 ≡ suc (child_at ends x) = wired.kid_sound.in_one 0 (suc (child_at ends x)) x (subst (λ (w : ℕ). Contains (list_at kids 0) w) (sym same) free) (wired.into n x p) in
    omega (arith, q)

kid_apart : (parents kids : List (List ℕ)) (pc kc : ℕ) (ends : List ℕ) (edge : ℕ) → AreWired parents kids pc kc ends → Contains (list_at kids 0) edge → (c x : ℕ) → Contains (list_at kids (suc c)) x → x ≢ edge
kid_apart parents kids pc kc ends edge wired free c x p =
    let q = wired.out c x p in free_apart parents kids pc kc ends edge wired free q.0.0 x q.0.1

-- a free node was taken for an edge to a child
pub reused : (parents kids parents_after kids_after : Lists) (ends ends_after : List ℕ) (child edge : ℕ) → AreWired parents.lists kids.lists parents.count kids.count ends → Contains (list_at kids.lists 0) edge
    → parents_after ≡ parents → kids_after.lists ≡ map (without edge) kids.lists → kids_after.count ≡ kids.count → AreSound kids_after.lists kids_after.count → ends_after ≡ set ends edge child
    → IsTaken parents kids parents_after kids_after ends ends_after child edge
reused parents kids parents_after kids_after ends ends_after child edge wired free pe kl ke ks el =
    let low : edge < length ends = omega (arith, wired.kid_sound.made 0 edge free, wired.kid_made) in
    let long : length ends_after ≡ length ends = ap length el ∙ length-set ends edge child in
    let other : (x : ℕ) → x ≢ edge → child_at ends_after x ≡ child_at ends x = λ x ne. ap (λ (xs : List ℕ). child_at xs x) el ∙ get_or-set_other ends edge x child 0 ne in
    let pl : parents_after.lists ≡ parents.lists = ap (λ (s : Lists). s.lists) pe in
    let pc : parents_after.count ≡ parents.count = ap (λ (s : Lists). s.count) pe in
    record {
      wired = record {
        parent_made = pc ∙ wired.parent_made ∙ sym long;
        kid_made = ke ∙ wired.kid_made ∙ sym long;
        parent_sound = subst (λ (s : Lists). AreSound s.lists s.count) (sym pe) wired.parent_sound;
        kid_sound = ks;
        rows = omega (arith, wired.rows, ap length pl, ap length kl, length-map kids.lists (without edge));
        into = λ p x q.
            let was : Contains (list_at parents.lists p) x = subst (λ (ls : List (List ℕ)). Contains (list_at ls p) x) pl q in
            let ne : x ≢ edge = free_apart parents.lists kids.lists parents.count kids.count ends edge wired free p x was in
            subst (λ (n : ℕ). Contains (list_at kids_after.lists (suc n)) x) (sym (other x ne))
            (subst (λ (ls : List (List ℕ)). Contains (list_at ls (suc (child_at ends x))) x) (sym kl) (to_without edge kids.lists (suc (child_at ends x)) x ne (wired.into p x was)));
        out = λ c x q.
            let was = in_without edge kids.lists (suc c) x (subst (λ (ls : List (List ℕ)). Contains (list_at ls (suc c)) x) kl q) in
            let out = wired.out c x was.1 in
            ((out.0.0, subst (λ (ls : List (List ℕ)). Contains (list_at ls out.0.0) x) (sym pl) out.0.1), other x was.0 ∙ out.1);
      };
      lists = pl;
      rows = ap length kl ∙ length-map kids.lists (without edge);
      same = ap (children_of ends_after) pl ∙ children_same ends ends_after parents.lists (λ n x p. other x (free_apart parents.lists kids.lists parents.count kids.count ends edge wired free n x p));
      here = ap (λ (xs : List ℕ). child_at xs edge) el ∙ get_or-set_same ends edge child 0 low;
      made = omega (arith, low, long);
      no_parent = λ q. free_apart parents.lists kids.lists parents.count kids.count ends edge wired free q.0 edge (subst (λ (ls : List (List ℕ)). Contains (list_at ls q.0) edge) pl q.1) refl;
      no_kid = λ q. without_all kids.lists edge (q.0, subst (λ (ls : List (List ℕ)). Contains (list_at ls q.0) edge) kl q.1);
    }

sound_more : (lists : List (List ℕ)) (count more : ℕ) → count ≤ more → AreSound lists count → AreSound lists more
sound_more lists count more low sound = record {
  made = λ n x p. let q : x < count = sound.made n x p in omega arith;
  once = sound.once;
  in_one = sound.in_one;
}

-- a new node was taken for an edge to a child
pub made_new : (parents kids parents_after kids_after : Lists) (ends ends_after : List ℕ) (child edge : ℕ) → AreWired parents.lists kids.lists parents.count kids.count ends
    → parents_after.lists ≡ parents.lists → parents_after.count ≡ parents.count + 1 → kids_after.lists ≡ kids.lists → kids_after.count ≡ kids.count + 1 → ends_after ≡ ends ++ child ∷ [] → edge ≡ parents.count
    → IsTaken parents kids parents_after kids_after ends ends_after child edge
made_new parents kids parents_after kids_after ends ends_after child edge wired pl pc kl kc el is =
    let long : length ends_after ≡ suc (length ends) = omega (arith, ap length el, length-append ends (child ∷ [])) in
    let last : edge ≡ length ends = is ∙ wired.parent_made in
    let other : (x : ℕ) → x < length ends → child_at ends_after x ≡ child_at ends x = λ x low. ap (λ (xs : List ℕ). child_at xs x) el ∙ get_or_append_left ends (child ∷ []) 0 x low in
    let known : (n x : ℕ) → Contains (list_at parents.lists n) x → x < length ends = λ n x p. omega (arith, wired.parent_sound.made n x p, wired.parent_made) in
    record {
      wired = record {
        parent_made = omega (arith, pc, wired.parent_made, long);
        kid_made = omega (arith, kc, wired.kid_made, long);
        parent_sound = subst (λ (ls : List (List ℕ)). AreSound ls parents_after.count) (sym pl) (sound_more parents.lists parents.count parents_after.count (omega (arith, pc)) wired.parent_sound);
        kid_sound = subst (λ (ls : List (List ℕ)). AreSound ls kids_after.count) (sym kl) (sound_more kids.lists kids.count kids_after.count (omega (arith, kc)) wired.kid_sound);
        rows = omega (arith, wired.rows, ap length pl, ap length kl);
        into = λ p x q.
            let was : Contains (list_at parents.lists p) x = subst (λ (ls : List (List ℕ)). Contains (list_at ls p) x) pl q in
            subst (λ (n : ℕ). Contains (list_at kids_after.lists (suc n)) x) (sym (other x (known p x was)))
            (subst (λ (ls : List (List ℕ)). Contains (list_at ls (suc (child_at ends x))) x) (sym kl) (wired.into p x was));
        out = λ c x q.
            let out = wired.out c x (subst (λ (ls : List (List ℕ)). Contains (list_at ls (suc c)) x) kl q) in
            ((out.0.0, subst (λ (ls : List (List ℕ)). Contains (list_at ls out.0.0) x) (sym pl) out.0.1), other x (known out.0.0 x out.0.1) ∙ out.1);
      };
      lists = pl;
      rows = ap length kl;
      same = ap (children_of ends_after) pl ∙ children_same ends ends_after parents.lists (λ n x p. other x (known n x p));
      here = ap (λ (xs : List ℕ). child_at xs edge) el ∙ ap (λ (n : ℕ). child_at (ends ++ child ∷ []) n) last ∙ get_or-append_seam ends child [] 0;
      made = omega (arith, last, long);
      no_parent = λ q. absurd (omega (arith, known q.0 edge (subst (λ (ls : List (List ℕ)). Contains (list_at ls q.0) edge) pl q.1), last));
      no_kid = λ q. absurd (omega (arith, wired.kid_sound.made q.0 edge (subst (λ (ls : List (List ℕ)). Contains (list_at ls q.0) edge) kl q.1), wired.kid_made, last));
    }

-- an edge was linked
pub linked_is : (parents kids parents_after kids_after : List (List ℕ)) (pc kc pd kd : ℕ) (ends : List ℕ) (parent child edge : ℕ) → AreWired parents kids pc kc ends
    → parent < length parents → suc child < length kids → child_at ends edge ≡ child
    → parents_after ≡ set parents parent (list_at parents parent ++ edge ∷ []) → pd ≡ pc → AreSound parents_after pd
    → kids_after ≡ set kids (suc child) (list_at kids (suc child) ++ edge ∷ []) → kd ≡ kc → AreSound kids_after kd
    → AreWired parents_after kids_after pd kd ends
linked_is parents kids parents_after kids_after pc kc pd kd ends parent child edge wired low high is pl pe ps kl ke ks = record {
  parent_made = pe ∙ wired.parent_made;
  kid_made = ke ∙ wired.kid_made;
  parent_sound = ps;
  kid_sound = ks;
  rows = omega (arith, wired.rows, ap length pl, ap length kl, length-set parents parent (list_at parents parent ++ edge ∷ []), length-set kids (suc child) (list_at kids (suc child) ++ edge ∷ []));
  into = λ p x q.
      subst (λ (ls : List (List ℕ)). Contains (list_at ls (suc (child_at ends x))) x) (sym kl)
      (elim (push_cases parents parent edge p x (subst (λ (ls : List (List ℕ)). Contains (list_at ls p) x) pl q)) [
        | inl was ↦ push_keeps kids (suc child) edge (suc (child_at ends x)) x (wired.into p x was)
        | inr last ↦ subst (λ (w : ℕ). Contains (list_at (set kids (suc child) (list_at kids (suc child) ++ edge ∷ [])) (suc (child_at ends w))) w) (sym last.1)
            (subst (λ (n : ℕ). Contains (list_at (set kids (suc child) (list_at kids (suc child) ++ edge ∷ [])) (suc n)) edge) (sym is) (push_has kids (suc child) edge high))
      ]);
  out = λ c x q.
      elim (push_cases kids (suc child) edge (suc c) x (subst (λ (ls : List (List ℕ)). Contains (list_at ls (suc c)) x) kl q)) [
        | inl was ↦ let out = wired.out c x was in ((out.0.0, subst (λ (ls : List (List ℕ)). Contains (list_at ls out.0.0) x) (sym pl) (push_keeps parents parent edge out.0.0 x out.0.1)), out.1)
        | inr last ↦
            let same : c ≡ child = omega (arith, last.0) in
            ((parent, subst (λ (ls : List (List ℕ)). Contains (list_at ls parent) x) (sym pl) (subst (λ (w : ℕ). Contains (list_at (set parents parent (list_at parents parent ++ edge ∷ [])) parent) w) (sym last.1) (push_has parents parent edge low))), ap (child_at ends) last.1 ∙ is ∙ sym same)
      ];
}

map-set : (f : List ℕ → List ℕ) (lists : List (List ℕ)) (n : ℕ) (ws : List ℕ) → map f (set lists n ws) ≡ set (map f lists) n (f ws)
map-set f [] n ws = refl
map-set f (xs ∷ lists) zero ws = refl
map-set f (xs ∷ lists) (suc n) ws = ap (λ (ls : List (List ℕ)). f xs ∷ ls) (map-set f lists n ws)

-- what contracts see of an edge that was linked
pub children_linked : (ends : List ℕ) (lists after : List (List ℕ)) (parent child edge : ℕ) → child_at ends edge ≡ child → after ≡ set lists parent (list_at lists parent ++ edge ∷ [])
    → children_of ends after ≡ set (children_of ends lists) parent (list_at (children_of ends lists) parent ++ child ∷ [])
children_linked ends lists after parent child edge is e =
    let one = map-append (child_at ends) (list_at lists parent) (edge ∷ []) in
    let two = row_of ends lists parent in
    ap (children_of ends) e ∙ map-set (map (child_at ends)) lists parent (list_at lists parent ++ edge ∷ [])
    ∙ ap (λ (ws : List ℕ). set (children_of ends lists) parent ws) (one ∙ ap (λ (ws : List ℕ). ws ++ child_at ends edge ∷ []) (sym two) ∙ ap (λ (n : ℕ). list_at (children_of ends lists) parent ++ n ∷ []) is)

-- the first child is that of the first edge
pub first_child_is : (ends : List ℕ) (lists : List (List ℕ)) (n : ℕ) (found : Option ℕ) (edge : ℕ) → found ≡ first_of (list_at lists n) → found ≡ Some edge → ◌≡◌ {A = Option ℕ} (Some (child_at ends edge)) (first_of (list_at (children_of ends lists) n))
first_child_is ends lists n found edge is some = of (list_at lists n) (sym is ∙ some) ∙ ap first_of (sym (row_of ends lists n))
  where
    of : (xs : List ℕ) → first_of xs ≡ Some edge → ◌≡◌ {A = Option ℕ} (Some (child_at ends edge)) (first_of (map (child_at ends) xs))
    of [] e = absurd (cc)
    of (x ∷ xs) e = let same : x ≡ edge = cc in ap (λ (w : ℕ). Some (child_at ends w)) (sym same)

pub no_child_is : (ends : List ℕ) (lists : List (List ℕ)) (n : ℕ) (found : Option ℕ) → found ≡ first_of (list_at lists n) → found ≡ None → ◌≡◌ {A = Option ℕ} None (first_of (list_at (children_of ends lists) n))
no_child_is ends lists n found is none = of (list_at lists n) (sym is ∙ none) ∙ ap first_of (sym (row_of ends lists n))
  where
    of : (xs : List ℕ) → first_of xs ≡ None → ◌≡◌ {A = Option ℕ} None (first_of (map (child_at ends) xs))
    of [] e = refl
    of (x ∷ xs) e = absurd (cc)

pub kids_after : (parents kids after : List (List ℕ)) (pc kc kd : ℕ) (ends : List ℕ) → HaveGrown kids after → kd ≡ kc → AreWired parents kids pc kc ends → AreWired parents after pc kd ends
kids_after parents kids after pc kc kd ends (inl same) ke wired = wired_same parents kids parents after pc kc pc kd ends ends refl same refl ke refl wired
kids_after parents kids after pc kc kd ends (inr more) ke wired =
    wired_same parents (kids ++ [] ∷ []) parents after pc kc pc kd ends ends refl more refl ke refl (kids_grown parents kids pc kc ends wired)

-- there is a row more
pub row_after : (parents kids parents_after : List (List ℕ)) (pc kc pd : ℕ) (ends : List ℕ) → parents_after ≡ parents ++ [] ∷ [] → pd ≡ pc → suc (length parents) < length kids → AreWired parents kids pc kc ends → AreWired parents_after kids pd kc ends
row_after parents kids parents_after pc kc pd ends pl pe low wired =
    wired_same (parents ++ [] ∷ []) kids parents_after kids pc kc pd kc ends ends pl refl pe refl refl (parents_grown parents kids pc kc ends low wired)

pub children_after : (ends : List ℕ) (lists after : List (List ℕ)) → after ≡ lists ++ [] ∷ [] → children_of ends after ≡ children_of ends lists ++ [] ∷ []
children_after ends lists after e = ap (children_of ends) e ∙ map-append (map (child_at ends)) lists ([] ∷ [])

pub first_in : (lists : List (List ℕ)) (n k edge : ℕ) (found : Option ℕ) → n ≡ k → found ≡ first_of (list_at lists n) → found ≡ Some edge → Contains (list_at lists k) edge
first_in lists n k edge found at is some = first_in_list (list_at lists k) edge (ap (λ (i : ℕ). first_of (list_at lists i)) (sym at) ∙ sym is ∙ some)

-- an edge was taken and linked
pub taken_linked : (parents kids parents_mid kids_mid parents_after kids_after_ : Lists) (ends ends_mid : List ℕ) (from to parent child edge : ℕ) → AreWired parents.lists kids.lists parents.count kids.count ends
    → IsTaken parents kids parents_mid kids_mid ends ends_mid child edge → parent < length parents.lists → child < length parents.lists → from ≡ parent → to ≡ child + 1
    → parents_after.lists ≡ set parents_mid.lists from (list_at parents_mid.lists from ++ edge ∷ []) → parents_after.count ≡ parents_mid.count → AreSound parents_after.lists parents_after.count
    → kids_after_.lists ≡ set kids_mid.lists to (list_at kids_mid.lists to ++ edge ∷ []) → kids_after_.count ≡ kids_mid.count → AreSound kids_after_.lists kids_after_.count
    → AreWired parents_after.lists kids_after_.lists parents_after.count kids_after_.count ends_mid × (children_of ends_mid parents_after.lists ≡ set (children_of ends parents.lists) parent (list_at (children_of ends parents.lists) parent ++ child ∷ []))
taken_linked parents kids parents_mid kids_mid parents_after kids_after_ ends ends_mid from to parent child edge wired taken low clow fe te pl pe ps kl ke ks =
    let t : to ≡ suc child = omega arith in
    let pl2 = pl ∙ ap (λ (n : ℕ). set parents_mid.lists n (list_at parents_mid.lists n ++ edge ∷ [])) fe in
    let kl2 = kl ∙ ap (λ (n : ℕ). set kids_mid.lists n (list_at kids_mid.lists n ++ edge ∷ [])) t in (
      linked_is parents_mid.lists kids_mid.lists parents_after.lists kids_after_.lists parents_mid.count kids_mid.count parents_after.count kids_after_.count ends_mid parent child edge taken.wired
          (omega (arith, ap length taken.lists)) (omega (arith, wired.rows, taken.rows)) taken.here pl2 pe ps kl2 ke ks,
      children_linked ends_mid parents_mid.lists parents_after.lists parent child edge taken.here pl2 ∙ ap (λ (ls : List (List ℕ)). set ls parent (list_at ls parent ++ child ∷ [])) taken.same,
    )
