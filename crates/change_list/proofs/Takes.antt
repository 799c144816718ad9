-- Lists with a node taken out and put elsewhere.
use Rattle.std.proofs.Common.{◌≡◌, ◌≢◌, ℕ, zero, suc, ◌+◌, ◌<◌, List, [], ◌∷◌, ◌++◌, length, get_or, map, filter, Bool, true, false, cond, Some, None, ℤ, ◌<ℤ◌, ◌≤ℤ◌, All, Contains, refl, sym, ap, subst, ◌∙◌, arith}
use Rattle.std.proofs.lemmas.List.{get_or-map, get_or-set_same, get_or-set_other, length-map, length-set}
use Rattle.links_core.specs.Lists.{list_at, without, IsApart, AreSound, first_of}
use Rattle.links_core.proofs.Members.{without-absent, without-cut, here}
use Rattle.std.proofs.lemmas.Option.{same_Some}
use Rattle.std.proofs.lemmas.Int.{ints}
use Rattle.std.proofs.lemmas.List.Elements.{All-cons}
use Rattle.change_list.specs.declared.entries.Change.{Change}
use Rattle.change_list.specs.Changes.{is_after, HasRisingClocks}
use Rattle.change_list.specs.Kept.{entry_at, changes_at, AreFreed, moved}
use Rattle.change_list.proofs.Clocks.{is_later, late_clock, filter_whole}

-- no list has a node that wasn't made
pub without_fresh : (lists : List (List ℕ)) (node : ℕ) → ((l x : ℕ) → Contains (list_at lists l) x → x < node) → map (without node) lists ≡ lists
without_fresh [] node below = refl
without_fresh (xs ∷ lists) node below =
    ap (λ ws. ws ∷ map (without node) lists) (without-absent node xs (λ q. omega (arith, below 0 node q))) ∙ ap (λ ls. xs ∷ ls) (without_fresh lists node (λ l x q. below (suc l) x q))

pub list_without : (lists : List (List ℕ)) (node l : ℕ) → list_at (map (without node) lists) l ≡ without node (list_at lists l)
list_without [] node l = refl
list_without (xs ∷ lists) node zero = refl
list_without (xs ∷ lists) node (suc l) = list_without lists node l

pub moved_same : (lists : List (List ℕ)) (node number : ℕ) → number < length lists → list_at (moved node number lists) number ≡ without node (list_at lists number) ++ node ∷ []
moved_same lists node number low =
    get_or-set_same (map (without node) lists) number (list_at (map (without node) lists) number ++ node ∷ []) [] (omega (arith, length-map lists (without node), low)) ∙ ap (λ ws. ws ++ node ∷ []) (list_without lists node number)

pub moved_other : (lists : List (List ℕ)) (node number l : ℕ) → l ≢ number → list_at (moved node number lists) l ≡ without node (list_at lists l)
moved_other lists node number l differs =
    get_or-set_other (map (without node) lists) number l (list_at (map (without node) lists) number ++ node ∷ []) [] differs ∙ list_without lists node l

pub length_moved : (lists : List (List ℕ)) (node number : ℕ) → length (moved node number lists) ≡ length lists
length_moved lists node number =
    length-set (map (without node) lists) number (list_at (map (without node) lists) number ++ node ∷ []) ∙ length-map lists (without node)

-- freeing drops nodes from the front of list 1 into list 2: what is left has all that is after the clock
pub record IsFreeing (old new : List (List ℕ)) (entries : List Change) (clock : ℤ) (count : ℕ) : Type 0 where
  pub three : length new ≡ 3
  pub sound : AreSound new (length entries)
  pub live : list_at new 0 ≡ list_at old 0
  pub left : filter (λ node. is_after clock (entry_at entries node)) (list_at new 1) ≡ filter (λ node. is_after clock (entry_at entries node)) (list_at old 1)
  pub rising : HasRisingClocks (changes_at entries (list_at new 1))
  pub counted : count ≡ length (list_at new 1)

pub first_cut : (xs : List ℕ) (node : ℕ) → first_of xs ≡ Some node → (rest : List ℕ) × (xs ≡ node ∷ rest)
first_cut [] node e = absurd (cc)
first_cut (x ∷ xs) node e = (xs, ap (λ w. w ∷ xs) (same_Some x node e))

pub freeing_step : (old new : List (List ℕ)) (entries : List Change) (clock : ℤ) (count less node : ℕ) → IsFreeing old new entries clock count → first_of (list_at new 1) ≡ Some node → is_after clock (entry_at entries node) ≡ false → AreSound (moved node 2 new) (length entries) → count ≡ less + 1 → IsFreeing old (moved node 2 new) entries clock less
freeing_step old new entries clock count less node g first early sound is =
    let cut = first_cut (list_at new 1) node first in
    let linked : Contains (list_at new 1) node = subst (λ (ws : List ℕ). Contains ws node) (sym cut.1) (here node cut.0) in
    let rest : list_at (moved node 2 new) 1 ≡ cut.0 = moved_other new node 2 1 (omega arith) ∙ ap (without node) cut.1 ∙ without-cut node [] cut.0 (subst IsApart cut.1 (g.sound.once 1)) in
    record {
      three = length_moved new node 2 ∙ g.three;
      sound = sound;
      live = moved_other new node 2 0 (omega arith) ∙ without-absent node (list_at new 0) (λ q. zero-one (g.sound.in_one 0 1 node q linked)) ∙ g.live;
      left = ap (filter p) rest ∙ sym (dropped cut.0 (is_after clock (entry_at entries node)) early) ∙ ap (filter p) (sym cut.1) ∙ g.left;
      rising = subst (λ (ws : List ℕ). HasRisingClocks (changes_at entries ws)) (sym rest) (subst (λ (ws : List ℕ). HasRisingClocks (changes_at entries ws)) cut.1 g.rising).1;
      counted = omega (arith, g.counted, is, ap length cut.1, ap length rest);
    }
  where
    p : ℕ → Bool
    p n = is_after clock (entry_at entries n)

    zero-one : ◌≡◌ {A = ℕ} 0 1 → ⊥
    zero-one e = omega arith

    dropped : (ns : List ℕ) (b : Bool) → b ≡ false → cond b (node ∷ filter p ns) (filter p ns) ≡ filter p ns
    dropped ns true e = absurd (cc)
    dropped ns false e = refl

pub freeing_end : (old new : List (List ℕ)) (entries : List Change) (clock : ℤ) (count : ℕ) → IsFreeing old new entries clock count → first_of (list_at new 1) ≡ None → AreFreed old new entries clock count
freeing_end old new entries clock count g none = record {
  three = g.three;
  sound = g.sound;
  live = g.live;
  dead = let empty = first_none (list_at new 1) none in empty ∙ ap (filter (λ n. is_after clock (entry_at entries n))) (sym empty) ∙ g.left;
  counted = g.counted;
}
  where
    first_none : (xs : List ℕ) → first_of xs ≡ None → xs ≡ []
    first_none [] e = refl
    first_none (x ∷ xs) e = absurd (cc)

pub freeing_stop : (old new : List (List ℕ)) (entries : List Change) (clock : ℤ) (count node : ℕ) → IsFreeing old new entries clock count → first_of (list_at new 1) ≡ Some node → is_after clock (entry_at entries node) ≡ true → AreFreed old new entries clock count
freeing_stop old new entries clock count node g first late = record {
  three = g.three;
  sound = g.sound;
  live = g.live;
  dead =
      let cut = first_cut (list_at new 1) node first in
      let rising : HasRisingClocks (changes_at entries (node ∷ cut.0)) = subst (λ (ws : List ℕ). HasRisingClocks (changes_at entries ws)) cut.1 g.rising in
      sym (ap (filter p) cut.1 ∙ filter_whole p (node ∷ cut.0) (All-cons (λ (n : ℕ). p n ≡ true) node cut.0 late (λ k d low. is_later clock (entry_at entries (get_or cut.0 k d)).clock (later k d cut.0 low rising.0))) ∙ sym cut.1) ∙ g.left;
  counted = g.counted;
}
  where
    p : ℕ → Bool
    p n = is_after clock (entry_at entries n)

    later : (k d : ℕ) (ns : List ℕ) → k < length ns → All (λ c. (entry_at entries node).clock ≤ℤ c.clock) (changes_at entries ns) → clock <ℤ (entry_at entries (get_or ns k d)).clock
    later k d ns low all =
        let le = subst (λ (c : Change). (entry_at entries node).clock ≤ℤ c.clock) (get_or-map (entry_at entries) ns k d (entry_at entries d) low) (all k (entry_at entries d) (omega (arith, length-map ns (entry_at entries), low))) in
        let lt = late_clock clock (entry_at entries node) late in
        omega (arith, ints, le, lt)
