-- What a change of one node leaves.
use Rattle.std.proofs.Common.{◌≡◌, ◌≢◌, ◌⊎◌, ℕ, ◌+◌, ◌≤ℤ◌, Bool, true, false, not, cond, eqb, List, [], ◌∷◌, ◌++◌, length, filter, All, Contains, refl, sym, ap, subst, ◌∙◌, inl, inr, arith}
use Rattle.std.proofs.lemmas.Bool.{cases_eq}
use Rattle.std.proofs.lemmas.List.{map-append, length-append}
use Rattle.std.proofs.lemmas.List.Elements.{All-cons, All-head, All-tail}
use Rattle.links_core.specs.Lists.{list_at, without, AreSound}
use Rattle.links_core.proofs.Members.{here, there, none_in_nil, contains_cases, in_left, in_right, in_either, without-contains, without-itself}
use Rattle.change_list.specs.declared.entries.Change.{Change}
use Rattle.change_list.specs.Changes.{has_id, without_id, HasRisingClocks}
use Rattle.change_list.specs.Kept.{entry_at, changes_at, HasRisingIds, IsKept, moved}
use Rattle.change_list.proofs.Clocks.{rising_push}
use Rattle.change_list.proofs.PruneLemmas.{from_filter}
use Rattle.change_list.proofs.Takes.{moved_same, moved_other, length_moved}

pub was_there : (node m : ℕ) (xs : List ℕ) → Contains (without node xs) m → Contains xs m × (m ≢ node)
was_there node m xs q =
    let f = from_filter (λ x. not (eqb x node)) m xs q in
    (f.0, λ e. without-itself node xs (subst (λ (w : ℕ). Contains (without node xs) w) e q))

-- changes that agree on some nodes
pub same_changes : (entries others : List Change) (xs : List ℕ) → ((m : ℕ) → Contains xs m → entry_at others m ≡ entry_at entries m) → changes_at others xs ≡ changes_at entries xs
same_changes entries others [] agree = refl
same_changes entries others (x ∷ xs) agree =
    ap (λ c. c ∷ changes_at others xs) (agree x (here x xs)) ∙ ap (λ cs. entry_at entries x ∷ cs) (same_changes entries others xs (λ m q. agree m (there m x xs q)))

-- without the one node of an id, the changes are without that of the id
pub without_one : (entries : List Change) (id : List ℕ) (node : ℕ) (xs : List ℕ) → ((m : ℕ) → Contains xs m → has_id id (entry_at entries m) ≡ eqb m node) → changes_at entries (without node xs) ≡ without_id id (changes_at entries xs)
without_one entries id node [] same = refl
without_one entries id node (x ∷ xs) same =
    at (has_id id (entry_at entries x)) (eqb x node) (same x (here x xs)) (without_one entries id node xs (λ m q. same m (there m x xs q)))
  where
    at : (a b : Bool) → a ≡ b → changes_at entries (without node xs) ≡ without_id id (changes_at entries xs) → changes_at entries (cond (not b) (x ∷ without node xs) (without node xs)) ≡ cond (not a) (entry_at entries x ∷ without_id id (changes_at entries xs)) (without_id id (changes_at entries xs))
    at true true e rest = rest
    at false false e rest = ap (λ cs. entry_at entries x ∷ cs) rest
    at true false e rest = absurd (cc)
    at false true e rest = absurd (cc)

all_nodes : (P : Change → Type 0) (entries : List Change) (p : ℕ → Bool) (xs : List ℕ) → All P (changes_at entries xs) → All P (changes_at entries (filter p xs))
all_nodes P entries p [] h = h
all_nodes P entries p (x ∷ xs) h = at (p x) (all_nodes P entries p xs (All-tail P (entry_at entries x) (changes_at entries xs) h))
  where
    at : (b : Bool) → All P (changes_at entries (filter p xs)) → All P (changes_at entries (cond b (x ∷ filter p xs) (filter p xs)))
    at true rest = All-cons P (entry_at entries x) (changes_at entries (filter p xs)) (All-head P (entry_at entries x) (changes_at entries xs) h) rest
    at false rest = rest

rising_nodes : (entries : List Change) (p : ℕ → Bool) (xs : List ℕ) → HasRisingClocks (changes_at entries xs) → HasRisingClocks (changes_at entries (filter p xs))
rising_nodes entries p [] h = h
rising_nodes entries p (x ∷ xs) h = at (p x) (rising_nodes entries p xs h.1)
  where
    at : (b : Bool) → HasRisingClocks (changes_at entries (filter p xs)) → HasRisingClocks (changes_at entries (cond b (x ∷ filter p xs) (filter p xs)))
    at true rest = (all_nodes (λ (d : Change). (entry_at entries x).clock ≤ℤ d.clock) entries p xs h.0, rest)
    at false rest = rest

-- the parts of a change of one node: the other entries stay, and the order has the node and what it had
pub record IsOneChange (entries others : List Change) (order after : List ℕ) (node : ℕ) : Type 0 where
  pub same : (m : ℕ) → Contains order m → m ≢ node → entry_at others m ≡ entry_at entries m
  pub in_after : Contains after node
  pub kept : (m : ℕ) → Contains order m → Contains after m
  pub only : (m : ℕ) → Contains after m → (m ≡ node) ⊎ Contains order m
  pub rising : HasRisingIds others after

module _ (lists : List (List ℕ)) (entries others : List Change) (order after : List ℕ) (node count : ℕ) (k : IsKept lists entries order count) (one : IsOneChange entries others order after node) where
  abbrev Live : List ℕ
  Live = list_at lists 0

  abbrev Dead : List ℕ
  Dead = list_at lists 1

  still_live : (m : ℕ) → Contains (without node Live) m → Contains after m × ((entry_at others m).live ≡ true)
  still_live m q =
      let w = was_there node m Live q in
      let l = k.live_listed m w.0 in
      (one.kept m l.0, ap (λ (c : Change). c.live) (one.same m l.0 w.1) ∙ l.1)

  still_dead : (m : ℕ) → Contains (without node Dead) m → Contains after m × ((entry_at others m).live ≡ false)
  still_dead m q =
      let w = was_there node m Dead q in
      let l = k.dead_listed m w.0 in
      (one.kept m l.0, ap (λ (c : Change). c.live) (one.same m l.0 w.1) ∙ l.1)

  pub live_changes : changes_at others (without node Live) ≡ changes_at entries (without node Live)
  live_changes =
      same_changes entries others (without node Live) (λ m q. let w = was_there node m Live q in one.same m (k.live_listed m w.0).0 w.1)

  pub dead_changes : changes_at others (without node Dead) ≡ changes_at entries (without node Dead)
  dead_changes =
      same_changes entries others (without node Dead) (λ m q. let w = was_there node m Dead q in one.same m (k.dead_listed m w.0).0 w.1)

  live_rising : HasRisingClocks (changes_at others (without node Live))
  live_rising = subst HasRisingClocks (sym live_changes) (rising_nodes entries (λ x. not (eqb x node)) Live k.live_clocks)

  dead_rising : HasRisingClocks (changes_at others (without node Dead))
  dead_rising = subst HasRisingClocks (sym dead_changes) (rising_nodes entries (λ x. not (eqb x node)) Dead k.dead_clocks)

  pushed_rising : (xs : List ℕ) → HasRisingClocks (changes_at others xs) → All (λ d. d.clock ≤ℤ (entry_at others node).clock) (changes_at others xs) → HasRisingClocks (changes_at others (xs ++ node ∷ []))
  pushed_rising xs h up =
      subst HasRisingClocks (sym (map-append (entry_at others) xs (node ∷ []))) (rising_push (changes_at others xs) (entry_at others node) h up)

  up_to : (xs : List ℕ) → changes_at others (without node xs) ≡ changes_at entries (without node xs) → All (λ d. d.clock ≤ℤ (entry_at others node).clock) (changes_at entries xs) → All (λ d. d.clock ≤ℤ (entry_at others node).clock) (changes_at others (without node xs))
  up_to xs same h =
      subst (All (λ (d : Change). d.clock ≤ℤ (entry_at others node).clock)) (sym same) (all_nodes (λ (d : Change). d.clock ≤ℤ (entry_at others node).clock) entries (λ x. not (eqb x node)) xs h)

  end : (m : ℕ) (xs : List ℕ) → Contains (xs ++ node ∷ []) m → Contains xs m ⊎ (node ≡ m)
  end m xs q = elim (in_either m xs (node ∷ []) q) [
    | inl l ↦ inl l
    | inr r ↦ elim (contains_cases m node [] r) [ inl e ↦ inr e | inr n ↦ absurd (none_in_nil m n) ]
  ]

  -- the node becomes the last of the live ones
  pub touched_kept : (less : ℕ) → AreSound (moved node 0 lists) (length others) → (entry_at others node).live ≡ true → All (λ d. d.clock ≤ℤ (entry_at others node).clock) (changes_at entries Live) → less ≡ length (without node Dead) → IsKept (moved node 0 lists) others after less
  touched_kept less sound live latest counted =
      let lives : list_at (moved node 0 lists) 0 ≡ without node Live ++ node ∷ [] = moved_same lists node 0 (omega (arith, k.three)) in
      let deads : list_at (moved node 0 lists) 1 ≡ without node Dead = moved_other lists node 0 1 (omega arith) in
      record {
        three = length_moved lists node 0 ∙ k.three;
        sound = sound;
        rising = one.rising;
        live_listed = λ m q. elim (end m (without node Live) (subst (λ (ws : List ℕ). Contains ws m) lives q)) [
          | inl l ↦ still_live m l
          | inr e ↦ (subst (λ (w : ℕ). Contains after w) e one.in_after, ap (λ w. (entry_at others w).live) (sym e) ∙ live)
        ];
        dead_listed = λ m q. still_dead m (subst (λ (ws : List ℕ). Contains ws m) deads q);
        linked = λ m q. elim (cases_eq m node) [
          | inl e ↦ inl (subst (λ (ws : List ℕ). Contains ws m) (sym lives) (in_right m (without node Live) (node ∷ []) (subst (λ (w : ℕ). Contains (node ∷ []) w) (sym e) (here node []))))
          | inr differs ↦ elim (one.only m q) [
            | inl e ↦ absurd (differs e)
            | inr was ↦ elim (k.linked m was) [
              | inl l ↦ inl (subst (λ (ws : List ℕ). Contains ws m) (sym lives) (in_left m (without node Live) (node ∷ []) (without-contains node m Live differs l)))
              | inr l ↦ inr (subst (λ (ws : List ℕ). Contains ws m) (sym deads) (without-contains node m Dead differs l))
            ]
          ]
        ];
        live_clocks = subst (λ (ws : List ℕ). HasRisingClocks (changes_at others ws)) (sym lives) (pushed_rising (without node Live) live_rising (up_to Live live_changes latest));
        dead_clocks = subst (λ (ws : List ℕ). HasRisingClocks (changes_at others ws)) (sym deads) dead_rising;
        counted = counted ∙ ap length (sym deads);
      }

  -- the node becomes the last of the dead ones
  pub buried_kept : (more : ℕ) → AreSound (moved node 1 lists) (length others) → (entry_at others node).live ≡ false → All (λ d. d.clock ≤ℤ (entry_at others node).clock) (changes_at entries Dead) → more ≡ length (without node Dead) + 1 → IsKept (moved node 1 lists) others after more
  buried_kept more sound live latest counted =
      let lives : list_at (moved node 1 lists) 0 ≡ without node Live = moved_other lists node 1 0 (omega arith) in
      let deads : list_at (moved node 1 lists) 1 ≡ without node Dead ++ node ∷ [] = moved_same lists node 1 (omega (arith, k.three)) in
      record {
        three = length_moved lists node 1 ∙ k.three;
        sound = sound;
        rising = one.rising;
        live_listed = λ m q. still_live m (subst (λ (ws : List ℕ). Contains ws m) lives q);
        dead_listed = λ m q. elim (end m (without node Dead) (subst (λ (ws : List ℕ). Contains ws m) deads q)) [
          | inl l ↦ still_dead m l
          | inr e ↦ (subst (λ (w : ℕ). Contains after w) e one.in_after, ap (λ w. (entry_at others w).live) (sym e) ∙ live)
        ];
        linked = λ m q. elim (cases_eq m node) [
          | inl e ↦ inr (subst (λ (ws : List ℕ). Contains ws m) (sym deads) (in_right m (without node Dead) (node ∷ []) (subst (λ (w : ℕ). Contains (node ∷ []) w) (sym e) (here node []))))
          | inr differs ↦ elim (one.only m q) [
            | inl e ↦ absurd (differs e)
            | inr was ↦ elim (k.linked m was) [
              | inl l ↦ inl (subst (λ (ws : List ℕ). Contains ws m) (sym lives) (without-contains node m Live differs l))
              | inr l ↦ inr (subst (λ (ws : List ℕ). Contains ws m) (sym deads) (in_left m (without node Dead) (node ∷ []) (without-contains node m Dead differs l)))
            ]
          ]
        ];
        live_clocks = subst (λ (ws : List ℕ). HasRisingClocks (changes_at others ws)) (sym lives) live_rising;
        dead_clocks = subst (λ (ws : List ℕ). HasRisingClocks (changes_at others ws)) (sym deads) (pushed_rising (without node Dead) dead_rising (up_to Dead dead_changes latest));
        counted = counted ∙ sym (ap length deads ∙ length-append (without node Dead) (node ∷ []));
      }
