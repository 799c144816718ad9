-- What the loops over a list of nodes keep.
use Rattle.std.proofs.Common.{◌≡◌, ℕ, ◌+◌, ◌<◌, ◌≤◌, ℤ, Bool, true, false, cond, List, [], ◌∷◌, ◌++◌, length, get_or, reverse, filter, take, drop, Option, Some, None, Contains, refl, sym, ap, subst, ◌∙◌, arith}
use Rattle.std.proofs.lemmas.List.{map-append, length-map, length-append, length-reverse, reverse-append, append_assoc, append-nil, drop_more, take-append-drop}
use Rattle.std.proofs.lemmas.Option.{same_Some, none-some}
use Rattle.std.proofs.lemmas.List.Elements.{filter-append}
use Rattle.links_core.specs.Lists.{list_at, first_of, last_of, last_or, IsPrev, IsNext}
use Rattle.links_core.proofs.Members.{in_middle}
use Rattle.change_list.specs.declared.entries.Change.{Change}
use Rattle.change_list.specs.Changes.{is_after, HasRisingClocks}
use Rattle.change_list.specs.Kept.{entry_at, changes_at}
use Rattle.change_list.proofs.Clocks.{early_clock, none_after, rising_left}

-- gathering goes back from the end of a list: what lies behind is gathered, and is after the clock
pub record IsGathering (xs : List ℕ) (entries : List Change) (clock : ℤ) (at : Option ℕ) (before now : List Change) (start ticks : ℕ) : Type 0 where
  pub front : List ℕ
  pub back : List ℕ
  pub parts : xs ≡ front ++ back
  pub place : at ≡ last_of front
  pub found : now ≡ before ++ reverse (changes_at entries back)
  pub after : filter (is_after clock) (changes_at entries back) ≡ changes_at entries back
  pub counted : ticks ≡ start + length back

pub split_last : (xs : List ℕ) (y z : ℕ) → last_or xs (Some y) ≡ Some z → (ys : List ℕ) × (y ∷ xs ≡ ys ++ z ∷ [])
split_last [] y z e = ([], ap (λ w. w ∷ []) (cc))
split_last (x ∷ xs) y z e = let r = split_last xs x z e in (y ∷ r.0, ap (λ ws. y ∷ ws) r.1)

pub split_at_last : (xs : List ℕ) (z : ℕ) → last_of xs ≡ Some z → (ys : List ℕ) × (xs ≡ ys ++ z ∷ [])
split_at_last [] z e = absurd (cc)
split_at_last (x ∷ xs) z e = split_last xs x z e

pub last_none : (xs : List ℕ) → last_of xs ≡ None → xs ≡ []
last_none [] e = refl
last_none (x ∷ xs) e = let w = some_last xs x in absurd (none-some w.0 (sym e ∙ w.1))
  where
    some_last : (ys : List ℕ) (y : ℕ) → (z : ℕ) × (last_or ys (Some y) ≡ Some z)
    some_last [] y = (y, refl)
    some_last (z ∷ ys) y = some_last ys z

pub gathering_init : (xs : List ℕ) (entries : List Change) (clock : ℤ) (at : Option ℕ) (before : List Change) (start : ℕ) → at ≡ last_of xs → IsGathering xs entries clock at before before start start
gathering_init xs entries clock at before start e = record {
  front = xs;
  back = [];
  parts = sym (append-nil xs);
  place = e;
  found = sym (append-nil before);
  after = refl;
  counted = omega arith;
}

module _ (xs : List ℕ) (entries : List Change) (clock : ℤ) (before now : List Change) (start ticks : ℕ) where
  abbrev After : List Change
  After = filter (is_after clock) (changes_at entries xs)

  parted : (at : Option ℕ) (g : IsGathering xs entries clock at before now start ticks) → After ≡ filter (is_after clock) (changes_at entries g.front) ++ changes_at entries g.back
  parted at g =
      ap (λ ws. filter (is_after clock) (changes_at entries ws)) g.parts ∙ ap (filter (is_after clock)) (map-append (entry_at entries) g.front g.back) ∙ filter-append (is_after clock) (changes_at entries g.front) (changes_at entries g.back) ∙ ap (λ cs. filter (is_after clock) (changes_at entries g.front) ++ cs) g.after

  pub gathering_ticks : (at : Option ℕ) → IsGathering xs entries clock at before now start ticks → ticks ≤ start + length After
  gathering_ticks at g =
      omega (arith, g.counted, ap length (parted at g), length-append (filter (is_after clock) (changes_at entries g.front)) (changes_at entries g.back), length-map g.back (entry_at entries))

  pub gathering_here : (node : ℕ) → IsGathering xs entries clock (Some node) before now start ticks → Contains xs node
  gathering_here node g =
      let s = split_at_last g.front node (sym g.place) in
      subst (λ (ws : List ℕ). Contains ws node) (sym (g.parts ∙ ap (λ ws. ws ++ g.back) s.1 ∙ append_assoc s.0 (node ∷ []) g.back)) (in_middle node s.0 g.back)

  pub gathering_room : (node : ℕ) → IsGathering xs entries clock (Some node) before now start ticks → length now < length xs + length before
  gathering_room node g =
      let s = split_at_last g.front node (sym g.place) in
      omega (arith, ap length g.found, length-append before (reverse (changes_at entries g.back)), length-reverse (changes_at entries g.back), length-map g.back (entry_at entries), ap length g.parts, length-append g.front g.back, ap length s.1, length-append s.0 (node ∷ []))

  whole : (at : Option ℕ) (g : IsGathering xs entries clock at before now start ticks) → filter (is_after clock) (changes_at entries g.front) ≡ [] → (now ≡ before ++ reverse After) × (ticks ≡ start + length After)
  whole at g none =
      let all : After ≡ changes_at entries g.back = parted at g ∙ ap (λ cs. cs ++ changes_at entries g.back) none in
      (g.found ∙ ap (λ cs. before ++ reverse cs) (sym all), omega (arith, g.counted, ap length all, length-map g.back (entry_at entries)))

  pub gathering_stop : (node : ℕ) → IsGathering xs entries clock (Some node) before now start ticks → HasRisingClocks (changes_at entries xs) → is_after clock (entry_at entries node) ≡ false → (now ≡ before ++ reverse After) × (ticks ≡ start + length After)
  gathering_stop node g rising early =
      let s = split_at_last g.front node (sym g.place) in
      let cut : changes_at entries g.front ≡ changes_at entries s.0 ++ entry_at entries node ∷ [] = ap (changes_at entries) s.1 ∙ map-append (entry_at entries) s.0 (node ∷ []) in
      let front : HasRisingClocks (changes_at entries g.front) = rising_left (changes_at entries g.front) (changes_at entries g.back) (subst HasRisingClocks (ap (changes_at entries) g.parts ∙ map-append (entry_at entries) g.front g.back) rising) in
      whole (Some node) g (ap (filter (is_after clock)) cut ∙ none_after clock (changes_at entries s.0) (entry_at entries node) (subst HasRisingClocks cut front) (early_clock clock (entry_at entries node) early))

  pub gathering_end : IsGathering xs entries clock None before now start ticks → (now ≡ before ++ reverse After) × (ticks ≡ start + length After)
  gathering_end g = whole None g (ap (λ ws. filter (is_after clock) (changes_at entries ws)) (last_none g.front (sym g.place)))

pub gathering_step : (lists : List (List ℕ)) (l : ℕ) (entries : List Change) (clock : ℤ) (node : ℕ) (change : Change) (before now : List Change) (start ticks : ℕ) (at : Option ℕ) → IsGathering (list_at lists l) entries clock (Some node) before now start ticks → is_after clock (entry_at entries node) ≡ true → IsPrev lists node at → change ≡ entry_at entries node → IsGathering (list_at lists l) entries clock at before (now ++ change ∷ []) start (ticks + 1)
gathering_step lists l entries clock node change before now start ticks at g late prev same =
    let s = split_at_last g.front node (sym g.place) in
    let parts : list_at lists l ≡ s.0 ++ node ∷ g.back = g.parts ∙ ap (λ ws. ws ++ g.back) s.1 ∙ append_assoc s.0 (node ∷ []) g.back in
    record {
      front = s.0;
      back = node ∷ g.back;
      parts = parts;
      place = prev.linked l s.0 g.back parts;
      found = ap (λ cs. cs ++ change ∷ []) g.found ∙ append_assoc before (reverse (changes_at entries g.back)) (change ∷ []) ∙ ap (λ c. before ++ (reverse (changes_at entries g.back) ++ c ∷ [])) same ∙ ap (λ cs. before ++ cs) (sym (reverse-append (entry_at entries node ∷ []) (changes_at entries g.back)));
      after = more (is_after clock (entry_at entries node)) late g.after;
      counted = omega (arith, g.counted);
    }
  where
    more : {cs ds : List Change} (b : Bool) → b ≡ true → ds ≡ cs → cond b (entry_at entries node ∷ ds) ds ≡ entry_at entries node ∷ cs
    more true e rest = ap (λ cs. entry_at entries node ∷ cs) rest
    more false e rest = absurd (cc)

pub first_there : (xs : List ℕ) (i : ℕ) → i < length xs → first_of (drop i xs) ≡ Some (get_or xs i 0)
first_there xs i low = ap first_of (drop_more xs i 0 low)

-- the node at a place leads to the one at the next
pub step_forward : (lists : List (List ℕ)) (l i node : ℕ) (answer : Option ℕ) → i < length (list_at lists l) → Some node ≡ first_of (drop i (list_at lists l)) → IsNext lists node answer → answer ≡ first_of (drop (i + 1) (list_at lists l))
step_forward lists l i node answer low here next =
    let xs : List ℕ = list_at lists l in
    let same : node ≡ get_or xs i 0 = same_Some node (get_or xs i 0) (here ∙ first_there xs i low) in
    next.linked l (take i xs) (drop (i + 1) xs) (sym (take-append-drop i xs) ∙ ap (λ ws. take i xs ++ ws) (drop_more xs i 0 low ∙ ap (λ w. w ∷ drop (i + 1) xs) (sym same)))
