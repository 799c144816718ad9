-- Look-ups in maps that are filtered, mapped or folded together, and which ids have a last entry above a clock.
use Rattle.std.proofs.Common.{◌≡◌, ℕ, suc, ◌≤◌, nat_lt, Bool, true, false, ◌&&◌, ◌||◌, cond, not, T, List, [], ◌∷◌, ◌++◌, length, map, filter, fold, Option, Some, None, option_map, is_some, refl, sym, ap, subst, ◌∙◌, arith}
use Rattle.std.specs.List.{list_all}
use Rattle.std.specs.Ordering.{is_lt}
use Rattle.std.specs.FinMap.Entries.{is_sorted, below_all, find-where_key, is_sorted-where_key}
use Rattle.std.proofs.lemmas.Bool.Decides.{nat_tests}
use Rattle.rooms_val.proofs.Truths.{and_false, and_left, and_right}
use Rattle.rooms_val.specs.Data.{Pairs}
use Rattle.rooms_val.specs.Maps.{order, ties, AreRising, value_at, with_key, set_at}
use Rattle.rooms_val.proofs.MapsLemmas.{same_key, ties_same, by_tie, at-with_key, at-set_at, rising-with_key, rising_rest, none_later}
use Rattle.field_ops.specs.RecordOps.{RecordOps}
use Rattle.field_ops.specs.Patched.{raw}
use Rattle.doc_model.specs.Documents.{fold_raw}
use Rattle.room_model.specs.Histories.{History, records_of, oldest, names, last_clock, last_clocks, changed_after}
use Rattle.room_model.proofs.ActingLemmas.{differ}

-- an id is one of a list
abbrev pub has : List ℕ → List (List ℕ) → Bool
has q [] = false
has q (id ∷ ids) = ties q id || has q ids

cond_same : {X : Type 0} (b : Bool) (x : X) → cond b x x ≡ x
cond_same true x = refl
cond_same false x = refl

module _ {V : Type 0} where
  pub at-filter : (test : List ℕ → Bool) (es : List (List ℕ × V)) (q : List ℕ) → value_at (filter (λ e. test e.0) es) q ≡ cond (test q) (value_at es q) None
  at-filter test es q = find-where_key order test q (λ x is. ap test (sym (same_key q x is))) es

  pub rising-filter : (test : List ℕ → Bool) (es : List (List ℕ × V)) → AreRising es → AreRising (filter (λ e. test e.0) es)
  rising-filter test es rising = is_sorted-where_key order test es rising

  -- what stands in a map passes each test that all its pairs pass
  pub all_at : (test : List ℕ → V → Bool) (es : List (List ℕ × V)) (q : List ℕ) (v : V) → list_all (λ e. test e.0 e.1) es ≡ true → value_at es q ≡ Some v → test q v ≡ true
  all_at test [] q v all found = absurd (cc)
  all_at test (e ∷ es) q v all found =
      elim (ties q e.0) as (λ b. ties q e.0 ≡ b → cond b (Some e.1) (value_at es q) ≡ Some v → test q v ≡ true) [
        | true ↦ λ is at. let same : e.1 ≡ v = cc in ap (λ k. test k v) (ties_same q e.0 is) ∙ ap (test e.0) (sym same) ∙ and_left _ _ all
        | false ↦ λ is at. all_at test es q v (and_right _ _ all) at
      ] refl found

  -- nothing stands under a key that doesn't pass a test that all keys pass
  pub none_at : (test : List ℕ → Bool) (es : List (List ℕ × V)) (q : List ℕ) → list_all (λ e. test e.0) es ≡ true → test q ≡ false → value_at es q ≡ None
  none_at test es q all out = elim (value_at es q) as (λ o. value_at es q ≡ o → o ≡ None) [
    | None ↦ λ is. refl
    | Some v ↦ λ is. absurd (differ (sym (all_at (λ k v. test k) es q v all is) ∙ out))
  ] refl

  -- a map with something under each of some ids
  pub at-fold : (op : List ℕ → V) (ids : List (List ℕ)) (es : List (List ℕ × V)) (q : List ℕ) → value_at (fold (λ es id. with_key es id (op id)) es ids) q ≡ cond (has q ids) (Some (op q)) (value_at es q)
  at-fold op [] es q = refl
  at-fold op (id ∷ ids) es q =
      at-fold op ids (with_key es id (op id)) q
      ∙ ap (cond (has q ids) (Some (op q))) (at-with_key es id q (op id))
      ∙ by_tie (λ t. cond (has q ids) (Some (op q)) (cond t (Some (op id)) (value_at es q)) ≡ cond (t || has q ids) (Some (op q)) (value_at es q)) q id
      (λ same. ap (λ k. cond (has q ids) (Some (op q)) (Some (op k))) (sym same) ∙ cond_same (has q ids) (Some (op q))) refl

  pub rising-fold : (op : List ℕ → V) (ids : List (List ℕ)) (es : List (List ℕ × V)) → AreRising es → AreRising (fold (λ es id. with_key es id (op id)) es ids)
  rising-fold op [] es rising = rising
  rising-fold op (id ∷ ids) es rising = rising-fold op ids (with_key es id (op id)) (rising-with_key es id (op id) rising)

module _ {V W : Type 0} where
  below-mapped : (f : List ℕ → V → W) (k : List ℕ) (es : List (List ℕ × V)) → below_all order k (map (λ e. (e.0, f e.0 e.1)) es) ≡ below_all order k es
  below-mapped f k [] = refl
  below-mapped f k (e ∷ es) = ap (λ b. is_lt (order k e.0) && b) (below-mapped f k es)

  sorted-mapped : (f : List ℕ → V → W) (es : List (List ℕ × V)) → is_sorted order (map (λ e. (e.0, f e.0 e.1)) es) ≡ is_sorted order es
  sorted-mapped f [] = refl
  sorted-mapped f (e ∷ es) = λ i. below-mapped f e.0 es i && sorted-mapped f es i

  -- each value seen by a function of its key
  pub rising-mapped : (f : List ℕ → V → W) (es : List (List ℕ × V)) → AreRising es → AreRising (map (λ e. (e.0, f e.0 e.1)) es)
  rising-mapped f es rising = subst T (sym (sorted-mapped f es)) rising

  pub at-mapped : (f : List ℕ → V → W) (es : List (List ℕ × V)) (q : List ℕ) → value_at (map (λ e. (e.0, f e.0 e.1)) es) q ≡ option_map (f q) (value_at es q)
  at-mapped f [] q = refl
  at-mapped f (e ∷ es) q =
      ap (cond (ties q e.0) (Some (f e.0 e.1))) (at-mapped f es q)
      ∙ by_tie (λ t. cond t (Some (f e.0 e.1)) (option_map (f q) (value_at es q)) ≡ option_map (f q) (cond t (Some e.1) (value_at es q))) q e.0
      (λ same. ap (λ k. Some (f k e.1)) (sym same)) refl

  -- what one has, seen, or else what another has
  abbrev pub seen_or : (V → W) → Option V → Option W → Option W
  seen_or g None o = o
  seen_or g (Some v) o = Some (g v)

  -- a map with what another one has put over it
  pub at-over : (g : V → W) (es : List (List ℕ × V)) (fs : List (List ℕ × W)) (q : List ℕ) → AreRising es → value_at (fold (λ d p. with_key d p.0 (g p.1)) fs es) q ≡ seen_or g (value_at es q) (value_at fs q)
  at-over g [] fs q rising = refl
  at-over g (e ∷ es) fs q rising =
      at-over g es (with_key fs e.0 (g e.1)) q (rising_rest e es rising)
      ∙ ap (seen_or g (value_at es q)) (at-with_key fs e.0 q (g e.1))
      ∙ by_tie (λ t. seen_or g (value_at es q) (cond t (Some (g e.1)) (value_at fs q)) ≡ seen_or g (cond t (Some e.1) (value_at es q)) (value_at fs q)) q e.0
      (λ same. ap (λ o. seen_or g o (Some (g e.1))) (ap (value_at es) same ∙ none_later e es rising)) refl

  pub rising-over : (g : V → W) (es : List (List ℕ × V)) (fs : List (List ℕ × W)) → AreRising fs → AreRising (fold (λ d p. with_key d p.0 (g p.1)) fs es)
  rising-over g [] fs rising = rising
  rising-over g (e ∷ es) fs rising = rising-over g es (with_key fs e.0 (g e.1)) (rising-with_key fs e.0 (g e.1) rising)

-- an id that a diff doesn't name keeps its record
pub unnamed : (diff : RecordOps) (m : Pairs) (q : List ℕ) → value_at diff q ≡ None → value_at (fold_raw m diff) q ≡ value_at m q
unnamed [] m q none = refl
unnamed (c ∷ diff) m q none =
    let next = set_at m c.0 (raw c.1 (value_at m c.0)) in
    elim (ties q c.0) as (λ b. ties q c.0 ≡ b → cond b (Some c.1) (value_at diff q) ≡ None → value_at (fold_raw next diff) q ≡ value_at m q) [
      | true ↦ λ is at. absurd (cc)
      | false ↦ λ is at. unnamed diff next q at ∙ at-set_at m c.0 q (raw c.1 (value_at m c.0)) ∙ ap (λ b. cond b (raw c.1 (value_at m c.0)) (value_at m q)) is
    ] refl none

pub or_assoc : (a b c : Bool) → (a || b) || c ≡ a || (b || c)
or_assoc true b c = refl
or_assoc false b c = refl

-- the ids of a list that pass a test
pub has-filter : (test : List ℕ → Bool) (ids : List (List ℕ)) (q : List ℕ) → has q (filter test ids) ≡ test q && has q ids
has-filter test [] q = sym (and_false (test q))
has-filter test (id ∷ ids) q =
    let ih = has-filter test ids q in
    elim (test id) as (λ b. test id ≡ b → has q (cond b (id ∷ filter test ids) (filter test ids)) ≡ test q && (ties q id || has q ids)) [
      | true ↦ λ is. ap (λ r. ties q id || r) ih
          ∙ by_tie (λ t. t || (test q && has q ids) ≡ test q && (t || has q ids)) q id (λ same. sym (ap (λ b. b && true) (ap test same ∙ is))) refl
      | false ↦ λ is. ih
          ∙ by_tie (λ t. test q && has q ids ≡ test q && (t || has q ids)) q id
          (λ same. subst (λ b. b && has q ids ≡ b && true) (sym (ap test same ∙ is)) refl) refl
    ] refl

-- whether an id stands among ids with clocks, with a clock that passes a test
abbrev hits : (ℕ → Bool) → List ℕ → List (List ℕ × ℕ) → Bool
hits g q [] = false
hits g q (p ∷ ps) = (g p.1 && ties q p.0) || hits g q ps

has-passing : (g : ℕ → Bool) (ps : List (List ℕ × ℕ)) (q : List ℕ) → has q (map (λ p. p.0) (filter (λ p. g p.1) ps)) ≡ hits g q ps
has-passing g [] q = refl
has-passing g (p ∷ ps) q =
    elim (g p.1) as (λ b. has q (map (λ p. p.0) (cond b (p ∷ filter (λ p. g p.1) ps) (filter (λ p. g p.1) ps))) ≡ (b && ties q p.0) || hits g q ps) [
      | true ↦ ap (λ r. ties q p.0 || r) (has-passing g ps q)
      | false ↦ has-passing g ps q
    ]

not_hit : (a t h : Bool) → t && h ≡ t && ((a && false) || h)
not_hit true t h = refl
not_hit false t h = refl

hit_later : (a t h : Bool) → (a && false) || (t && h) ≡ t && ((a && false) || h)
hit_later true t h = refl
hit_later false t h = refl

hits-filter : (g : ℕ → Bool) (test : List ℕ → Bool) (ps : List (List ℕ × ℕ)) (q : List ℕ) → hits g q (filter (λ p. test p.0) ps) ≡ test q && hits g q ps
hits-filter g test [] q = sym (and_false (test q))
hits-filter g test (p ∷ ps) q =
    let ih = hits-filter g test ps q in
    let a = g p.1 in
    let h = hits g q ps in
    elim (test p.0) as (λ b. test p.0 ≡ b → hits g q (cond b (p ∷ filter (λ p. test p.0) ps) (filter (λ p. test p.0) ps)) ≡ test q && ((a && ties q p.0) || h)) [
      | true ↦ λ is. ap (λ r. (a && ties q p.0) || r) ih
          ∙ by_tie (λ t. (a && t) || (test q && h) ≡ test q && ((a && t) || h)) q p.0
          (λ same. subst (λ b. (a && true) || (b && h) ≡ b && ((a && true) || h)) (sym (ap test same ∙ is)) refl) (hit_later a (test q) h)
      | false ↦ λ is. ih
          ∙ by_tie (λ t. test q && h ≡ test q && ((a && t) || h)) q p.0
          (λ same. subst (λ b. b && h ≡ b && ((a && true) || h)) (sym (ap test same ∙ is)) refl) (not_hit a (test q) h)
    ] refl

hits-append : (g : ℕ → Bool) (ps ps2 : List (List ℕ × ℕ)) (q : List ℕ) → hits g q (ps ++ ps2) ≡ hits g q ps || hits g q ps2
hits-append g [] ps2 q = refl
hits-append g (p ∷ ps) ps2 q = ap (λ r. (g p.1 && ties q p.0) || r) (hits-append g ps ps2 q) ∙ sym (or_assoc (g p.1 && ties q p.0) (hits g q ps) (hits g q ps2))

one_hit : {V : Type 0} (a t : Bool) (v : V) (o : Option V) → (a && t) || (a && is_some o) ≡ a && is_some (cond t (Some v) o)
one_hit true true v o = refl
one_hit true false v o = refl
one_hit false t v o = refl

hits-at : {V : Type 0} (g : ℕ → Bool) (n : ℕ) (es : List (List ℕ × V)) (q : List ℕ) → hits g q (map (λ c. (c.0, n)) es) ≡ g n && is_some (value_at es q)
hits-at g n [] q = sym (and_false (g n))
hits-at g n (e ∷ es) q = ap (λ r. (g n && ties q e.0) || r) (hits-at g n es q) ∙ one_hit (g n) (ties q e.0) e.1 (value_at es q)

by_name : (named : Bool) (new old : Bool) → (not named && old) || (new && named) ≡ cond named new old
by_name true true old = refl
by_name true false old = refl
by_name false true true = refl
by_name false true false = refl
by_name false false true = refl
by_name false false false = refl

nat_lt-cond : (clock : ℕ) (b : Bool) (x y : ℕ) → cond b (nat_lt clock x) (nat_lt clock y) ≡ nat_lt clock (cond b x y)
nat_lt-cond clock true x y = refl
nat_lt-cond clock false x y = refl

pub none_below : (clock : ℕ) → false ≡ nat_lt clock 0
none_below clock = elim (nat_lt clock 0) as (λ b. nat_lt clock 0 ≡ b → false ≡ b) [ true ↦ λ is. absurd (grind (arith, nat_tests)) | false ↦ λ is. refl ] refl

last_hit : (clock : ℕ) (history : History) (q : List ℕ) → hits (nat_lt clock) q (last_clocks history) ≡ nat_lt clock (last_clock history q)
last_hit clock [] q = none_below clock
last_hit clock (entry ∷ history) q =
    let new = suc (length history) in
    hits-append (nat_lt clock) (filter (λ p. not (names p.0 entry)) (last_clocks history)) (map (λ c. (c.0, new)) entry.diff) q
    ∙ (λ i. hits-filter (nat_lt clock) (λ id. not (names id entry)) (last_clocks history) q i || hits-at (nat_lt clock) new entry.diff q i)
    ∙ ap (λ r. (not (names q entry) && r) || (nat_lt clock new && names q entry)) (last_hit clock history q)
    ∙ by_name (names q entry) (nat_lt clock new) (nat_lt clock (last_clock history q))
    ∙ nat_lt-cond clock (names q entry) new (last_clock history q)

-- the ids whose last entry lies above a clock
pub has-changed : (clock : ℕ) (history : History) (q : List ℕ) → has q (map (λ p. p.0) (changed_after clock history)) ≡ nat_lt clock (last_clock history q)
has-changed clock history q = has-passing (nat_lt clock) (last_clocks history) q ∙ last_hit clock history q

-- an id whose last entry lies at most at a clock has what it had there
pub kept_at : (clock : ℕ) (history : History) (q : List ℕ) → last_clock history q ≤ clock → value_at (records_of (oldest clock history)) q ≡ value_at (records_of history) q
kept_at clock [] q within = refl
kept_at clock (entry ∷ history) q within =
    elim (nat_lt (length history) clock) as (λ b. nat_lt (length history) clock ≡ b → value_at (records_of (cond b (entry ∷ history) (oldest clock history))) q ≡ value_at (records_of (entry ∷ history)) q) [
      | true ↦ λ is. refl
      | false ↦ λ is.
          elim (value_at entry.diff q) as (λ o. value_at entry.diff q ≡ o → cond (is_some o) (suc (length history)) (last_clock history q) ≤ clock → value_at (records_of (oldest clock history)) q ≡ value_at (records_of (entry ∷ history)) q) [
            | None ↦ λ none low. kept_at clock history q low ∙ sym (unnamed entry.diff (records_of history) q none)
            | Some c ↦ λ named low. absurd (grind (arith, nat_tests))
          ] refl within
    ] refl
