-- Marking, a child after the other.
use Rattle.std.proofs.Common.{◌≡◌, ◌≢◌, ℕ, zero, suc, ◌<◌, ◌≤◌, ◌⊎◌, inl, inr, Bool, true, false, List, [], ◌∷◌, length, set, map, Option, Some, None, Contains, refl, sym, ◌∙◌, ap, subst, arith}
use Rattle.std.proofs.lemmas.List.{length-set, length-map}
use Rattle.std.proofs.lemmas.Option.{slice_get_within}
use Rattle.links_core.specs.Lists.{list_at, without, first_of}
use Rattle.links_core.proofs.Members.{first_in_list, none_in_nil}
use Rattle.signal_values.specs.Edges.{Feeds}
use Rattle.signal_values.specs.Cells.{IsFresh}
use Rattle.signal_values.specs.Marks.{AreAlive, Hangs, IsMarking, IsMarked}
use Rattle.signal_values.specs.Marks.Hangs.{child, deeper}
use Rattle.signal_values.proofs.RowLemmas.{in_without, to_without}

-- how many rows are fresh
unfoldable pub fresh_count : List Bool → ℕ
fresh_count [] = 0
fresh_count (true ∷ fresh) = suc (fresh_count fresh)
fresh_count (false ∷ fresh) = fresh_count fresh

pub dec_fresh : (fresh : List Bool) (i : ℕ) → IsFresh fresh i ⊎ (IsFresh fresh i → ⊥)
dec_fresh [] i = inr (λ e. cc)
dec_fresh (true ∷ fresh) zero = inl refl
dec_fresh (false ∷ fresh) zero = inr (λ e. cc)
dec_fresh (b ∷ fresh) (suc i) = dec_fresh fresh i

pub dec_row : (i j : ℕ) → (i ≡ j) ⊎ (i ≢ j)
dec_row zero zero = inl refl
dec_row zero (suc j) = inr (λ e. absurd (omega (arith, e)))
dec_row (suc i) zero = inr (λ e. absurd (omega (arith, e)))
dec_row (suc i) (suc j) = elim (dec_row i j) [ inl e ↦ inl (ap suc e) | inr ne ↦ inr (λ e. ne (omega (arith, e))) ]

pub fresh_within : (fresh : List Bool) (i : ℕ) → IsFresh fresh i → i < length fresh
fresh_within fresh i h = slice_get_within fresh i true h

-- a row was made stale
pub was_fresh : (fresh : List Bool) (c i : ℕ) → IsFresh (set fresh c false) i → (i ≢ c) × IsFresh fresh i
was_fresh [] c i h = absurd (cc)
was_fresh (b ∷ fresh) zero zero h = absurd (cc)
was_fresh (b ∷ fresh) zero (suc i) h = (λ e. absurd (omega (arith, e)), h)
was_fresh (b ∷ fresh) (suc c) zero h = (λ e. absurd (omega (arith, e)), h)
was_fresh (b ∷ fresh) (suc c) (suc i) h = let q = was_fresh fresh c i h in (λ e. q.0 (omega (arith, e)), q.1)

pub still_fresh : (fresh : List Bool) (c i : ℕ) → i ≢ c → IsFresh fresh i → IsFresh (set fresh c false) i
still_fresh [] c i ne h = absurd (cc)
still_fresh (b ∷ fresh) zero zero ne h = absurd (ne refl)
still_fresh (b ∷ fresh) zero (suc i) ne h = h
still_fresh (b ∷ fresh) (suc c) zero ne h = h
still_fresh (b ∷ fresh) (suc c) (suc i) ne h = still_fresh fresh c i (λ e. ne (ap suc e)) h

count_set : (fresh : List Bool) (c : ℕ) → IsFresh fresh c → suc (fresh_count (set fresh c false)) ≡ fresh_count fresh
unfolding fresh_count
count_set [] c h = absurd (cc)
count_set (true ∷ fresh) zero h = refl
count_set (false ∷ fresh) zero h = absurd (cc)
count_set (true ∷ fresh) (suc c) h = ap suc (count_set fresh c h)
count_set (false ∷ fresh) (suc c) h = count_set fresh c h

count_fewer : (now fresh : List Bool) → length now ≡ length fresh → ((i : ℕ) → IsFresh now i → IsFresh fresh i) → fresh_count now ≤ fresh_count fresh
unfolding fresh_count
count_fewer [] [] same fewer = omega arith
count_fewer [] (b ∷ fresh) same fewer = absurd (omega (arith, same))
count_fewer (b ∷ now) [] same fewer = absurd (omega (arith, same))
count_fewer (true ∷ now) (true ∷ fresh) same fewer = omega (arith, count_fewer now fresh (omega (arith, same)) (λ i. fewer (suc i)))
count_fewer (true ∷ now) (false ∷ fresh) same fewer = let q = fewer 0 refl in absurd (cc)
count_fewer (false ∷ now) (true ∷ fresh) same fewer = omega (arith, count_fewer now fresh (omega (arith, same)) (λ i. fewer (suc i)))
count_fewer (false ∷ now) (false ∷ fresh) same fewer = count_fewer now fresh (omega (arith, same)) (λ i. fewer (suc i))

-- the child that comes next
pub next_child : (children : List (List ℕ)) (on c : ℕ) (found : Option ℕ) → found ≡ first_of (list_at children on) → found ≡ Some c → Feeds children on c
next_child children on c found is some = first_in_list (list_at children on) c (sym is ∙ some)

pub no_child : (children : List (List ℕ)) (on : ℕ) (found : Option ℕ) → found ≡ first_of (list_at children on) → found ≡ None → list_at children on ≡ []
no_child children on found is none = empty (list_at children on) (sym is ∙ none)
  where
    empty : (xs : List ℕ) → first_of xs ≡ None → xs ≡ []
    empty [] e = refl
    empty (x ∷ xs) e = absurd (cc)

pub marking_none : (on : ℕ) (children : List (List ℕ)) (fresh : List Bool) → AreAlive children fresh → IsMarking on children fresh children fresh
marking_none on children fresh alive = record {
  rows = refl;
  flags = refl;
  fewer = λ i h. h;
  alive = alive;
  edges = λ p c h. h;
  closed = λ p c h q. q;
  parents = λ p c h q. q;
  hang = λ i h none. absurd (none h);
}

-- before a child is marked its own edges are gone
pub still_alive : (children : List (List ℕ)) (fresh : List Bool) (c : ℕ) → AreAlive children fresh → AreAlive (map (without c) children) (set fresh c false)
still_alive children fresh c alive p x h =
    let q = in_without c children p x h in still_fresh fresh c x q.0 (alive p x q.1)

hangs_in : (children more : List (List ℕ)) → ((p c : ℕ) → Feeds children p c → Feeds more p c) → (on i : ℕ) → Hangs children on i → Hangs more on i
hangs_in children more sub _ _ (child on row h) = child on row (sub on row h)
hangs_in children more sub _ _ (deeper on middle row h rest) = deeper on middle row (sub on middle h) (hangs_in children more sub middle row rest)

-- a child more was marked
pub marking_more : (on c : ℕ) (children : List (List ℕ)) (fresh : List Bool) (middle : List (List ℕ)) (then_ : List Bool) (cut : List (List ℕ)) (flags : List Bool) (after : List (List ℕ)) (now : List Bool)
    → IsMarking on children fresh middle then_ → Feeds middle on c → cut ≡ map (without c) middle → flags ≡ set then_ c false → IsMarked c cut flags after now → IsMarking on children fresh after now
marking_more on c children fresh middle then_ cut flags after now first feeds ce fe last =
    let cut_in : (p x : ℕ) → Feeds cut p x → (x ≢ c) × Feeds middle p x = λ p x h. in_without c middle p x (subst (λ (ls : List (List ℕ)). Feeds ls p x) ce h) in
    let cut_out : (p x : ℕ) → x ≢ c → Feeds middle p x → Feeds cut p x = λ p x ne h. subst (λ (ls : List (List ℕ)). Feeds ls p x) (sym ce) (to_without c middle p x ne h) in
    let flag_in : (i : ℕ) → IsFresh flags i → (i ≢ c) × IsFresh then_ i = λ i h. was_fresh then_ c i (subst (λ (bs : List Bool). IsFresh bs i) fe h) in
    let flag_out : (i : ℕ) → i ≢ c → IsFresh then_ i → IsFresh flags i = λ i ne h. subst (λ (bs : List Bool). IsFresh bs i) (sym fe) (still_fresh then_ c i ne h) in
    let rec = last.marking in
    record {
      rows = rec.rows ∙ ap length ce ∙ length-map middle (without c) ∙ first.rows;
      flags = rec.flags ∙ ap length fe ∙ length-set then_ c false ∙ first.flags;
      fewer = λ i h. first.fewer i (flag_in i (rec.fewer i h)).1;
      alive = rec.alive;
      edges = λ p x h. first.edges p x (cut_in p x (rec.edges p x h)).1;
      closed = λ p x h q.
          let was = flag_in x (rec.fewer x h) in
          rec.closed p x h (cut_out p x was.0 (first.closed p x was.1 q));
      parents = λ p x h q.
          let was = cut_in p x (rec.edges p x h) in
          let then_fresh = first.parents p x was.1 q in
          elim (dec_row p c) [
            | inl same ↦ absurd (none_in_nil x (subst (λ (ws : List ℕ). Contains ws x) (ap (λ (n : ℕ). list_at after n) same ∙ last.none) h))
            | inr other ↦ rec.parents p x h (flag_out p other then_fresh)
          ];
      hang = λ i h stale.
          elim (dec_fresh then_ i) [
            | inr before ↦ first.hang i h before
            | inl fresh_then ↦ elim (dec_row i c) [
              | inl same ↦ child on i (subst (λ (n : ℕ). Feeds children on n) (sym same) (first.edges on c feeds))
              | inr other ↦ deeper on c i (first.edges on c feeds)
                  (hangs_in cut children (λ p x q. first.edges p x (cut_in p x q).1) c i (rec.hang i (flag_out i other fresh_then) stale))
            ]
          ];
    }

-- so that marking ends
pub count_less : (c : ℕ) (then_ flags : List Bool) → IsFresh then_ c → flags ≡ set then_ c false → fresh_count flags < fresh_count then_
count_less c then_ flags h fe = omega (arith, count_set then_ c h, ap fresh_count fe)

pub count_marked : (on : ℕ) (children : List (List ℕ)) (fresh : List Bool) (after : List (List ℕ)) (now : List Bool) → IsMarked on children fresh after now → fresh_count now ≤ fresh_count fresh
count_marked on children fresh after now marked = count_fewer now fresh marked.marking.flags marked.marking.fewer
