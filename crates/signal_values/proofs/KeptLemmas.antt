-- What several computations leave, one after the other.
use Rattle.std.proofs.Common.{◌≡◌, ℕ, ◌<◌, inl, inr, Bool, true, false, cond, List, [], ◌∷◌, ◌++◌, length, set, Option, Some, None, refl, sym, ◌∙◌, ap, subst, arith}
use Rattle.std.specs.List.{slice_get}
use Rattle.std.specs.Ordering.{is_eq}
use Rattle.std.specs.BTreeMap.{BTreeMap, get, Updates}
use Rattle.std.specs.declared.cmp.Ordering.{Ordering}
use Rattle.std.proofs.lemmas.Bool.{cases_lt}
use Rattle.std.proofs.lemmas.Option.{slice_get_within}
use Rattle.signal_rules.specs.Meaning.{Meaning}
use Rattle.signal_values.specs.declared.cells.Row.{Row}
use Rattle.signal_values.specs.declared.cells.Cells.{Cells}
use Rattle.signal_values.specs.Cells.{IsFresh, IsGraph, IsIndex, IsSound, atoms_of}
use Rattle.signal_values.specs.Kept.{Leaves, IsMade, IsKept, IsLeft, IsFreshAt, IsFreshKey}
use Rattle.signal_values.proofs.ListLemmas.{get_keep, get_last, get_cases, set_same, set_other, set_cases, get_within}
use Rattle.signal_values.proofs.AtomLemmas.{IsExact, eq_same, same_eq, atoms_same}
use Rattle.signal_values.proofs.MarkLemmas.{dec_row}
use Rattle.signal_values.proofs.GraphLemmas.{KeepsFresh}
use Rattle.rooms_val.proofs.Truths.{one_some}

-- a key that isn't found has no row
pub absent_row : {K V : Type 0} (cmp : K → K → Ordering) (places : BTreeMap K ℕ) (rows : List (Row K V)) (key : K) → IsIndex cmp places rows → get cmp places key ≡ None → (i : ℕ) (row : Row K V) → slice_get rows i ≡ Some row → row.key ≡ key → ⊥
absent_row {K} {V} cmp places rows key index none i row h is =
    let found : get cmp places key ≡ Some i = subst (λ (k : K). get cmp places k ≡ Some i) is (index.listed i row h) in
    no (get cmp places key) i none found
  where
    no : (o : Option ℕ) (n : ℕ) → o ≡ None → o ≡ Some n → ⊥
    no o n p q = cc

pub index_added : {K V : Type 0} (cmp : K → K → Ordering) → IsExact cmp → (places after : BTreeMap K ℕ) (rows : List (Row K V)) (row : Row K V) (rows_after : List (Row K V)) → IsIndex cmp places rows
    → ((i : ℕ) (other : Row K V) → slice_get rows i ≡ Some other → other.key ≡ row.key → ⊥) → Updates cmp places after row.key (Some (length rows)) → rows_after ≡ rows ++ row ∷ [] → IsIndex cmp after rows_after
index_added {K} {V} cmp x places after rows row rows_after index absent updates e =
    let look = updates.0 in
    let keep : (i : ℕ) (r : Row K V) → slice_get rows i ≡ Some r → slice_get rows_after i ≡ Some r = λ i r h. subst (λ (rs : List (Row K V)). slice_get rs i ≡ Some r) (sym e) (get_keep rows row r i h) in
    let last : slice_get rows_after (length rows) ≡ Some row = subst (λ (rs : List (Row K V)). slice_get rs (length rows) ≡ Some row) (sym e) (get_last rows row) in
    record {
      found = λ key i h. at key i (is_eq (cmp row.key key)) refl (sym (look key) ∙ h) keep last;
      listed = λ i r h.
          elim (get_cases rows row r i (subst (λ (rs : List (Row K V)). slice_get rs i ≡ Some r) e h)) [
            | inl was ↦ look r.key ∙ other r.key (Some (length rows)) (get cmp places r.key) (is_eq (cmp row.key r.key)) refl (λ same. absent i r was (sym same)) ∙ index.listed i r was
            | inr new ↦
                let is : is_eq (cmp row.key r.key) ≡ true = same_eq cmp x row.key r.key (ap (λ (s : Row K V). s.key) (sym new.1)) in
                look r.key ∙ this (Some (length rows)) (get cmp places r.key) (is_eq (cmp row.key r.key)) is ∙ ap (λ (n : ℕ). Some n) (sym new.0)
          ];
    }
  where
    at : (key : K) (i : ℕ) (b : Bool) → is_eq (cmp row.key key) ≡ b → cond b (Some (length rows)) (get cmp places key) ≡ Some i
        → ((j : ℕ) (r : Row K V) → slice_get rows j ≡ Some r → slice_get rows_after j ≡ Some r) → slice_get rows_after (length rows) ≡ Some row → (r : Row K V) × (slice_get rows_after i ≡ Some r) × (r.key ≡ key)
    at key i true is h keep last = let place : length rows ≡ i = cc in (row, subst (λ (n : ℕ). slice_get rows_after n ≡ Some row) place last, eq_same cmp x row.key key is)
    at key i false is h keep last = let was = index.found key i h in (was.0, keep i was.0 was.1, was.2)

    other : (key : K) (a c : Option ℕ) (b : Bool) → is_eq (cmp row.key key) ≡ b → (row.key ≡ key → ⊥) → cond b a c ≡ c
    other key a c true is ne = absurd (ne (eq_same cmp x row.key key is))
    other key a c false is ne = refl

    this : (a c : Option ℕ) (b : Bool) → b ≡ true → cond b a c ≡ a
    this a c true is = refl
    this a c false is = absurd (cc)

pub index_written : {K V : Type 0} (cmp : K → K → Ordering) (places : BTreeMap K ℕ) (rows : List (Row K V)) (i : ℕ) (row other : Row K V) → IsIndex cmp places rows → slice_get rows i ≡ Some row → other.key ≡ row.key → IsIndex cmp places (set rows i other)
index_written {K} {V} cmp places rows i row other index here same = record {
  found = λ key j h.
      let was = index.found key j h in
      elim (dec_row j i) [
        | inl at ↦
            let one : row ≡ was.0 = one_some (slice_get rows i) row was.0 here (subst (λ (n : ℕ). slice_get rows n ≡ Some was.0) at was.1) in
            (other, subst (λ (n : ℕ). slice_get (set rows i other) n ≡ Some other) (sym at) (set_same rows i other (slice_get_within rows i row here)), same ∙ ap (λ (r : Row K V). r.key) one ∙ was.2)
        | inr ne ↦ (was.0, set_other rows i j other ne ∙ was.1, was.2)
      ];
  listed = λ j r h.
      elim (set_cases rows i j other r h) [
        | inl new ↦ subst (λ (k : K). get cmp places k ≡ Some j) (sym same ∙ ap (λ (s : Row K V). s.key) (sym new.1)) (subst (λ (n : ℕ). get cmp places row.key ≡ Some n) (sym new.0) (index.listed i row here))
        | inr was ↦ index.listed j r was.1
      ];
}

pub index_same : {K V : Type 0} (cmp : K → K → Ordering) (places after : BTreeMap K ℕ) (rows rows_after : List (Row K V)) → IsIndex cmp places rows → ((key : K) → get cmp after key ≡ get cmp places key) → rows_after ≡ rows → IsIndex cmp after rows_after
index_same {K} {V} cmp places after rows rows_after index same e =
    subst (λ (rs : List (Row K V)). IsIndex cmp after rs) (sym e) (record {
      found = λ key i h. index.found key i (sym (same key) ∙ h);
      listed = λ i row h. same row.key ∙ index.listed i row h;
    })

pub kept_none : {K V : Type 0} (m : Meaning K V) (epoch : ℕ) (rows : List (Row K V)) (fresh : List Bool) → IsKept m epoch rows fresh rows fresh
kept_none m epoch rows fresh = record {
  left = λ i row h. (row, h, inl (refl, λ f. f));
  made = λ i row h far. absurd (omega (arith, slice_get_within rows i row h));
}

-- fresh rows stay
pub keeps_fresh : {K V : Type 0} (m : Meaning K V) (epoch : ℕ) (rows : List (Row K V)) (fresh : List Bool) (after : List (Row K V)) (now : List Bool) → IsKept m epoch rows fresh after now → KeepsFresh rows fresh after now
keeps_fresh {K} {V} m epoch rows fresh after now kept i row h f =
    let q = kept.left i row h in
    elim q.2 [
      | inl same ↦ (subst (λ (r : Row K V). slice_get after i ≡ Some r) same.0 q.1, same.1 f)
      | inr computed ↦ absurd (computed.stale f)
    ]

pub kept_twice : {K V : Type 0} (m : Meaning K V) (epoch : ℕ) (rows : List (Row K V)) (fresh : List Bool) (middle : List (Row K V)) (then_ : List Bool) (after : List (Row K V)) (now : List Bool)
    → IsKept m epoch rows fresh middle then_ → ((i : ℕ) (row : Row K V) → slice_get middle i ≡ Some row → m.rank row.key ≡ 0 → IsFresh then_ i) → IsKept m epoch middle then_ after now → IsKept m epoch rows fresh after now
kept_twice {K} {V} m epoch rows fresh middle then_ after now first ready last = record {
  left = λ i row h.
      let a = first.left i row h in
      let b = last.left i a.0 a.1 in
      (b.0, b.1, both i row a.0 b.0 a.2 b.2);
  made = λ i row h far.
      elim (cases_lt i (length middle)) [
        | inl low ↦
            let s = get_within middle i low in
            let b = last.left i s.0 s.1 in
            subst (λ (r : Row K V). IsMade m epoch r) (one_some (slice_get after i) b.0 row b.1 h) (again i s.0 b.0 s.1 (first.made i s.0 s.1 far) b.2)
        | inr high ↦ last.made i row h high
      ];
}
  where
    both : (i : ℕ) (row middle_row other : Row K V) → Leaves epoch fresh then_ i row middle_row → Leaves epoch then_ now i middle_row other → Leaves epoch fresh now i row other
    both i row s t (inl p) (inl q) = inl (q.0 ∙ p.0, λ f. q.1 (p.1 f))
    both i row s t (inl p) (inr d) = inr (record {
      stale = λ f. d.stale (p.1 f);
      ready = d.ready;
      key = d.key ∙ ap (λ (r : Row K V). r.key) p.0;
      differs = λ e. d.differs (e ∙ ap (λ (r : Row K V). r.value) (sym p.0));
      changed = d.changed;
    })
    both i row s t (inr d) (inl q) = inr (record {
      stale = d.stale;
      ready = q.1 d.ready;
      key = ap (λ (r : Row K V). r.key) q.0 ∙ d.key;
      differs = λ e. d.differs (ap (λ (r : Row K V). r.value) (sym q.0) ∙ e);
      changed = ap (λ (r : Row K V). r.changed) q.0 ∙ d.changed;
    })
    both i row s t (inr d) (inr q) = absurd (q.stale d.ready)

    again : (i : ℕ) (s t : Row K V) → slice_get middle i ≡ Some s → IsMade m epoch s → Leaves epoch then_ now i s t → IsMade m epoch t
    again i s t h made (inl q) = subst (λ (r : Row K V). IsMade m epoch r) (sym q.0) made
    again i s t h made (inr d) = record {
      read = λ e. absurd (d.stale (ready i s h (ap m.rank (sym d.key) ∙ e)));
      ran = λ e. d.changed;
    }

-- the atoms are read off the rows as well
pub sound_here : {K V : Type 0} (m : Meaning K V) (cmp : K → K → Ordering) → IsExact cmp → (atoms : K → V) (cells : Cells K V) → IsSound m cmp atoms cells → IsSound m cmp (atoms_of m cmp cells.rows.items) cells
sound_here {K} {V} m cmp x atoms cells sound =
    subst (λ (a : K → V). IsSound m cmp a cells) (sym (atoms_same m cmp x cells.rows.items atoms sound.graph.atoms_are)) sound

pub left_none : {K V : Type 0} (m : Meaning K V) (cmp : K → K → Ordering) (epoch : ℕ) (cells : Cells K V) → IsSound m cmp (atoms_of m cmp cells.rows.items) cells → IsLeft m cmp epoch cells cells
left_none m cmp epoch cells sound = record { sound = sound; kept = kept_none m epoch cells.rows.items cells.fresh.items }

pub left_twice : {K V : Type 0} (m : Meaning K V) (cmp : K → K → Ordering) → IsExact cmp → (epoch : ℕ) (old middle new : Cells K V) → IsLeft m cmp epoch old middle → IsLeft m cmp epoch middle new → IsLeft m cmp epoch old new
left_twice {K} {V} m cmp x epoch old middle new first last = record {
  sound = subst (λ (a : K → V). IsSound m cmp a new) (atoms_same m cmp x middle.rows.items _ first.sound.graph.atoms_are) last.sound;
  kept = kept_twice m epoch old.rows.items old.fresh.items middle.rows.items middle.fresh.items new.rows.items new.fresh.items first.kept first.sound.graph.atoms_fresh last.kept;
}

-- the row where a key is found
pub place_fresh : {K V : Type 0} (cmp : K → K → Ordering) (cells : Cells K V) (key : K) (i : ℕ) → IsIndex cmp cells.places cells.rows.items → get cmp cells.places key ≡ Some i → IsFresh cells.fresh.items i → IsFreshAt cells key i
place_fresh cmp cells key i index found ready =
    let q = index.found key i found in
    record { row = q.0; at = q.1; is = q.2; ready = ready }

pub place_low : {K V : Type 0} (cmp : K → K → Ordering) (cells : Cells K V) (key : K) (i : ℕ) → IsIndex cmp cells.places cells.rows.items → get cmp cells.places key ≡ Some i → i < length cells.rows.items
place_low cmp cells key i index found = let q = index.found key i found in slice_get_within cells.rows.items i q.0 q.1

-- a key whose row is stale isn't fresh
pub stale_key : {K V : Type 0} (cmp : K → K → Ordering) (cells : Cells K V) (key : K) (i : ℕ) → IsIndex cmp cells.places cells.rows.items → get cmp cells.places key ≡ Some i → slice_get cells.fresh.items i ≡ Some false → IsFreshKey cells.rows.items cells.fresh.items key → ⊥
stale_key {K} {V} cmp cells key i index found stale (j, row, at, is, ready) =
    let also : get cmp cells.places key ≡ Some j = subst (λ (k : K). get cmp cells.places k ≡ Some j) is (index.listed j row at) in
    let same : i ≡ j = one_some (get cmp cells.places key) i j found also in
    no (slice_get cells.fresh.items j) (subst (λ (n : ℕ). slice_get cells.fresh.items n ≡ Some false) same stale) ready
  where
    no : (o : Option Bool) → o ≡ Some false → o ≡ Some true → ⊥
    no o p q = cc

pub leaves_key : {K V : Type 0} (epoch : ℕ) (fresh now : List Bool) (i : ℕ) (row other : Row K V) → Leaves epoch fresh now i row other → other.key ≡ row.key
leaves_key epoch fresh now i row other (inl same) = ap (λ r. r.key) same.0
leaves_key epoch fresh now i row other (inr d) = d.key

-- the row of a key after a computation
pub kept_at : {K V : Type 0} (m : Meaning K V) (epoch : ℕ) (old new : Cells K V) (key : K) (i : ℕ) (row : Row K V) → IsKept m epoch old.rows.items old.fresh.items new.rows.items new.fresh.items → slice_get old.rows.items i ≡ Some row → row.key ≡ key → IsFresh new.fresh.items i → IsFreshAt new key i
kept_at m epoch old new key i row kept at is ready =
    let q = kept.left i row at in
    record { row = q.0; at = q.1; is = leaves_key epoch old.fresh.items new.fresh.items i row q.0 q.2 ∙ is; ready = ready }

-- cells with the same edges are as sound
pub sound_same : {K V : Type 0} (m : Meaning K V) (cmp : K → K → Ordering) (atoms : K → V) (old new : Cells K V) → IsSound m cmp atoms old → new.rows.items ≡ old.rows.items → new.fresh.items ≡ old.fresh.items → new.places ≡ old.places → new.edges.children ≡ old.edges.children → IsSound m cmp atoms new
sound_same {K} {V} m cmp atoms old new sound re fe pe ee = record {
  graph = subst (λ (rs : List (Row K V)). IsGraph m atoms rs new.fresh.items new.edges.children) (sym re)
      (subst (λ (bs : List Bool). IsGraph m atoms old.rows.items bs new.edges.children) (sym fe)
      (subst (λ (ls : List (List ℕ)). IsGraph m atoms old.rows.items old.fresh.items ls) (sym ee) sound.graph));
  index = index_same cmp old.places new.places old.rows.items new.rows.items sound.index (λ k. ap (λ p. get cmp p k) pe) re;
  room = omega (arith, sound.room, ap length re, ap length ee);
}
