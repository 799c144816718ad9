-- What open transactions wrote can still be put back.
use Rattle.std.proofs.Common.{◌≡◌, ℕ, suc, inl, inr, Bool, true, false, cond, List, [], ◌∷◌, map, Option, Some, None, is_some, unwrap_or, refl, sym, ◌∙◌, ap, subst}
use Rattle.std.proofs.Math.Path.{fun_ext}
use Rattle.std.specs.Prelude.{option_and_then}
use Rattle.std.specs.List.{slice_get}
use Rattle.std.specs.Ordering.{is_eq}
use Rattle.std.specs.declared.cmp.Ordering.{Ordering}
use Rattle.signal_rules.specs.Meaning.{Meaning}
use Rattle.signal_values.specs.declared.cells.Row.{Row}
use Rattle.signal_values.specs.Cells.{row_of}
use Rattle.signal_values.specs.Writes.{or_zero}
use Rattle.signal_values.specs.Seen.{Seen, IsGot, IsSet, IsSetAt, IsListed, risen}
use Rattle.signal_txn.specs.LastWrites.{LastWrites}
use Rattle.signal_txn.specs.Level.{Level, value_before, began_at, noted, unwritten}
use Rattle.signal_txn.specs.Seen.{HasWritten}
use Rattle.signal_txn.specs.Undo.{AreKnown, AreUndoable}
use Rattle.signal_values.proofs.AtomLemmas.{IsExact, eq_same}
use Rattle.signal_txn.proofs.EntryLemmas.{same_or_not, written_after, written_key, written_stays, began_noted}
use Rattle.signal_values.proofs.KeptLemmas.{leaves_key}

-- Rows.

has_row : {K V : Type 0} (cmp : K → K → Ordering) → IsExact cmp → (rows : List (Row K V)) (key : K) → is_some (row_of cmp rows key) ≡ true
    → (i : ℕ) × (row : Row K V) × (slice_get rows i ≡ Some row) × (row.key ≡ key)
has_row cmp x [] key h = absurd (cc)
has_row {K} {V} cmp x (r ∷ rows) key h = at (has_row cmp x rows key) (is_eq (cmp r.key key)) refl h
  where
    at : (is_some (row_of cmp rows key) ≡ true → (i : ℕ) × (row : Row K V) × (slice_get rows i ≡ Some row) × (row.key ≡ key))
        → (b : Bool) → is_eq (cmp r.key key) ≡ b → is_some (cond b (Some r) (row_of cmp rows key)) ≡ true
        → (i : ℕ) × (row : Row K V) × (slice_get (r ∷ rows) i ≡ Some row) × (row.key ≡ key)
    at rest true e q = (0, r, refl, eq_same cmp x r.key key e)
    at rest false e q = let p = rest q in (suc p.0, p.1, p.2, p.3)

some_then : {A : Type 0} (f : A → Option ℕ) (o : Option A) (e : ℕ) → option_and_then f o ≡ Some e → is_some o ≡ true
some_then f None e h = absurd (cc)
some_then f (Some a) e h = refl

zero_then : {A : Type 0} (f : A → Option ℕ) (o : Option A) (p : Option ℕ) → option_and_then f o ≡ or_zero p → is_some o ≡ true
zero_then f o None h = some_then f o 0 h
zero_then f o (Some e) h = some_then f o e h

-- an atom that was set is listed
pub set_listed : {R K V : Type 0} (m : Meaning K V) (cmp : K → K → Ordering) → IsExact cmp → (old new : Seen R K V) (key : K) (v : V) (epoch : ℕ) (changes : Bool)
    → IsSetAt m cmp old new key v epoch changes → IsListed new key
set_listed {R} {K} {V} m cmp x old new key v epoch true set = has_row cmp x new.rows key (some_then _ _ _ (set.differs refl).2)
set_listed {R} {K} {V} m cmp x old new key v epoch false set = has_row cmp x new.rows key (zero_then _ _ _ (set.same refl).2)

-- a listed atom stays so
pub set_keeps : {R K V : Type 0} (m : Meaning K V) (cmp : K → K → Ordering) → IsExact cmp → (old new : Seen R K V) (key : K) (v : V) (epoch : ℕ) (changes : Bool)
    → IsSetAt m cmp old new key v epoch changes → (k : K) → IsListed old k → IsListed new k
set_keeps {R} {K} {V} m cmp x old new key v epoch changes set k (i, row, at, is) = elim (same_or_not cmp x row.key key) [
  | inl e ↦ subst (λ (q : K). IsListed new q) (sym e ∙ is) (set_listed m cmp x old new key v epoch changes set)
  | inr ne ↦ (i, row, set.rows i row at ne, is)
]

pub got_keeps : {R K V : Type 0} (m : Meaning K V) (cmp : K → K → Ordering) (old new : Seen R K V) → IsGot m cmp old new → (k : K) → IsListed old k → IsListed new k
got_keeps {R} {K} {V} m cmp old new got k (i, row, at, is) =
    let q = got.rows.left i row at in
    (i, q.0, q.1, leaves_key old.epoch old.fresh new.fresh i row q.0 q.2 ∙ is)

-- where listed atoms stay so
pub undoable_keeps : {R K V : Type 0} (m : Meaning K V) (cmp : K → K → Ordering) (old new : Seen R K V) → ((k : K) → IsListed old k → IsListed new k)
    → (levels : List (Level K V)) → AreUndoable m cmp old levels → AreUndoable m cmp new levels
undoable_keeps {R} {K} {V} m cmp old new keeps [] u = tt
undoable_keeps {R} {K} {V} m cmp old new keeps (level ∷ around) u = (
  record { atoms = u.0.atoms; listed = λ k h. keeps k (u.0.listed k h); known = u.0.known },
  undoable_keeps m cmp old new keeps around u.1,
)

known_noted : {K V : Type 0} (cmp : K → K → Ordering) → IsExact cmp → (key : K) (v : V) (level : Level K V) (around : List (Level K V))
    → AreKnown cmp level around
    → AreKnown cmp (noted cmp key v level) (map (noted cmp key v) around)
known_noted {K} {V} cmp x key v level [] known = tt
known_noted {K} {V} cmp x key v level (outer ∷ around) known = (
  λ k h. elim (written_after cmp x key v level k h) [
    | inl w ↦ written_stays cmp x key v outer k (known.0 k w)
    | inr e ↦ subst (λ (q : K). HasWritten cmp (noted cmp key v outer) q) (sym e) (written_key cmp x key v outer)
  ],
  known_noted cmp x key v level around known.1,
)

-- an atom was set, and each transaction knows its value before
pub undoable_set : {R K V : Type 0} (m : Meaning K V) (cmp : K → K → Ordering) → IsExact cmp → (old new : Seen R K V) (key : K) (v before : V) (changes : Bool)
    → IsSet m cmp old new key v changes → m.rank key ≡ 0
    → (levels : List (Level K V)) → AreUndoable m cmp old levels → AreUndoable m cmp new (map (noted cmp key before) levels)
undoable_set {R} {K} {V} m cmp x old new key v before changes set low [] u = tt
undoable_set {R} {K} {V} m cmp x old new key v before changes set low (level ∷ around) u = (
  record {
    atoms = λ k h. elim (written_after cmp x key before level k h) [
      | inl w ↦ u.0.atoms k w
      | inr e ↦ ap m.rank e ∙ low
    ];
    listed = λ k h. elim (written_after cmp x key before level k h) [
      | inl w ↦ set_keeps m cmp x old new key v (risen old.epoch) changes set k (u.0.listed k w)
      | inr e ↦ subst (λ (q : K). IsListed new q) (sym e) (set_listed m cmp x old new key v (risen old.epoch) changes set)
    ];
    known = known_noted cmp x key before level around u.0.known;
  },
  undoable_set m cmp x old new key v before changes set low around u.1,
)

-- the writes of the newest make no difference
pub undoable_last : {R K V : Type 0} (m : Meaning K V) (cmp : K → K → Ordering) (values : Seen R K V) (level : Level K V) (around : List (Level K V)) (last : LastWrites K V)
    → AreUndoable m cmp values (level ∷ around) → AreUndoable m cmp values (record level { last = last } ∷ around)
undoable_last {R} {K} {V} m cmp values level around last u = (record { atoms = u.0.atoms; listed = u.0.listed; known = u.0.known }, u.1)

pub both_same : {A : Type 0} (a b : A) (as_ bs : List A) → a ≡ b → as_ ≡ bs → a ∷ as_ ≡ b ∷ bs
both_same a b as_ bs p q = cc

-- where an atom was set the transactions began where they did
pub begun_set : {K V : Type 0} (cmp : K → K → Ordering) → IsExact cmp → (key : K) (before now : K → V) → ((k : K) → (k ≡ key → ⊥) → now k ≡ before k)
    → (levels : List (Level K V)) → map (λ (l : Level K V). began_at cmp l now) (map (noted cmp key (before key)) levels) ≡ map (λ (l : Level K V). began_at cmp l before) levels
begun_set {K} {V} cmp x key before now others [] = refl
begun_set {K} {V} cmp x key before now others (level ∷ around) =
    both_same _ _ _ _ (began_noted cmp x key before now others level) (begun_set cmp x key before now others around)

put_twice : {V : Type 0} (o p : Option V) (a : V) → (is_some p ≡ true → is_some o ≡ true) → unwrap_or o (unwrap_or p a) ≡ unwrap_or o a
put_twice {V} (Some w) p a f = refl
put_twice {V} None None a f = refl
put_twice {V} None (Some v) a f = absurd (no_some (f refl))
  where
    no_some : false ≡ true → ⊥
    no_some e = cc

-- where a transaction is put back those around it began where they did
pub begun_back : {K V : Type 0} (cmp : K → K → Ordering) (level : Level K V) (before now : K → V) → now ≡ began_at cmp level before
    → (around : List (Level K V)) → AreKnown cmp level around
    → map (λ (l : Level K V). began_at cmp l now) around ≡ map (λ (l : Level K V). began_at cmp l before) around
begun_back {K} {V} cmp level before now e [] known = refl
begun_back {K} {V} cmp level before now e (outer ∷ around) known =
    both_same _ _ _ _
    (ap (λ (a : K → V). began_at cmp outer a) e ∙ fun_ext (λ k. put_twice (value_before cmp outer k) (value_before cmp level k) (before k) (known.0 k)))
    (begun_back cmp level before now e around known.1)

known_unwritten : {K V : Type 0} (cmp : K → K → Ordering) (around : List (Level K V)) → AreKnown cmp unwritten around
known_unwritten cmp [] = tt
known_unwritten {K} {V} cmp (outer ∷ around) = (λ k h. absurd (not_written h), known_unwritten cmp around)
  where
    not_written : false ≡ true → ⊥
    not_written e = cc

-- a transaction that begins wrote nothing
pub undoable_unwritten : {R K V : Type 0} (m : Meaning K V) (cmp : K → K → Ordering) (values : Seen R K V) (levels : List (Level K V))
    → AreUndoable m cmp values levels → AreUndoable m cmp values (unwritten ∷ levels)
undoable_unwritten {R} {K} {V} m cmp values levels u =
    (record { atoms = λ k h. absurd (not_written h); listed = λ k h. absurd (not_written h); known = known_unwritten cmp levels }, u)
  where
    not_written : false ≡ true → ⊥
    not_written e = cc
