-- What several computations leave, one after the other.
use Rattle.std.proofs.Common.{◌≡◌, ◌≢◌, ℕ, zero, suc, ◌<◌, ◌≤◌, ◌⊎◌, inl, inr, Bool, true, false, cond, List, [], ◌∷◌, length, Option, Some, None, option_map, unwrap_or, refl, sym, ◌∙◌, ap, subst, arith}
use Rattle.std.specs.Prelude.{option_and_then}
use Rattle.std.specs.List.{slice_get}
use Rattle.std.specs.Ordering.{is_eq}
use Rattle.std.specs.declared.cmp.Ordering.{Ordering}
use Rattle.std.specs.declared.cmp.Ordering.TheVariants.{Less, Equal, Greater}
use Rattle.std.proofs.lemmas.Bool.{cases_lt}
use Rattle.std.proofs.lemmas.Option.{slice_get_within}
use Rattle.signal_rules.specs.Meaning.{Meaning}
use Rattle.signal_rules.specs.Values.{by_rank, value}
use Rattle.signal_values.specs.declared.cells.Row.{Row}
use Rattle.signal_values.specs.Cells.{row_of, atoms_of}
use Rattle.signal_values.specs.Kept.{Leaves}
use Rattle.signal_values.specs.Seen.{Seen, IsGot, IsFreshIn, value_in}
use Rattle.signal_core.specs.Gots.{AreGot}
use Rattle.rooms_val.proofs.Truths.{one_some}
use Rattle.signal_values.proofs.ListLemmas.{get_within}
use Rattle.signal_values.proofs.KeptLemmas.{leaves_key}

-- the changed epoch of an atom, in its row
abbrev changed_of : {K V : Type 0} → Option (Row K V) → Option ℕ
changed_of {K} {V} row = option_and_then (λ (r : Row K V). r.changed) row

-- a row keeps its key, and its changed epoch unless its value differs
record KeepsRow {K V : Type 0} (rows after : List (Row K V)) (i : ℕ) (row : Row K V) : Type 0 where
  other : Row K V
  at : slice_get after i ≡ Some other
  key : other.key ≡ row.key
  changed : (other.changed ≡ row.changed) ⊎ (other.value ≢ row.value)

-- keys that compare as equal are the same
eq_same : {K : Type 0} (cmp : K → K → Ordering) → ((a b : K) → cmp a b ≡ Equal → a ≡ b) → (a b : K) → is_eq (cmp a b) ≡ true → a ≡ b
eq_same cmp same a b h = same a b (at (cmp a b) h)
  where
    at : (o : Ordering) → is_eq o ≡ true → o ≡ Equal
    at Less e = absurd (cc)
    at Equal e = refl
    at Greater e = absurd (cc)

take_first : {X : Type 0} (x : X) (o : Option X) (b : Bool) → b ≡ true → cond b (Some x) o ≡ Some x
take_first x o true e = refl
take_first x o false e = absurd (cc)

take_later : {X : Type 0} (x : X) (o : Option X) (b : Bool) → b ≡ false → cond b (Some x) o ≡ o
take_later x o true e = absurd (cc)
take_later x o false e = refl

-- where no row of a key was set, it has no changed epoch
never_set : {K V : Type 0} (cmp : K → K → Ordering) → ((a b : K) → cmp a b ≡ Equal → a ≡ b) → (key : K) (rows : List (Row K V)) → ((i : ℕ) (row : Row K V) → slice_get rows i ≡ Some row → row.key ≡ key → row.changed ≡ None) → changed_of (row_of cmp rows key) ≡ None
never_set cmp same_keys key [] made = refl
never_set {K} {V} cmp same_keys key (r ∷ rows) made = at (never_set cmp same_keys key rows (λ i row h is. made (suc i) row h is)) (is_eq (cmp r.key key)) refl
  where
    at : changed_of (row_of cmp rows key) ≡ None → (b : Bool) → is_eq (cmp r.key key) ≡ b → changed_of (row_of cmp (r ∷ rows) key) ≡ None
    at rest true e = ap changed_of (take_first r (row_of cmp rows key) (is_eq (cmp r.key key)) e) ∙ made 0 r refl (eq_same cmp same_keys r.key key e)
    at rest false e = ap changed_of (take_later r (row_of cmp rows key) (is_eq (cmp r.key key)) e) ∙ rest

-- where the rows keep so, further ones aren't set, and the value of a key is the same, its changed epoch is
changed_same : {K V : Type 0} (cmp : K → K → Ordering) → ((a b : K) → cmp a b ≡ Equal → a ≡ b) → (key : K) (rows after : List (Row K V))
    → ((i : ℕ) (row : Row K V) → slice_get rows i ≡ Some row → KeepsRow rows after i row)
    → ((i : ℕ) (row : Row K V) → slice_get after i ≡ Some row → length rows ≤ i → row.key ≡ key → row.changed ≡ None)
    → ((row other : Row K V) → row_of cmp rows key ≡ Some row → row_of cmp after key ≡ Some other → other.value ≡ row.value)
    → changed_of (row_of cmp after key) ≡ changed_of (row_of cmp rows key)
changed_same {K} {V} cmp same_keys key [] after keeps made same = never_set cmp same_keys key after (λ i row h is. made i row h (omega arith) is)
changed_same {K} {V} cmp same_keys key (r ∷ rows) [] keeps made same = let k = keeps 0 r refl in absurd (no k.other k.at)
  where
    no : (o : Row K V) → slice_get {X = Row K V} [] 0 ≡ Some o → ⊥
    no o e = cc
changed_same {K} {V} cmp same_keys key (r ∷ rows) (s ∷ after) keeps made same =
    let k = keeps 0 r refl in
    let one : s ≡ k.other = one_some (Some s) s k.other refl k.at in
    at (is_eq (cmp r.key key)) refl (ap (λ (q : K). is_eq (cmp q key)) (ap (λ (t : Row K V). t.key) one ∙ k.key))
    (elim k.changed as (λ _. (s.changed ≡ r.changed) ⊎ (s.value ≢ r.value)) [
      | inl e ↦ inl (ap (λ (t : Row K V). t.changed) one ∙ e)
      | inr ne ↦ inr (λ e. ne (ap (λ (t : Row K V). t.value) (sym one) ∙ e))
    ])
    (λ later. changed_same cmp same_keys key rows after (λ i row h. let q = keeps (suc i) row h in record { other = q.other; at = q.at; key = q.key; changed = q.changed })
    (λ i row h far is. made (suc i) row h (omega (arith, far)) is) later)
  where
    at : (b : Bool) → is_eq (cmp r.key key) ≡ b → is_eq (cmp s.key key) ≡ is_eq (cmp r.key key) → (s.changed ≡ r.changed) ⊎ (s.value ≢ r.value)
        → (((row other : Row K V) → row_of cmp rows key ≡ Some row → row_of cmp after key ≡ Some other → other.value ≡ row.value) → changed_of (row_of cmp after key) ≡ changed_of (row_of cmp rows key))
        → changed_of (row_of cmp (s ∷ after) key) ≡ changed_of (row_of cmp (r ∷ rows) key)
    at true e f (inl c) rest = ap changed_of (take_first s (row_of cmp after key) (is_eq (cmp s.key key)) (f ∙ e)) ∙ c ∙ sym (ap changed_of (take_first r (row_of cmp rows key) (is_eq (cmp r.key key)) e))
    at true e f (inr ne) rest = absurd (ne (same r s (take_first r (row_of cmp rows key) (is_eq (cmp r.key key)) e) (take_first s (row_of cmp after key) (is_eq (cmp s.key key)) (f ∙ e))))
    at false e f c rest =
        let later_r = take_later r (row_of cmp rows key) (is_eq (cmp r.key key)) e in
        let later_s = take_later s (row_of cmp after key) (is_eq (cmp s.key key)) (f ∙ e) in
        ap changed_of later_s ∙ rest (λ row other h j. same row other (later_r ∙ h) (later_s ∙ j)) ∙ sym (ap changed_of later_r)

-- the value of the row of an atom is its value
atom_value : {K V : Type 0} (m : Meaning K V) (cmp : K → K → Ordering) (rows : List (Row K V)) (key : K) (row : Row K V) → row_of cmp rows key ≡ Some row → m.rank key ≡ 0 → atoms_of m cmp rows key ≡ row.value
atom_value {K} {V} m cmp rows key row found low = at (m.rank key) low
  where
    at : (rank : ℕ) → rank ≡ 0 → by_rank rank (unwrap_or (option_map (λ (r : Row K V). r.value) (row_of cmp rows key)) (m.blank key)) (m.blank key) ≡ row.value
    at zero e = ap (λ (o : Option (Row K V)). unwrap_or (option_map (λ (r : Row K V). r.value) o) (m.blank key)) found
    at (suc n) e = absurd (omega (arith, e))

pub got_none : {R K V : Type 0} (m : Meaning K V) (cmp : K → K → Ordering) (values : Seen R K V) → AreGot m cmp values values
got_none m cmp values = record {
  rules = refl;
  epoch = refl;
  atoms = refl;
  rows = λ i row h. (row, h, inl (refl, λ f. f));
  made = λ i row h far high. absurd (omega (arith, slice_get_within values.rows i row h));
  changed = λ key low. refl;
  fresh = λ key f. f;
}

pub got_one : {R K V : Type 0} (m : Meaning K V) (cmp : K → K → Ordering) → ((a b : K) → cmp a b ≡ Equal → a ≡ b) → (old new : Seen R K V) → IsGot m cmp old new → AreGot m cmp old new
got_one {R} {K} {V} m cmp same_keys old new got = record {
  rules = got.rules;
  epoch = got.epoch;
  atoms = got.atoms;
  rows = got.rows.left;
  made = λ i row h far high. (got.rows.made i row h far).ran high;
  changed = λ key low.
      changed_same cmp same_keys key old.rows new.rows
      (λ i row h. let q = got.rows.left i row h in record { other = q.0; at = q.1; key = leaves_key old.epoch old.fresh new.fresh i row q.0 q.2; changed = kept i row q.0 q.2 })
      (λ i row h far is. (got.rows.made i row h far).read (ap m.rank is ∙ low))
      (λ row other h j. sym (atom_value m cmp new.rows key other j low) ∙ ap (λ (a : K → V). a key) got.atoms ∙ atom_value m cmp old.rows key row h low);
  fresh = got.fresh;
}
  where
    kept : (i : ℕ) (row other : Row K V) → Leaves old.epoch old.fresh new.fresh i row other → (other.changed ≡ row.changed) ⊎ (other.value ≢ row.value)
    kept i row other (inl same) = inl (ap (λ (r : Row K V). r.changed) same.0)
    kept i row other (inr computed) = inr computed.differs

leaves_twice : {K V : Type 0} (epoch : ℕ) (fresh middle now : List Bool) (i : ℕ) (row s t : Row K V) → Leaves epoch fresh middle i row s → Leaves epoch middle now i s t → Leaves epoch fresh now i row t
leaves_twice {K} {V} epoch fresh middle now i row s t (inl p) (inl q) = inl (q.0 ∙ p.0, λ f. q.1 (p.1 f))
leaves_twice {K} {V} epoch fresh middle now i row s t (inl p) (inr d) = inr (record {
  stale = λ f. d.stale (p.1 f);
  ready = d.ready;
  key = d.key ∙ ap (λ (r : Row K V). r.key) p.0;
  differs = λ e. d.differs (e ∙ ap (λ (r : Row K V). r.value) (sym p.0));
  changed = d.changed;
})
leaves_twice {K} {V} epoch fresh middle now i row s t (inr d) (inl q) = inr (record {
  stale = d.stale;
  ready = q.1 d.ready;
  key = ap (λ (r : Row K V). r.key) q.0 ∙ d.key;
  differs = λ e. d.differs (ap (λ (r : Row K V). r.value) (sym q.0) ∙ e);
  changed = ap (λ (r : Row K V). r.changed) q.0 ∙ d.changed;
})
leaves_twice {K} {V} epoch fresh middle now i row s t (inr d) (inr q) = absurd (q.stale d.ready)

got_twice : {R K V : Type 0} (m : Meaning K V) (cmp : K → K → Ordering) (old middle new : Seen R K V) → AreGot m cmp old middle → AreGot m cmp middle new → AreGot m cmp old new
got_twice {R} {K} {V} m cmp old middle new first last = record {
  rules = last.rules ∙ first.rules;
  epoch = last.epoch ∙ first.epoch;
  atoms = last.atoms ∙ first.atoms;
  rows = λ i row h.
      let a = first.rows i row h in
      let b = later i a.0 a.1 in
      (b.0, b.1, leaves_twice old.epoch old.fresh middle.fresh new.fresh i row a.0 b.0 a.2 b.2);
  made = λ i row h far high. elim (cases_lt i (length middle.rows)) [
    | inl low ↦
        let s = get_within middle.rows i low in
        let b = later i s.0 s.1 in
        let one : b.0 ≡ row = one_some (slice_get new.rows i) b.0 row b.1 h in
        let key : row.key ≡ s.0.key = ap (λ (r : Row K V). r.key) (sym one) ∙ leaves_key old.epoch middle.fresh new.fresh i s.0 b.0 b.2 in
        ap (λ (r : Row K V). r.changed) (sym one) ∙ again i s.0 b.0 (first.made i s.0 s.1 far (subst (λ (k : K). 0 < m.rank k) key high)) b.2
    | inr high_row ↦ last.made i row h high_row high ∙ ap (λ (n : ℕ). Some n) first.epoch
  ];
  changed = λ key low. last.changed key low ∙ first.changed key low;
  fresh = λ key f. last.fresh key (first.fresh key f);
}
  where
    later : (i : ℕ) (s : Row K V) → slice_get middle.rows i ≡ Some s → (other : Row K V) × (slice_get new.rows i ≡ Some other) × Leaves old.epoch middle.fresh new.fresh i s other
    later i s h = let b = last.rows i s h in (b.0, b.1, subst (λ (e : ℕ). Leaves e middle.fresh new.fresh i s b.0) first.epoch b.2)

    again : (i : ℕ) (s t : Row K V) → s.changed ≡ Some old.epoch → Leaves old.epoch middle.fresh new.fresh i s t → t.changed ≡ Some old.epoch
    again i s t e (inl q) = ap (λ (r : Row K V). r.changed) q.0 ∙ e
    again i s t e (inr d) = d.changed

-- a fresh key stays so
pub got_fresh : {R K V : Type 0} (m : Meaning K V) (cmp : K → K → Ordering) (old new : Seen R K V) (key : K) → AreGot m cmp old new → IsFreshIn old key → IsFreshIn new key
got_fresh m cmp old new key got f = (got.fresh key f.0, omega (arith, f.1, got.epoch))

-- the same, where what rules mean is read off the values
pub got_then : {R K V : Type 0} (meaning : R → Meaning K V) (cmp : K → K → Ordering) (old middle new : Seen R K V) → AreGot (meaning old.rules) cmp old middle → AreGot (meaning middle.rules) cmp middle new → AreGot (meaning old.rules) cmp old new
got_then {R} {K} {V} meaning cmp old middle new first last = got_twice (meaning old.rules) cmp old middle new first (subst (λ (r : R). AreGot (meaning r) cmp middle new) first.rules last)

pub got_more : {R K V : Type 0} (meaning : R → Meaning K V) (cmp : K → K → Ordering) → ((a b : K) → cmp a b ≡ Equal → a ≡ b) → (old middle new : Seen R K V) → AreGot (meaning old.rules) cmp old middle → IsGot (meaning middle.rules) cmp middle new → AreGot (meaning old.rules) cmp old new
got_more meaning cmp same_keys old middle new first last = got_then meaning cmp old middle new first (got_one (meaning middle.rules) cmp same_keys middle new last)

-- a key has its value
pub got_value : {R K V : Type 0} (meaning : R → Meaning K V) (cmp : K → K → Ordering) (old new : Seen R K V) (key : K) → AreGot (meaning old.rules) cmp old new → value_in (meaning new.rules) cmp new key ≡ value_in (meaning old.rules) cmp old key
got_value {R} {K} {V} meaning cmp old new key got =
    ap (λ (r : R). value_in (meaning r) cmp new key) got.rules ∙ ap (λ (a : K → V). value (meaning old.rules) a key) got.atoms
