-- What calls leave, as contracts see it.
use Rattle.std.proofs.Common.{◌≡◌, ◌≢◌, ℕ, zero, suc, ◌<◌, ◌⊎◌, inl, inr, Bool, true, false, List, [], ◌∷◌, ◌++◌, length, set, Option, Some, None, Contains, refl, sym, ◌∙◌, ap, subst, arith}
use Rattle.std.specs.Prelude.{Result, Ok, Err, OnOk, IfOk, option_and_then}
use Rattle.std.specs.List.{slice_get}
use Rattle.std.specs.BTreeMap.{get, is_at}
use Rattle.std.specs.Map.{lookup}
use Rattle.links_core.specs.Lists.{list_at}
use Rattle.links_core.proofs.Members.{none_in_nil}
use Rattle.std.specs.declared.cmp.Ordering.{Ordering}
use Rattle.std.proofs.lemmas.Option.{slice_get_within}
use Rattle.signal_rules.specs.Meaning.{Meaning, IsLawful}
use Rattle.signal_rules.specs.Values.{value, Meets}
use Rattle.signal_rules.proofs.ValueLemmas.{value_is}
use Rattle.signal_values.specs.declared.cells.Row.{Row}
use Rattle.signal_values.specs.declared.cells.Cells.{Cells}
use Rattle.signal_values.specs.Cells.{IsFresh, HaveAtoms, IsSound, row_of, atoms_of}
use Rattle.signal_values.specs.Kept.{IsLeft, IsFreshAt, IsRead, HasListed}
use Rattle.signal_values.specs.Writes.{IsWritten, written_row, or_zero}
use Rattle.signal_values.specs.Seen.{Seen, IsGot, IsValueAt, IsSetAt}
use Rattle.signal_values.proofs.ListLemmas.{set_same, set_other, get_keep, get_last, get_within}
use Rattle.signal_values.proofs.MarkLemmas.{dec_row}
use Rattle.signal_values.proofs.AtomLemmas.{IsExact, HasRow, HasNone, row_cases, row_of_set, row_of_append, atoms_same, atoms_there}
use Rattle.signal_values.proofs.KeptLemmas.{keeps_fresh}
use Rattle.signal_values.proofs.WriteLemmas.{differs_at}
use Rattle.rooms_val.proofs.Truths.{if_ok_then, on_ok_anyway, one_some}

-- cells as contracts see them
abbrev pub seen : {R K V : Type 0} → R → Cells K V → ℕ → Seen R K V
seen rules cells epoch = record { rules = rules; rows = cells.rows.items; fresh = cells.fresh.items; epoch = epoch }

pub got_from : {R K V : Type 0} (m : Meaning K V) (cmp : K → K → Ordering) → IsExact cmp → (rules : R) (old new : Cells K V) (epoch : ℕ) → IsLeft m cmp epoch old new
    → IsGot m cmp (seen rules old epoch) (seen rules new epoch)
got_from {R} {K} {V} m cmp x rules old new epoch left = record {
  rules = refl;
  epoch = refl;
  atoms = atoms_same m cmp x new.rows.items (atoms_of m cmp old.rows.items) left.sound.graph.atoms_are;
  rows = left.kept;
  fresh = λ key (i, row, at, is, ready). let q = keeps_fresh m epoch old.rows.items old.fresh.items new.rows.items new.fresh.items left.kept i row at ready in (i, row, q.0, is, q.1);
}

pub value_from : {R K V : Type 0} (m : Meaning K V) (cmp : K → K → Ordering) → IsLawful m → (rules : R) (old new : Cells K V) (epoch : ℕ) (key : K) (i : ℕ) → IsLeft m cmp epoch old new → IsFreshAt new key i
    → IsValueAt m cmp (seen rules old epoch) (seen rules new epoch) key i
value_from {R} {K} {V} m cmp law rules old new epoch key i left found = record {
  row = found.row;
  at = found.at;
  is = found.is;
  value = value_is m (atoms_of m cmp old.rows.items) law found.row.key found.row.value (left.sound.graph.current i found.row found.at found.ready).value ∙ ap (value m (atoms_of m cmp old.rows.items)) found.is;
  ready = found.ready;
}

-- the row of a key, as the index has it
pub row_at : {K V : Type 0} (cmp : K → K → Ordering) → IsExact cmp → (cells : Cells K V) (key : K) (i : ℕ) (row : Row K V)
    → ((j k : ℕ) (r s : Row K V) → slice_get cells.rows.items j ≡ Some r → slice_get cells.rows.items k ≡ Some s → r.key ≡ s.key → j ≡ k)
    → slice_get cells.rows.items i ≡ Some row → row.key ≡ key → row_of cmp cells.rows.items key ≡ Some row
row_at {K} {V} cmp x cells key i row distinct at is = by_cases (row_cases cmp x cells.rows.items key)
  where
    by_cases : HasRow cmp cells.rows.items key ⊎ HasNone cmp cells.rows.items key → row_of cmp cells.rows.items key ≡ Some row
    by_cases (inl has) =
        let e : i ≡ has.i = distinct i has.i row has.row at has.at (is ∙ sym has.is) in
        has.found ∙ ap (λ (r : Row K V). Some r) (one_some (slice_get cells.rows.items has.i) has.row row has.at (subst (λ (n : ℕ). slice_get cells.rows.items n ≡ Some row) e at))
    by_cases (inr none) = absurd (none.none i row at is)

pub no_row_of : {K V : Type 0} (cmp : K → K → Ordering) → IsExact cmp → (rows : List (Row K V)) (key : K) → ((i : ℕ) (row : Row K V) → slice_get rows i ≡ Some row → row.key ≡ key → ⊥) → row_of cmp rows key ≡ None
no_row_of {K} {V} cmp x rows key none = by_cases (row_cases cmp x rows key)
  where
    by_cases : HasRow cmp rows key ⊎ HasNone cmp rows key → row_of cmp rows key ≡ None
    by_cases (inl has) = absurd (none has.i has.row has.at has.is)
    by_cases (inr gone) = gone.found

-- an atom was set
pub set_is : {R K V : Type 0} (m : Meaning K V) (cmp : K → K → Ordering) → IsExact cmp → (rules : R) (old middle new : Cells K V) (epoch after time : ℕ) (key : K) (i : ℕ) (row : Row K V) (v : V) (changes : Bool)
    → IsSound m cmp (atoms_of m cmp middle.rows.items) middle → m.rank key ≡ 0
    → ((j : ℕ) (r : Row K V) → slice_get old.rows.items j ≡ Some r → slice_get middle.rows.items j ≡ Some r)
    → ((k : K) → k ≢ key → row_of cmp middle.rows.items k ≡ row_of cmp old.rows.items k)
    → ((j : ℕ) → IsFresh old.fresh.items j → IsFresh middle.fresh.items j)
    → atoms_of m cmp middle.rows.items ≡ atoms_of m cmp old.rows.items
    → slice_get middle.rows.items i ≡ Some row → row.key ≡ key → option_and_then (λ (r : Row K V). r.changed) (row_of cmp old.rows.items key) ≡ row.changed
    → IsWritten m cmp middle new i row v time changes → (changes ≡ true → after ≡ time) → (changes ≡ false → after ≡ epoch)
    → IsSetAt m cmp (seen rules old epoch) (seen rules new after) key v time changes
set_is {R} {K} {V} m cmp x rules old middle new epoch after time key i row v changes sound low keep others stay atoms at is changed w up down =
    let other = written_row row v changes time in
    let same_key : other.key ≡ row.key = key_of changes in
    let in_new : (j : ℕ) (r : Row K V) → slice_get (set middle.rows.items i other) j ≡ Some r → slice_get new.rows.items j ≡ Some r = λ j r h. subst (λ (rs : List (Row K V)). slice_get rs j ≡ Some r) (sym w.rows) h in
    let new_at : slice_get new.rows.items i ≡ Some other = in_new i other (set_same middle.rows.items i other (slice_get_within middle.rows.items i row at)) in
    let kept : (j : ℕ) (r : Row K V) → slice_get middle.rows.items j ≡ Some r → (s : Row K V) × (slice_get new.rows.items j ≡ Some s) × (s.key ≡ r.key) = λ j r h.
    elim (dec_row j i) [
      | inl e ↦
          let one : r ≡ row = one_some (slice_get middle.rows.items i) r row (subst (λ (n : ℕ). slice_get middle.rows.items n ≡ Some r) e h) at in
          (other, subst (λ (n : ℕ). slice_get new.rows.items n ≡ Some other) (sym e) new_at, same_key ∙ ap (λ (s : Row K V). s.key) (sym one))
      | inr ne ↦ (r, in_new j r (set_other middle.rows.items i j other ne ∙ h), refl)
    ] in
    let low_row : m.rank row.key ≡ 0 = ap m.rank is ∙ low in
    let was : row.value ≡ atoms_of m cmp old.rows.items key = sound.graph.atoms_are.there i row at low_row ∙ ap (atoms_of m cmp middle.rows.items) is ∙ ap (λ (f : K → V). f key) atoms in
    let now_is : other.value ≡ atoms_of m cmp new.rows.items key = w.sound.graph.atoms_are.there i other new_at (ap m.rank same_key ∙ low_row) ∙ ap (atoms_of m cmp new.rows.items) (same_key ∙ is) in
    let new_changed : option_and_then (λ (r : Row K V). r.changed) (row_of cmp new.rows.items key) ≡ other.changed = ap (option_and_then (λ (r : Row K V). r.changed)) (row_at cmp x new key i other w.sound.graph.distinct new_at (same_key ∙ is)) in
    record {
      rules = refl;
      here = sym now_is ∙ value_of changes (λ e. (w.same e).0);
      others = λ k ne.
          let d = differs_at m cmp x (atoms_of m cmp middle.rows.items) (atoms_of m cmp new.rows.items) middle.rows.items i row other sound.graph.atoms_are (subst (λ (rs : List (Row K V)). HaveAtoms m (atoms_of m cmp new.rows.items) rs) w.rows w.sound.graph.atoms_are) at same_key in
          elim (rank_cases (m.rank k)) [
            | inl e ↦ sym (d k e (λ q. ne (q ∙ is))) ∙ ap (λ (f : K → V). f k) atoms
            | inr high ↦ w.sound.graph.atoms_are.above k high ∙ sym (sound.graph.atoms_are.above k high) ∙ ap (λ (f : K → V). f k) atoms
          ];
      differs = λ e. ((λ q. w.differs e (q ∙ sym was)), up e, new_changed ∙ changed_true changes e);
      same = λ e. (
        (w.same e).0 ∙ was,
        down e,
        new_changed ∙ changed_false changes e ∙ ap or_zero (sym changed),
        λ k (j, r, h, s, f). let q = kept j r (keep j r h) in (j, q.0, q.1, q.2 ∙ s, subst (λ (bs : List Bool). IsFresh bs j) (sym (w.same e).1) (stay j f)),
      );
      rows = λ j r h ne. in_new j r (set_other middle.rows.items i j other (λ e. ne (ap (λ (s : Row K V). s.key) (one_some (slice_get middle.rows.items i) r row (subst (λ (n : ℕ). slice_get middle.rows.items n ≡ Some r) e (keep j r h)) at) ∙ is)) ∙ keep j r h);
      changed = λ k ne. ap (option_and_then (λ (r : Row K V). r.changed)) (ap (λ (rs : List (Row K V)). row_of cmp rs k) w.rows ∙ row_of_set cmp x middle.rows.items i row other k at same_key (λ e. ne (e ∙ is)) ∙ others k ne);
      apart = λ k (j, r, h, s, f) away.
          let q = kept j r (keep j r h) in
          (j, q.0, q.1, q.2 ∙ s, w.apart j r (keep j r h) (stay j f) (λ meets. away (subst (λ (a : K → V). Meets m a key k) atoms (subst (λ (c : K). Meets m (atoms_of m cmp middle.rows.items) c k) is (subst (λ (c : K). Meets m (atoms_of m cmp middle.rows.items) row.key c) s meets)))));
    }
  where
    key_of : (b : Bool) → (written_row row v b time).key ≡ row.key
    key_of true = refl
    key_of false = refl

    value_of : (b : Bool) → (b ≡ false → v ≡ row.value) → (written_row row v b time).value ≡ v
    value_of true f = refl
    value_of false f = sym (f refl)

    changed_true : (b : Bool) → b ≡ true → (written_row row v b time).changed ≡ Some time
    changed_true true e = refl
    changed_true false e = absurd (cc)

    changed_false : (b : Bool) → b ≡ false → (written_row row v b time).changed ≡ or_zero row.changed
    changed_false true e = absurd (cc)
    changed_false false e = refl

    rank_cases : (n : ℕ) → (n ≡ 0) ⊎ (0 < n)
    rank_cases zero = inl refl
    rank_cases (suc n) = inr (omega arith)

-- the same rows and flags
pub seen_same : {R K V : Type 0} (rules : R) (old new : Cells K V) (epoch : ℕ) → new.rows.items ≡ old.rows.items → new.fresh.items ≡ old.fresh.items → seen rules new epoch ≡ seen rules old epoch
seen_same rules old new epoch re fe = cc

-- an atom that was read is listed
pub listed_read : {K V : Type 0} (m : Meaning K V) (cmp : K → K → Ordering) → IsExact cmp → (epoch : ℕ) (old new : Cells K V) (key : K) (i : ℕ) → length old.fresh.items ≡ length old.rows.items
    → ((j : ℕ) (row : Row K V) → slice_get old.rows.items j ≡ Some row → row.key ≡ key → ⊥) → IsLeft m cmp epoch old new → IsFreshAt new key i → IsRead old new i → HasListed cmp old new key i
listed_read {K} {V} m cmp x epoch old new key i columns absent left found read =
    let at : slice_get new.rows.items i ≡ Some read.row = subst (λ (rs : List (Row K V)). slice_get rs i ≡ Some read.row) (sym read.rows) (subst (λ (n : ℕ). slice_get (old.rows.items ++ read.row ∷ []) n ≡ Some read.row) (sym read.place) (get_last old.rows.items read.row)) in
    let key_is : read.row.key ≡ key = ap (λ (r : Row K V). r.key) (one_some (slice_get new.rows.items i) read.row found.row at found.at) ∙ found.is in
    record {
      row = read.row;
      at = at;
      is = key_is;
      changed = ap (option_and_then (λ (r : Row K V). r.changed)) (no_row_of cmp x old.rows.items key absent) ∙ sym read.changed;
      rows = λ j r h. subst (λ (rs : List (Row K V)). slice_get rs j ≡ Some r) (sym read.rows) (get_keep old.rows.items read.row r j h);
      others = λ k ne. ap (λ (rs : List (Row K V)). row_of cmp rs k) read.rows ∙ row_of_append cmp x old.rows.items read.row k (λ e. ne (sym e ∙ key_is));
      flags = λ j h.
          let r = get_within old.rows.items j (omega (arith, slice_get_within old.fresh.items j true h, columns)) in
          (keeps_fresh m epoch old.rows.items old.fresh.items new.rows.items new.fresh.items left.kept j r.0 r.1 h).1;
    }

-- the changed epoch of a key
pub changed_at_row : {K V : Type 0} (cmp : K → K → Ordering) → IsExact cmp → (m : Meaning K V) (atoms : K → V) (cells : Cells K V) (key : K) (i : ℕ) (row : Row K V) → IsSound m cmp atoms cells → slice_get cells.rows.items i ≡ Some row → get cmp cells.places key ≡ Some i → row.changed ≡ option_and_then (λ (r : Row K V). r.changed) (row_of cmp cells.rows.items key)
changed_at_row {K} {V} cmp x m atoms cells key i row sound at found =
    let q = sound.index.found key i found in
    let one : row ≡ q.0 = one_some (slice_get cells.rows.items i) row q.0 at q.1 in
    sym (ap (option_and_then (λ (r : Row K V). r.changed)) (row_at cmp x cells key i row sound.graph.distinct at (ap (λ (r : Row K V). r.key) one ∙ q.2)))

no_some : (o : Option ℕ) (i : ℕ) → o ≡ None → o ≡ Some i → ⊥
no_some o i p q = cc

-- cells without rows
pub empty_sound : {K V : Type 0} (m : Meaning K V) (cmp : K → K → Ordering) → IsExact cmp → (cells : Cells K V) → cells.rows.items ≡ [] → cells.fresh.items ≡ [] → cells.places.entries ≡ [] → cells.edges.children ≡ [] → IsSound m cmp (atoms_of m cmp cells.rows.items) cells
empty_sound {K} {V} m cmp x cells re fe pe ee =
    let none : (i : ℕ) (row : Row K V) → slice_get cells.rows.items i ≡ Some row → ⊥ = λ i row h. absurd (omega (arith, slice_get_within cells.rows.items i row h, ap length re)) in
    record {
      graph = record {
        atoms_are = atoms_there m cmp x cells.rows.items (λ i j r s h k e. absurd (none i r h));
        columns = ap length fe ∙ sym (ap length re);
        distinct = λ i j r s h k e. absurd (none i r h);
        atoms_fresh = λ i r h e. absurd (none i r h);
        alive = λ p c h. absurd (none_in_nil c (subst (λ (ws : List ℕ). Contains ws c) (ap (λ (ls : List (List ℕ)). list_at ls p) ee) h));
        current = λ i r h f. absurd (none i r h);
      };
      index = record {
        found = λ key i h. absurd (nothing key i h);
        listed = λ i r h. absurd (none i r h);
      };
      room = omega (arith, ap length re, ap length ee);
    }
  where
    nothing : (key : K) (i : ℕ) → get cmp cells.places key ≡ Some i → ⊥
    nothing key i h = let e : get cmp cells.places key ≡ None = ap (lookup (is_at (cmp key))) pe in no_some (get cmp cells.places key) i e h

-- the row of an atom has its value
pub atom_there : {K V : Type 0} (m : Meaning K V) (cmp : K → K → Ordering) (cells : Cells K V) (key : K) (i : ℕ) (row : Row K V) → IsSound m cmp (atoms_of m cmp cells.rows.items) cells → slice_get cells.rows.items i ≡ Some row → row.key ≡ key → m.rank key ≡ 0 → row.value ≡ atoms_of m cmp cells.rows.items key
atom_there m cmp cells key i row sound at is low = sound.graph.atoms_are.there i row at (ap m.rank is ∙ low) ∙ ap (atoms_of m cmp cells.rows.items) is
