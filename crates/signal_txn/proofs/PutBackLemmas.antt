-- Values that are put back one by one.
use Rattle.std.proofs.Common.{◌≡◌, ℕ, ◌<◌, ◌⊎◌, inl, inr, Bool, true, false, cond, List, [], ◌∷◌, length, Option, Some, None, is_some, unwrap_or, refl, sym, ◌∙◌, ap, subst, arith}
use Rattle.std.proofs.Math.Path.{fun_ext}
use Rattle.std.specs.List.{slice_get}
use Rattle.std.specs.Ordering.{is_eq}
use Rattle.std.specs.Map.{lookup}
use Rattle.std.specs.BTreeMap.{is_at}
use Rattle.std.specs.declared.cmp.Ordering.{Ordering}
use Rattle.signal_rules.specs.Meaning.{Meaning}
use Rattle.signal_rules.specs.Values.{Meets}
use Rattle.signal_rules.proofs.ValueLemmas.{Stays, DiffersAt, stays}
use Rattle.signal_values.specs.declared.cells.Row.{Row}
use Rattle.signal_values.specs.Cells.{atoms_of}
use Rattle.signal_values.specs.Kept.{IsFreshKey}
use Rattle.signal_values.specs.Seen.{Seen, IsSetAt, IsListed, IsPutBack, IsNowOrNext, risen}
use Rattle.signal_txn.specs.Seen.{ChangesOnce, StaysUnlessChanged}
use Rattle.signal_txn.specs.Undo.{HasEntry, put_over, ArePutBack}
use Rattle.signal_values.proofs.AtomLemmas.{IsExact, not_eq}
use Rattle.signal_txn.proofs.EntryLemmas.{same_or_not, cond_true, cond_false}
use Rattle.signal_txn.proofs.UndoLemmas.{set_keeps}

-- some of the entries were put back, and the rest is to be
pub record IsPutting {R K V : Type 0} (m : Meaning K V) (cmp : K → K → Ordering) (old now : Seen R K V) (entries rest : List (K × V)) : Type 0 where
  pub rules : now.rules ≡ old.rules
  pub atoms : put_over cmp rest (atoms_of m cmp now.rows) ≡ put_over cmp entries (atoms_of m cmp old.rows)
  pub still : (key : K) → HasEntry cmp rest key → atoms_of m cmp now.rows key ≡ atoms_of m cmp old.rows key
  pub epoch : StaysUnlessChanged m cmp old now
  pub changed : (key : K) → ChangesOnce m cmp old now key
  pub listed : (key : K) → IsListed old key → IsListed now key
  pub fewer : (key : K) → HasEntry cmp rest key → HasEntry cmp entries key
  pub rows : (i : ℕ) (row : Row K V) → slice_get old.rows i ≡ Some row → (HasEntry cmp entries row.key → ⊥) → slice_get now.rows i ≡ Some row
  pub apart : (key : K) → IsFreshKey old.rows old.fresh key → ((atom : K) → HasEntry cmp entries atom → Meets m (atoms_of m cmp old.rows) atom key → ⊥)
      → IsFreshKey now.rows now.fresh key × ((atom : K) → HasEntry cmp rest atom → Meets m (atoms_of m cmp now.rows) atom key → ⊥)

pub putting_start : {R K V : Type 0} (m : Meaning K V) (cmp : K → K → Ordering) (old : Seen R K V) (entries : List (K × V)) → IsPutting m cmp old old entries entries
putting_start {R} {K} {V} m cmp old entries = record {
  rules = refl;
  atoms = refl;
  still = λ key h. refl;
  epoch = inl refl;
  changed = λ key. record { differs = λ ne. absurd (ne refl); same = λ e. refl };
  listed = λ key h. h;
  fewer = λ key h. h;
  rows = λ i row h no. h;
  apart = λ key fresh away. (fresh, away);
}

pub putting_end : {R K V : Type 0} (m : Meaning K V) (cmp : K → K → Ordering) (old now : Seen R K V) (entries rest : List (K × V)) → rest ≡ [] → IsPutting m cmp old now entries rest
    → ArePutBack m cmp old now entries
putting_end {R} {K} {V} m cmp old now entries rest none p = record {
  rules = p.rules;
  atoms = ap (λ (es : List (K × V)). put_over cmp es (atoms_of m cmp now.rows)) (sym none) ∙ p.atoms;
  epoch = p.epoch;
  changed = p.changed;
  listed = p.listed;
  rows = p.rows;
  apart = λ key fresh away. (p.apart key fresh away).0;
}

-- the next epoch of before is this one, or still the next one
pub putting_epoch : {R K V : Type 0} (m : Meaning K V) (cmp : K → K → Ordering) (old now : Seen R K V) (entries rest : List (K × V)) (epoch : ℕ) → epoch ≡ risen old.epoch → IsPutting m cmp old now entries rest → IsNowOrNext now.epoch epoch
putting_epoch {R} {K} {V} m cmp old now entries rest epoch time p = at p.epoch
  where
    at : StaysUnlessChanged m cmp old now → IsNowOrNext now.epoch epoch
    at (inl e) = inr (time ∙ ap risen (sym e))
    at (inr (key, ne)) = inl (time ∙ sym ((p.changed key).differs ne).0)

entry_here : {K V : Type 0} (cmp : K → K → Ordering) → IsExact cmp → (key : K) (v : V) (rest : List (K × V)) → HasEntry cmp ((key, v) ∷ rest) key
entry_here {K} {V} cmp x key v rest = ap is_some (cond_true (is_eq (cmp key key)) (Some v) (lookup (is_at (cmp key)) rest) (ap is_eq (x.itself key)))

entry_there : {K V : Type 0} (cmp : K → K → Ordering) (key : K) (v : V) (rest : List (K × V)) (k : K) → HasEntry cmp rest k → HasEntry cmp ((key, v) ∷ rest) k
entry_there {K} {V} cmp key v rest k h = at (is_eq (cmp k key))
  where
    at : (b : Bool) → is_some (cond b (Some v) (lookup (is_at (cmp k)) rest)) ≡ true
    at true = refl
    at false = h

over_less : {K V : Type 0} (cmp : K → K → Ordering) → IsExact cmp → (key : K) (v : V) (rest : List (K × V)) (before now : K → V) → lookup (is_at (cmp key)) rest ≡ None
    → now key ≡ v → ((k : K) → (k ≡ key → ⊥) → now k ≡ before k) → put_over cmp rest now ≡ put_over cmp ((key, v) ∷ rest) before
over_less {K} {V} cmp x key v rest before now absent here others = fun_ext (λ k. at k (same_or_not cmp x k key))
  where
    same : put_over cmp rest now key ≡ put_over cmp ((key, v) ∷ rest) before key
    same =
        ap (λ (o : Option V). unwrap_or o (now key)) absent
        ∙ here
        ∙ sym (ap (λ (o : Option V). unwrap_or o (before key)) (cond_true (is_eq (cmp key key)) (Some v) (lookup (is_at (cmp key)) rest) (ap is_eq (x.itself key))))

    at : (k : K) → (k ≡ key) ⊎ (k ≡ key → ⊥) → put_over cmp rest now k ≡ put_over cmp ((key, v) ∷ rest) before k
    at k (inl e) = subst (λ (q : K). put_over cmp rest now q ≡ put_over cmp ((key, v) ∷ rest) before q) (sym e) same
    at k (inr ne) =
        ap (unwrap_or (lookup (is_at (cmp k)) rest)) (others k ne)
        ∙ sym (ap (λ (o : Option V). unwrap_or o (before k)) (cond_false (is_eq (cmp k key)) (Some v) (lookup (is_at (cmp k)) rest) (not_eq cmp x k key ne)))

no_entry : {K V : Type 0} (cmp : K → K → Ordering) (rest : List (K × V)) (key : K) → lookup (is_at (cmp key)) rest ≡ None → HasEntry cmp rest key → ⊥
no_entry {K} {V} cmp rest key absent h = no (ap is_some absent) h
  where
    no : is_some (lookup (is_at (cmp key)) rest) ≡ false → is_some (lookup (is_at (cmp key)) rest) ≡ true → ⊥
    no p q = cc

-- one more was put back, which changed nothing
putting_same : {R K V : Type 0} (m : Meaning K V) (cmp : K → K → Ordering) → IsExact cmp → (old now : Seen R K V) (entries rest : List (K × V)) (key : K) (v : V)
    → lookup (is_at (cmp key)) rest ≡ None → v ≡ atoms_of m cmp now.rows key → IsPutting m cmp old now entries ((key, v) ∷ rest) → IsPutting m cmp old now entries rest
putting_same {R} {K} {V} m cmp x old now entries rest key v absent same p = record {
  rules = p.rules;
  atoms = over_less cmp x key v rest (atoms_of m cmp now.rows) (atoms_of m cmp now.rows) absent (sym same) (λ k ne. refl) ∙ p.atoms;
  still = λ k h. p.still k (entry_there cmp key v rest k h);
  epoch = p.epoch;
  changed = p.changed;
  listed = p.listed;
  fewer = λ k h. p.fewer k (entry_there cmp key v rest k h);
  rows = p.rows;
  apart = λ k fresh away. let q = p.apart k fresh away in (q.0, λ atom h meets. q.1 atom (entry_there cmp key v rest atom h) meets);
}

-- one more was put back, which changed it
putting_other : {R K V : Type 0} (m : Meaning K V) (cmp : K → K → Ordering) → IsExact cmp → (old now next : Seen R K V) (entries rest : List (K × V)) (key : K) (v : V) (epoch : ℕ)
    → epoch ≡ risen old.epoch → lookup (is_at (cmp key)) rest ≡ None → IsSetAt m cmp now next key v epoch true → IsPutting m cmp old now entries ((key, v) ∷ rest) → IsPutting m cmp old next entries rest
putting_other {R} {K} {V} m cmp x old now next entries rest key v epoch time absent set p =
    let moves : DiffersAt m (atoms_of m cmp now.rows) (atoms_of m cmp next.rows) key = λ k low ne. sym (set.others k ne) in
    let d = set.differs refl in
    let up : next.epoch ≡ risen old.epoch = d.1 ∙ time in
    let ne_here : atoms_of m cmp next.rows key ≡ atoms_of m cmp old.rows key → ⊥ = λ e. d.0 (sym set.here ∙ e ∙ sym (p.still key (entry_here cmp x key v rest))) in
    let here : ChangesOnce m cmp old next key = record { differs = λ ne. (up, d.2 ∙ ap (λ (n : ℕ). Some n) (sym d.1)); same = λ e. absurd (ne_here e) } in
    record {
      rules = set.rules ∙ p.rules;
      atoms = over_less cmp x key v rest (atoms_of m cmp now.rows) (atoms_of m cmp next.rows) absent set.here set.others ∙ p.atoms;
      still = λ k h. set.others k (λ e. no_entry cmp rest key absent (subst (λ (q : K). HasEntry cmp rest q) e h)) ∙ p.still k (entry_there cmp key v rest k h);
      epoch = inr (key, ne_here);
      changed = λ k. elim (same_or_not cmp x k key) [
        | inl e ↦ subst (λ (q : K). ChangesOnce m cmp old next q) (sym e) here
        | inr ne ↦
            let q = p.changed k in
            let kept : ChangesOnce m cmp old next k = record {
              differs = λ other. (up, set.changed k ne ∙ (q.differs (λ e. other (set.others k ne ∙ e))).1 ∙ ap (λ (n : ℕ). Some n) ((q.differs (λ e. other (set.others k ne ∙ e))).0 ∙ sym up));
              same = λ e. set.changed k ne ∙ q.same (sym (set.others k ne) ∙ e);
            } in
            kept
      ];
      listed = λ k h. set_keeps m cmp x now next key v epoch true set k (p.listed k h);
      fewer = λ k h. p.fewer k (entry_there cmp key v rest k h);
      rows = λ i row h no. set.rows i row (p.rows i row h no) (λ e. no (p.fewer row.key (subst (λ (q : K). HasEntry cmp ((key, v) ∷ rest) q) (sym e) (entry_here cmp x key v rest))));
      apart = λ k fresh away.
          let q = p.apart k fresh away in
          let off : Meets m (atoms_of m cmp now.rows) key k → ⊥ = q.1 key (entry_here cmp x key v rest) in
          let kept : Stays m (atoms_of m cmp now.rows) (atoms_of m cmp next.rows) k = stays m (atoms_of m cmp now.rows) (atoms_of m cmp next.rows) key moves k off in
          (set.apart k q.0 off, λ atom h meets. q.1 atom (entry_there cmp key v rest atom h) (kept.met atom meets));
    }

-- one more was put back
pub putting_more : {R K V : Type 0} (m : Meaning K V) (cmp : K → K → Ordering) → IsExact cmp → (old now next : Seen R K V) (entries all rest : List (K × V)) (key : K) (v : V) (epoch : ℕ)
    → epoch ≡ risen old.epoch → all ≡ (key, v) ∷ rest → lookup (is_at (cmp key)) rest ≡ None → IsPutBack m cmp now next key v epoch → IsPutting m cmp old now entries all → IsPutting m cmp old next entries rest
putting_more {R} {K} {V} m cmp x old now next entries all rest key v epoch time is absent back p0 = at back
  where
    p : IsPutting m cmp old now entries ((key, v) ∷ rest)
    p = subst (λ (es : List (K × V)). IsPutting m cmp old now entries es) is p0

    at : IsPutBack m cmp now next key v epoch → IsPutting m cmp old next entries rest
    at (inl (same, stays_)) = subst (λ (s : Seen R K V). IsPutting m cmp old s entries rest) (sym stays_) (putting_same m cmp x old now entries rest key v absent same p)
    at (inr set) = putting_other m cmp x old now next entries rest key v epoch time absent set p

-- the first of the rest is one of the entries
pub putting_first : {R K V : Type 0} (m : Meaning K V) (cmp : K → K → Ordering) → IsExact cmp → (old now : Seen R K V) (entries all rest : List (K × V)) (key : K) (v : V)
    → all ≡ (key, v) ∷ rest → IsPutting m cmp old now entries all → HasEntry cmp entries key
putting_first {R} {K} {V} m cmp x old now entries all rest key v is p =
    p.fewer key (subst (λ (es : List (K × V)). HasEntry cmp es key) (sym is) (entry_here cmp x key v rest))

pub nothing_left : {A : Type 0} (xs : List A) → (0 < length xs → ⊥) → xs ≡ []
nothing_left [] f = refl
nothing_left (x ∷ xs) f = absurd (f (omega arith))

pub false_true : false ≡ true → ⊥
false_true e = cc
