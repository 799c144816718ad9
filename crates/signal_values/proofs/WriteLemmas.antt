-- Cells after an atom is written, and what hangs on it became stale.
use Rattle.std.proofs.Common.{◌≡◌, ◌≢◌, ℕ, zero, suc, ◌<◌, ◌⊎◌, inl, inr, Bool, true, false, List, ◌++◌, length, set, take, drop, Option, Some, Contains, refl, sym, ◌∙◌, ap, subst, arith}
use Rattle.std.proofs.lemmas.Grind.{common_steps}
use Rattle.std.specs.List.{slice_get}
use Rattle.std.specs.Option.{IfSome}
use Rattle.std.specs.BTreeMap.{get}
use Rattle.std.specs.declared.cmp.Ordering.{Ordering}
use Rattle.std.proofs.lemmas.List.{length-set}
use Rattle.std.proofs.lemmas.Option.{slice_get_within}
use Rattle.links_core.specs.Lists.{list_at}
use Rattle.links_core.proofs.Members.{none_in_nil}
use Rattle.signal_rules.specs.Meaning.{Meaning}
use Rattle.signal_rules.specs.Values.{HasValue, Meets}
use Rattle.signal_rules.specs.Values.HasValue.{atom}
use Rattle.signal_rules.specs.Values.Meets.{itself, through}
use Rattle.signal_rules.proofs.ValueLemmas.{DiffersAt, Stays, stays}
use Rattle.signal_values.specs.Edges.{Feeds}
use Rattle.signal_values.specs.declared.cells.Row.{Row}
use Rattle.signal_values.specs.declared.cells.Cells.{Cells}
use Rattle.signal_values.specs.Cells.{IsFresh, HaveAtoms, IsCurrent, IsGraph, IsSound, atoms_of}
use Rattle.signal_values.specs.Marks.{Hangs, IsMarked}
use Rattle.signal_values.specs.Marks.Hangs.{child, deeper}
use Rattle.signal_values.specs.Writes.{IsWritten, written_row}
use Rattle.signal_values.proofs.MarkLemmas.{dec_fresh, dec_row}
use Rattle.signal_values.proofs.ListLemmas.{set_same, set_other, set_cases, get_within}
use Rattle.signal_values.proofs.AtomLemmas.{IsExact, HasRow, HasNone, row_cases, atoms_there}
use Rattle.signal_values.proofs.KeptLemmas.{index_written, index_same, sound_here}
use Rattle.rooms_val.proofs.Truths.{one_some}

-- what hangs on a row is some row's child
has_parent : (children : List (List ℕ)) (on row : ℕ) → Hangs children on row → (p : ℕ) × Feeds children p row
has_parent children _ _ (child on row h) = (on, h)
has_parent children _ _ (deeper on middle row h rest) = has_parent children middle row rest

-- what hangs on a row meets what that meets
hangs_meets : {K V : Type 0} (m : Meaning K V) (atoms : K → V) (rows : List (Row K V)) (fresh : List Bool) (children : List (List ℕ)) → IsGraph m atoms rows fresh children → (a : K)
    → (on j : ℕ) → Hangs children on j → (row other : Row K V) → slice_get rows on ≡ Some row → Meets m atoms a row.key → slice_get rows j ≡ Some other → Meets m atoms a other.key
hangs_meets {K} {V} m atoms rows fresh children g a _ _ (child on j h) row other at meets also =
    let c = g.current j other also (g.alive on j h) in
    let s = c.served on h in
    s.passes a (subst (λ (r : Row K V). Meets m atoms a r.key) (one_some (slice_get rows on) row s.row at s.at) meets)
hangs_meets {K} {V} m atoms rows fresh children g a _ _ (deeper on middle j h rest) row other at meets also =
    let ready = g.alive on middle h in
    let mid = get_within rows middle (omega (arith, slice_get_within fresh middle true ready, g.columns)) in
    let c = g.current middle mid.0 mid.1 ready in
    let s = c.served on h in
    hangs_meets m atoms rows fresh children g a middle j rest mid.0 other mid.1
    (s.passes a (subst (λ (r : Row K V). Meets m atoms a r.key) (one_some (slice_get rows on) row s.row at s.at) meets)) also

-- an atom has no parents
atom_alone : {K V : Type 0} (m : Meaning K V) (atoms : K → V) (rows : List (Row K V)) (fresh : List Bool) (children : List (List ℕ)) → IsGraph m atoms rows fresh children → (j : ℕ) (row : Row K V) → slice_get rows j ≡ Some row → m.rank row.key ≡ 0 → (p : ℕ) → Feeds children p j → ⊥
atom_alone m atoms rows fresh children g j row at low p h =
    let s = (g.current j row at (g.alive p j h)).served p h in
    omega (arith, s.lower, low)

-- a row that stays fresh doesn't meet the atom
unmet : {K V : Type 0} (m : Meaning K V) (atoms : K → V) (rows : List (Row K V)) (fresh : List Bool) (children : List (List ℕ)) (i : ℕ) (row : Row K V) (lists : List (List ℕ)) (now : List Bool)
    → IsGraph m atoms rows fresh children → slice_get rows i ≡ Some row → IsMarked i children fresh lists now
    → (n : ℕ) (j : ℕ) (other : Row K V) → m.rank other.key < n → slice_get rows j ≡ Some other → IsFresh now j → j ≢ i → Meets m atoms row.key other.key → ⊥
unmet m atoms rows fresh children i row lists now g here marked zero j other low at ready ne meets = absurd (omega arith)
unmet {K} {V} m atoms rows fresh children i row lists now g here marked (suc n) j other low at ready ne (itself _ zero_rank is) = ne (g.distinct j i other row at here is)
unmet {K} {V} m atoms rows fresh children i row lists now g here marked (suc n) j other low at ready ne (through _ needed got above asked asks below) =
    let c = g.current j other at (marked.marking.fewer j ready) in
    let w = c.whole above row.key (through other.key needed got above asked asks below) in
    let s = c.served w.parent w.feeds in
    let feeds = marked.marking.closed w.parent j ready w.feeds in
    let same : s.row ≡ w.row = one_some (slice_get rows w.parent) s.row w.row s.at w.at in
    let lower : m.rank w.row.key < m.rank other.key = subst (λ (r : Row K V). m.rank r.key < m.rank other.key) same s.lower in
    elim (dec_row w.parent i) [
      | inl e ↦ none_in_nil j (subst (λ (ws : List ℕ). Contains ws j) (ap (λ (k : ℕ). list_at lists k) e ∙ marked.none) feeds)
      | inr away ↦ unmet m atoms rows fresh children i row lists now g here marked n w.parent w.row (omega arith) w.at (marked.marking.parents w.parent j feeds s.ready) away w.meets
    ]

-- the atoms but one are as they were
pub differs_at : {K V : Type 0} (m : Meaning K V) (cmp : K → K → Ordering) → IsExact cmp → (atoms now : K → V) (rows : List (Row K V)) (i : ℕ) (row other : Row K V) → HaveAtoms m atoms rows → HaveAtoms m now (set rows i other)
    → slice_get rows i ≡ Some row → other.key ≡ row.key → DiffersAt m atoms now row.key
differs_at {K} {V} m cmp x atoms now rows i row other have has here same key low ne =
    at (row_cases cmp x rows key)
  where
    at : HasRow cmp rows key ⊎ HasNone cmp rows key → atoms key ≡ now key
    at (inl r) =
        let away : r.i ≢ i = λ e. ne (sym r.is ∙ ap (λ (s : Row K V). s.key) (one_some (slice_get rows i) r.row row (subst (λ (n : ℕ). slice_get rows n ≡ Some r.row) e r.at) here)) in
        let low_row : m.rank r.row.key ≡ 0 = ap m.rank r.is ∙ low in
        ap atoms (sym r.is) ∙ sym (have.there r.i r.row r.at low_row) ∙ has.there r.i r.row (set_other rows i r.i other away ∙ r.at) low_row ∙ ap now r.is
    at (inr none) =
        have.absent key low none.none ∙ sym (has.absent key low (λ j r h is.
        elim (set_cases rows i j other r h) [
          | inl new ↦ ne (sym is ∙ ap (λ (s : Row K V). s.key) new.1 ∙ same)
          | inr was ↦ none.none j r was.1 is
        ]))

distinct_set : {K V : Type 0} (rows : List (Row K V)) (i : ℕ) (row other : Row K V) → slice_get rows i ≡ Some row → other.key ≡ row.key
    → ((j k : ℕ) (r s : Row K V) → slice_get rows j ≡ Some r → slice_get rows k ≡ Some s → r.key ≡ s.key → j ≡ k)
    → (j k : ℕ) (r s : Row K V) → slice_get (set rows i other) j ≡ Some r → slice_get (set rows i other) k ≡ Some s → r.key ≡ s.key → j ≡ k
distinct_set {K} {V} rows i row other here same distinct j k r s h l e =
    let a = was j r h in let b = was k s l in distinct j k a.0 b.0 a.1 b.1 (a.2 ∙ e ∙ sym b.2)
  where
    was : (j : ℕ) (r : Row K V) → slice_get (set rows i other) j ≡ Some r → (s : Row K V) × (slice_get rows j ≡ Some s) × (s.key ≡ r.key)
    was j r h =
        elim (set_cases rows i j other r h) [
          | inl new ↦ (row, subst (λ (n : ℕ). slice_get rows n ≡ Some row) (sym new.0) here, sym same ∙ ap (λ (x : Row K V). x.key) (sym new.1))
          | inr old ↦ (r, old.1, refl)
        ]

-- the cells are sound after the mark
graph_marked : {K V : Type 0} (m : Meaning K V) (cmp : K → K → Ordering) → IsExact cmp → (atoms now_atoms : K → V) (rows : List (Row K V)) (fresh : List Bool) (children : List (List ℕ)) (i : ℕ) (row other : Row K V) (lists : List (List ℕ)) (now : List Bool)
    → IsGraph m atoms rows fresh children → slice_get rows i ≡ Some row → m.rank row.key ≡ 0 → other.key ≡ row.key → IsMarked i children fresh lists now → HaveAtoms m now_atoms (set rows i other)
    → IsGraph m now_atoms (set rows i other) now lists
graph_marked {K} {V} m cmp x atoms now_atoms rows fresh children i row other lists now g here low same marked have =
    let differs = differs_at m cmp x atoms now_atoms rows i row other g.atoms_are have here same in
    let away : (p c : ℕ) → Feeds lists p c → p ≢ i = λ p c h e. none_in_nil c (subst (λ (ws : List ℕ). Contains ws c) (ap (λ (k : ℕ). list_at lists k) e ∙ marked.none) h) in
    let row_stays : (j : ℕ) (r : Row K V) → slice_get rows j ≡ Some r → IsFresh now j → j ≢ i → Stays m atoms now_atoms r.key = λ j r h f ne. stays m atoms now_atoms row.key differs r.key (unmet m atoms rows fresh children i row lists now g here marked (suc (m.rank r.key)) j r (omega arith) h f ne) in
    let ready : (j : ℕ) (r : Row K V) → slice_get rows j ≡ Some r → m.rank r.key ≡ 0 → IsFresh now j = λ j r h e.
    elim (dec_fresh now j) [
      | inl f ↦ f
      | inr stale ↦
          let q = has_parent children i j (marked.marking.hang j (g.atoms_fresh j r h e) stale) in
          absurd (atom_alone m atoms rows fresh children g j r h e q.0 q.1)
    ] in
    record {
      atoms_are = have;
      columns = marked.marking.flags ∙ g.columns ∙ sym (length-set rows i other);
      distinct = distinct_set rows i row other here same g.distinct;
      atoms_fresh = λ j r h e.
          elim (set_cases rows i j other r h) [
            | inl new ↦ subst (λ (n : ℕ). IsFresh now n) (sym new.0) (ready i row here low)
            | inr was ↦ ready j r was.1 e
          ];
      alive = marked.marking.alive;
      current = λ j r h f.
          elim (set_cases rows i j other r h) [
            | inl new ↦
                let zero_rank : m.rank other.key ≡ 0 = ap m.rank same ∙ low in
                let at_i : slice_get (set rows i other) i ≡ Some other = subst (λ (n : ℕ). slice_get (set rows i other) n ≡ Some other) new.0 (h ∙ ap (λ (s : Row K V). Some s) new.1) in
                let is : IsCurrent m now_atoms (set rows i other) now (λ p. Feeds lists p i) other = record {
                  value = atom other.key other.value zero_rank (have.there i other at_i zero_rank);
                  served = λ p q. absurd (atom_alone m atoms rows fresh children g i row here low p (marked.marking.edges p i q));
                  whole = λ above a meets. absurd (omega (arith, above, zero_rank));
                } in
                subst (λ (n : ℕ). IsCurrent m now_atoms (set rows i other) now (λ p. Feeds lists p n) r) (sym new.0) (subst (λ (s : Row K V). IsCurrent m now_atoms (set rows i other) now (λ p. Feeds lists p i) s) (sym new.1) is)
            | inr was ↦
                let c = g.current j r was.1 (marked.marking.fewer j f) in
                let st = row_stays j r was.1 f was.0 in
                record {
                  value = st.value r.value c.value;
                  served = λ p q.
                      let s = c.served p (marked.marking.edges p j q) in
                      let p_ready = marked.marking.parents p j q s.ready in
                      let sp = row_stays p s.row s.at p_ready (away p j q) in
                      record { row = s.row; at = set_other rows i p other (away p j q) ∙ s.at; ready = p_ready; lower = s.lower; passes = λ a mt. st.meets a (s.passes a (sp.met a mt)) };
                  whole = λ above a meets.
                      let w = c.whole above a (st.met a meets) in
                      let q = marked.marking.closed w.parent j f w.feeds in
                      let s = c.served w.parent w.feeds in
                      let sp = row_stays w.parent w.row w.at (marked.marking.parents w.parent j q s.ready) (away w.parent j q) in
                      record { parent = w.parent; feeds = q; row = w.row; at = set_other rows i w.parent other (away w.parent j q) ∙ w.at; meets = sp.meets a w.meets };
                }
          ];
    }

-- an atom was written with another value
pub written_other : {K V : Type 0} (m : Meaning K V) (cmp : K → K → Ordering) → IsExact cmp → (old new : Cells K V) (i : ℕ) (row : Row K V) (v : V) (epoch : ℕ)
    → IsSound m cmp (atoms_of m cmp old.rows.items) old → slice_get old.rows.items i ≡ Some row → m.rank row.key ≡ 0 → v ≢ row.value → IsMarked i old.edges.children old.fresh.items new.edges.children new.fresh.items
    → new.rows.items ≡ set old.rows.items i (written_row row v true epoch) → new.places ≡ old.places → IsWritten m cmp old new i row v epoch true
written_other {K} {V} m cmp x old new i row v epoch sound here low ne marked re pe =
    let rows = old.rows.items in
    let other = written_row row v true epoch in
    let have : HaveAtoms m (atoms_of m cmp (set rows i other)) (set rows i other) = atoms_there m cmp x (set rows i other) (distinct_set rows i row other here refl sound.graph.distinct) in
    let graph = graph_marked m cmp x (atoms_of m cmp rows) (atoms_of m cmp (set rows i other)) rows old.fresh.items old.edges.children i row other new.edges.children new.fresh.items sound.graph here low refl marked have in
    record {
      sound = record {
        graph = subst (λ (rs : List (Row K V)). IsGraph m (atoms_of m cmp rs) rs new.fresh.items new.edges.children) (sym re) graph;
        index = index_same cmp old.places new.places (set rows i other) new.rows.items (index_written cmp old.places rows i row other sound.index here refl) (λ k. ap (λ p. get cmp p k) pe) re;
        room = omega (arith, sound.room, ap length re, length-set rows i other, marked.marking.rows);
      };
      rows = re;
      same = λ e. absurd (cc);
      differs = λ e. ne;
      fewer = marked.marking.fewer;
      apart = λ j r h f away.
          elim (dec_fresh new.fresh.items j) [
            | inl ready ↦ ready
            | inr stale ↦ absurd (away (hangs_meets m (atoms_of m cmp rows) rows old.fresh.items old.edges.children sound.graph row.key i j (marked.marking.hang j f stale) row r here (itself row.key low refl) h))
          ];
    }

-- only when a row changed is another
graph_touched : {K V : Type 0} (m : Meaning K V) (atoms : K → V) (rows : List (Row K V)) (fresh : List Bool) (children : List (List ℕ)) (i : ℕ) (row other : Row K V)
    → IsGraph m atoms rows fresh children → slice_get rows i ≡ Some row → other.key ≡ row.key → other.value ≡ row.value → IsGraph m atoms (set rows i other) fresh children
graph_touched {K} {V} m atoms rows fresh children i row other g here same value = record {
  atoms_are = record {
    there = λ j r h low. let q = was j r h in sym q.3 ∙ g.atoms_are.there j q.0 q.1 (ap m.rank q.2 ∙ low) ∙ ap atoms q.2;
    absent = λ key low none. g.atoms_are.absent key low (λ j r h is. let q = there j r h in none j q.0 q.1 (q.2 ∙ is));
    above = g.atoms_are.above;
  };
  columns = g.columns ∙ sym (length-set rows i other);
  distinct = distinct_set rows i row other here same g.distinct;
  atoms_fresh = λ j r h low. let q = was j r h in g.atoms_fresh j q.0 q.1 (ap m.rank q.2 ∙ low);
  alive = g.alive;
  current = λ j r h f.
      let q = was j r h in
      let c = g.current j q.0 q.1 f in
      record {
        value = subst (λ (k : K). HasValue m atoms k r.value) q.2 (subst (λ (v : V). HasValue m atoms q.0.key v) q.3 c.value);
        served = λ p feeds.
            let s = c.served p feeds in
            let t = there p s.row s.at in
            record {
              row = t.0;
              at = t.1;
              ready = s.ready;
              lower = subst (λ (k : K). m.rank k < m.rank r.key) (sym t.2) (subst (λ (k : K). m.rank s.row.key < m.rank k) q.2 s.lower);
              passes = λ a meets. subst (λ (k : K). Meets m atoms a k) q.2 (s.passes a (subst (λ (k : K). Meets m atoms a k) t.2 meets));
            };
        whole = λ above a meets.
            let w = c.whole (subst (λ (k : K). 0 < m.rank k) (sym q.2) above) a (subst (λ (k : K). Meets m atoms a k) (sym q.2) meets) in
            let t = there w.parent w.row w.at in
            record { parent = w.parent; feeds = w.feeds; row = t.0; at = t.1; meets = subst (λ (k : K). Meets m atoms a k) (sym t.2) w.meets };
      };
}
  where
    there : (j : ℕ) (r : Row K V) → slice_get rows j ≡ Some r → (s : Row K V) × (slice_get (set rows i other) j ≡ Some s) × (s.key ≡ r.key)
    there j r h =
        elim (dec_row j i) [
          | inl e ↦
              let one : r ≡ row = one_some (slice_get rows i) r row (subst (λ (n : ℕ). slice_get rows n ≡ Some r) e h) here in
              (other, subst (λ (n : ℕ). slice_get (set rows i other) n ≡ Some other) (sym e) (set_same rows i other (slice_get_within rows i row here)), same ∙ ap (λ (s : Row K V). s.key) (sym one))
          | inr ne ↦ (r, set_other rows i j other ne ∙ h, refl)
        ]

    was : (j : ℕ) (r : Row K V) → slice_get (set rows i other) j ≡ Some r → (s : Row K V) × (slice_get rows j ≡ Some s) × (s.key ≡ r.key) × (s.value ≡ r.value)
    was j r h =
        elim (set_cases rows i j other r h) [
          | inl new ↦ (row, subst (λ (n : ℕ). slice_get rows n ≡ Some row) (sym new.0) here, sym same ∙ ap (λ (s : Row K V). s.key) (sym new.1), sym value ∙ ap (λ (s : Row K V). s.value) (sym new.1))
          | inr old ↦ (r, old.1, refl, refl)
        ]

-- an atom was written with an equal value
pub written_equal : {K V : Type 0} (m : Meaning K V) (cmp : K → K → Ordering) → IsExact cmp → (old new : Cells K V) (i : ℕ) (row : Row K V) (v : V) (epoch : ℕ)
    → IsSound m cmp (atoms_of m cmp old.rows.items) old → slice_get old.rows.items i ≡ Some row → v ≡ row.value → new.edges.children ≡ old.edges.children → new.fresh.items ≡ old.fresh.items
    → new.rows.items ≡ set old.rows.items i (written_row row v false epoch) → new.places ≡ old.places → IsWritten m cmp old new i row v epoch false
written_equal {K} {V} m cmp x old new i row v epoch sound here same ee fe re pe =
    let rows = old.rows.items in
    let other = written_row row v false epoch in
    let graph = graph_touched m (atoms_of m cmp rows) rows old.fresh.items old.edges.children i row other sound.graph here refl refl in
    let moved : IsSound m cmp (atoms_of m cmp rows) new = record {
      graph = subst (λ (rs : List (Row K V)). IsGraph m (atoms_of m cmp rows) rs new.fresh.items new.edges.children) (sym re)
          (subst (λ (bs : List Bool). IsGraph m (atoms_of m cmp rows) (set rows i other) bs new.edges.children) (sym fe)
          (subst (λ (ls : List (List ℕ)). IsGraph m (atoms_of m cmp rows) (set rows i other) old.fresh.items ls) (sym ee) graph));
      index = index_same cmp old.places new.places (set rows i other) new.rows.items (index_written cmp old.places rows i row other sound.index here refl) (λ k. ap (λ p. get cmp p k) pe) re;
      room = omega (arith, sound.room, ap length re, length-set rows i other, ap length ee);
    } in
    record {
      sound = sound_here m cmp x (atoms_of m cmp rows) new moved;
      rows = re;
      same = λ e. (same, fe);
      differs = λ e. absurd (cc);
      fewer = λ j f. subst (λ (bs : List Bool). IsFresh bs j) fe f;
      apart = λ j r h f away. subst (λ (bs : List Bool). IsFresh bs j) (sym fe) f;
    }

pub slice_back : (now fresh : List Bool) (n : ℕ) → length now ≡ length fresh → n ≡ length fresh → take n (now ++ drop (length now) fresh) ≡ now
slice_back now fresh n same long = grind (arith, common_steps)

pub some_if : {A : Type 0} (o : Option A) (Q : A → Type 0) (x : A) → o ≡ Some x → Q x → IfSome o Q
some_if {A} o Q x e h = let P : Option A → Type 0 = λ p. IfSome p Q in subst P (sym e) h

-- values that don't compare as equal differ
pub not_same : {V : Type 0} (eq : V → V → Bool) → ((a : V) → eq a a ≡ true) → (a b : V) → eq a b ≡ false → b ≢ a
not_same {V} eq itself_eq a b h same = let yes_ : eq a b ≡ true = subst (λ (w : V). eq a w ≡ true) (sym same) (itself_eq a) in no (eq a b) h yes_
  where
    no : (c : Bool) → c ≡ false → c ≡ true → ⊥
    no c p r = cc
