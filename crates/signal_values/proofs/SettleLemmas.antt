-- What a run leaves, once its value is settled.
use Rattle.std.proofs.Common.{◌≡◌, ℕ, ◌<◌, inl, inr, Bool, true, false, List, [], ◌∷◌, ◌++◌, length, set, Option, Some, Contains, refl, sym, ◌∙◌, ap, subst, arith}
use Rattle.std.specs.List.{slice_get}
use Rattle.std.specs.BTreeMap.{get, Updates}
use Rattle.std.specs.declared.cmp.Ordering.{Ordering}
use Rattle.std.proofs.lemmas.List.{length-set}
use Rattle.std.proofs.lemmas.Option.{slice_get_within}
use Rattle.links_core.specs.Lists.{list_at}
use Rattle.signal_rules.specs.Meaning.{Meaning}
use Rattle.signal_values.specs.Edges.{Feeds}
use Rattle.signal_values.specs.declared.cells.Row.{Row}
use Rattle.signal_values.specs.declared.cells.Cells.{Cells}
use Rattle.signal_values.specs.Cells.{IsFresh, Serves, IsGraph, IsSound}
use Rattle.signal_values.specs.Kept.{Leaves, IsMade, IsKept, IsAdded, IsSame, IsConnected, HasRun, IsRenewed}
use Rattle.signal_values.proofs.ListLemmas.{get_keep, get_last, get_cases, set_same, set_other}
use Rattle.signal_values.proofs.MarkLemmas.{dec_row}
use Rattle.signal_values.proofs.AtomLemmas.{IsExact}
use Rattle.signal_values.proofs.GraphLemmas.{KeepsFresh, serves_kept, graph_from, graph_added, graph_written, graph_joined}
use Rattle.signal_values.proofs.KeptLemmas.{index_added, index_written, index_same, kept_none, keeps_fresh}
use Rattle.rooms_val.proofs.Truths.{one_some}

-- a run's parents still serve where fresh rows are kept
pub run_kept : {K V : Type 0} (m : Meaning K V) (atoms : K → V) (rows : List (Row K V)) (fresh : List Bool) (after : List (Row K V)) (now : List Bool) (key : K) (v : V) (parents : List ℕ)
    → KeepsFresh rows fresh after now → HasRun m atoms rows fresh key v parents → HasRun m atoms after now key v parents
run_kept m atoms rows fresh after now key v parents keeps run = record {
  above = run.above;
  value = run.value;
  served = λ p h. serves_kept m atoms rows fresh after now keeps p key (run.served p h);
  whole = λ a meets.
      let w = run.whole a meets in
      let s = run.served w.parent w.feeds in
      record { parent = w.parent; feeds = w.feeds; row = w.row; at = (keeps w.parent w.row w.at s.ready).0; meets = w.meets };
}

-- the same lists of children
pub graph_lists : {K V : Type 0} (m : Meaning K V) (atoms : K → V) (rows : List (Row K V)) (fresh : List Bool) (children lists : List (List ℕ)) → IsGraph m atoms rows fresh children → ((n : ℕ) → list_at lists n ≡ list_at children n) → IsGraph m atoms rows fresh lists
graph_lists m atoms rows fresh children lists g same =
    let to : (p c : ℕ) → Feeds children p c → Feeds lists p c = λ p c h. subst (λ (ws : List ℕ). Contains ws c) (sym (same p)) h in
    let from : (p c : ℕ) → Feeds lists p c → Feeds children p c = λ p c h. subst (λ (ws : List ℕ). Contains ws c) (same p) h in
    graph_from m atoms rows fresh children rows fresh lists g g.atoms_are g.columns g.distinct g.atoms_fresh (λ p c h. g.alive p c (from p c h)) (λ i r h f. (h, f)) (λ c f p h. to p c h) (λ c f p h. from p c h) (λ i r h f none. absurd (none f))

-- a parent is one of the rows
pub served_low : {K V : Type 0} (m : Meaning K V) (atoms : K → V) (rows : List (Row K V)) (fresh : List Bool) (p : ℕ) (key : K) → Serves m atoms rows fresh p key → p < length rows
served_low m atoms rows fresh p key s = slice_get_within rows p s.row s.at

renewed_key : {K V : Type 0} (eq : V → V → Bool) (epoch : ℕ) (v : V) (row other : Row K V) → IsRenewed eq epoch v row other → other.key ≡ row.key
renewed_key eq epoch v row other (inl same) = ap (λ r. r.key) same.1
renewed_key eq epoch v row other (inr new) = ap (λ r. r.key) new.1

renewed_value : {K V : Type 0} (eq : V → V → Bool) → ((a b : V) → eq a b ≡ true → a ≡ b) → (epoch : ℕ) (v : V) (row other : Row K V) → IsRenewed eq epoch v row other → other.value ≡ v
renewed_value eq exact epoch v row other (inl same) = ap (λ r. r.value) same.1 ∙ exact row.value v same.0
renewed_value eq exact epoch v row other (inr new) = ap (λ r. r.value) new.1

renewed_leaves : {K V : Type 0} (eq : V → V → Bool) → ((a : V) → eq a a ≡ true) → (epoch : ℕ) (v : V) (row other : Row K V) (fresh now : List Bool) (i : ℕ) → (IsFresh fresh i → ⊥) → IsFresh now i → IsRenewed eq epoch v row other → Leaves epoch fresh now i row other
renewed_leaves eq itself epoch v row other fresh now i stale ready (inl same) = inl (same.1, λ f. ready)
renewed_leaves {K} {V} eq itself epoch v row other fresh now i stale ready (inr new) = inr (record {
  stale = stale;
  ready = ready;
  key = ap (λ r. r.key) new.1;
  differs = λ e.
      let same : v ≡ row.value = sym (ap (λ (r : Row K V). r.value) new.1) ∙ e in
      let yes_ : eq row.value v ≡ true = subst (λ (w : V). eq row.value w ≡ true) (sym same) (itself row.value) in
      differ (eq row.value v) new.0 yes_;
  changed = ap (λ r. r.changed) new.1;
})
  where
    differ : (b : Bool) → b ≡ false → b ≡ true → ⊥
    differ b p q = cc

-- a stale row was settled
pub known_left : {K V : Type 0} (m : Meaning K V) (cmp : K → K → Ordering) (eq : V → V → Bool) → ((a b : V) → eq a b ≡ true → a ≡ b) → ((a : V) → eq a a ≡ true) → (epoch : ℕ) (atoms : K → V) (old new : Cells K V) (i : ℕ) (row other : Row K V) (v : V) (parents : List ℕ)
    → IsSound m cmp atoms old → slice_get old.rows.items i ≡ Some row → (IsFresh old.fresh.items i → ⊥) → HasRun m atoms old.rows.items old.fresh.items row.key v parents
    → IsRenewed eq epoch v row other → new.rows.items ≡ set old.rows.items i other → new.fresh.items ≡ set old.fresh.items i true → new.places ≡ old.places → IsConnected old.edges.children new.edges.children parents i
    → IsSound m cmp atoms new × IsKept m epoch old.rows.items old.fresh.items new.rows.items new.fresh.items
known_left {K} {V} m cmp eq exact itself epoch atoms old new i row other v parents sound here stale run renewed re fe pe joined =
    let key = renewed_key eq epoch v row other renewed in
    let value = renewed_value eq exact epoch v row other renewed in
    let rows = old.rows.items in
    let fresh = old.fresh.items in
    let low = slice_get_within rows i row here in
    let written = graph_written m atoms rows fresh old.edges.children i row other sound.graph here key stale in
    let at = set_same rows i other low in
    let keeps : KeepsFresh rows fresh (set rows i other) fresh = λ j r h f. (set_other rows i j other (λ e. stale (subst (λ (n : ℕ). IsFresh fresh n) e f)) ∙ h, f) in
    let ran : HasRun m atoms (set rows i other) fresh other.key other.value parents =
    subst (λ (k : K). HasRun m atoms (set rows i other) fresh k other.value parents) (sym key) (subst (λ (w : V). HasRun m atoms (set rows i other) fresh row.key w parents) (sym value) (run_kept m atoms rows fresh (set rows i other) fresh row.key v parents keeps run)) in
    let graph = graph_joined m atoms (set rows i other) fresh old.edges.children new.edges.children i other parents written at stale ran joined in
    let flags : i < length fresh = omega (arith, low, sound.graph.columns) in
    let ready : IsFresh (set fresh i true) i = set_same fresh i true flags in (
      record {
        graph = subst (λ (rs : List (Row K V)). IsGraph m atoms rs new.fresh.items new.edges.children) (sym re) (subst (λ (bs : List Bool). IsGraph m atoms (set rows i other) bs new.edges.children) (sym fe) graph);
        index = index_same cmp old.places new.places (set rows i other) new.rows.items (index_written cmp old.places rows i row other sound.index here key) (λ k. ap (λ p. get cmp p k) pe) re;
        room = omega (arith, sound.room, ap length re, length-set rows i other, joined.rows);
      },
      subst (λ (rs : List (Row K V)). IsKept m epoch rows fresh rs new.fresh.items) (sym re) (subst (λ (bs : List Bool). IsKept m epoch rows fresh (set rows i other) bs) (sym fe) (record {
        left = λ j r h.
            elim (dec_row j i) [
              | inl same ↦
                  let one : row ≡ r = one_some (slice_get rows i) row r here (subst (λ (n : ℕ). slice_get rows n ≡ Some r) same h) in (
                    other,
                    subst (λ (n : ℕ). slice_get (set rows i other) n ≡ Some other) (sym same) at,
                    subst (λ (n : ℕ). Leaves epoch fresh (set fresh i true) n r other) (sym same) (subst (λ (s : Row K V). Leaves epoch fresh (set fresh i true) i s other) one (renewed_leaves eq itself epoch v row other fresh (set fresh i true) i stale ready renewed)),
                  )
              | inr ne ↦ (r, set_other rows i j other ne ∙ h, inl (refl, λ f. set_other fresh i j true ne ∙ f))
            ];
        made = λ j r h far. absurd (omega (arith, slice_get_within (set rows i other) j r h, length-set rows i other));
      })),
    )

-- a row was added
pub added_left : {K V : Type 0} (m : Meaning K V) (cmp : K → K → Ordering) → IsExact cmp → (epoch : ℕ) (atoms : K → V) (old new : Cells K V) (row : Row K V) (flag : Bool) (i : ℕ)
    → IsSound m cmp atoms old → ((j : ℕ) (other : Row K V) → slice_get old.rows.items j ≡ Some other → other.key ≡ row.key → ⊥)
    → (m.rank row.key ≡ 0 → (row.value ≡ m.blank row.key) × (flag ≡ true)) → (flag ≡ true → m.rank row.key ≡ 0) → IsMade m epoch row → IsAdded cmp old new row flag i
    → IsSound m cmp atoms new × IsKept m epoch old.rows.items old.fresh.items new.rows.items new.fresh.items
added_left {K} {V} m cmp x epoch atoms old new row flag i sound absent low high made added = (
  record {
    graph = graph_added m atoms old.rows.items old.fresh.items old.edges.children row flag new.rows.items new.fresh.items new.edges.children sound.graph absent low high added.rows added.flags added.edges;
    index = index_added cmp x old.places new.places old.rows.items row new.rows.items sound.index absent (subst (λ (n : ℕ). Updates cmp old.places new.places row.key (Some n)) added.place added.places) added.rows;
    room = added.room;
  },
  record {
    left = λ j r h. (r, subst (λ (rs : List (Row K V)). slice_get rs j ≡ Some r) (sym added.rows) (get_keep old.rows.items row r j h), inl (refl, λ f. subst (λ (bs : List Bool). IsFresh bs j) (sym added.flags) (get_keep old.fresh.items flag true j f)));
    made = λ j r h far.
        elim (get_cases old.rows.items row r j (subst (λ (rs : List (Row K V)). slice_get rs j ≡ Some r) added.rows h)) [
          | inl was ↦ absurd (omega (arith, slice_get_within old.rows.items j r was))
          | inr last ↦ subst (λ (s : Row K V). IsMade m epoch s) (sym last.1) made
        ];
  },
)

-- the row that was added
pub added_at : {K V : Type 0} (cmp : K → K → Ordering) (old new : Cells K V) (row : Row K V) (flag : Bool) (i : ℕ) → IsAdded cmp old new row flag i → slice_get new.rows.items i ≡ Some row
added_at {K} {V} cmp old new row flag i added =
    subst (λ (rs : List (Row K V)). slice_get rs i ≡ Some row) (sym added.rows) (subst (λ (n : ℕ). slice_get (old.rows.items ++ row ∷ []) n ≡ Some row) (sym added.place) (get_last old.rows.items row))

pub added_flag : {K V : Type 0} (cmp : K → K → Ordering) (old new : Cells K V) (row : Row K V) (flag : Bool) (i : ℕ) → length old.fresh.items ≡ length old.rows.items → IsAdded cmp old new row flag i → slice_get new.fresh.items i ≡ Some flag
added_flag {K} {V} cmp old new row flag i columns added =
    subst (λ (bs : List Bool). slice_get bs i ≡ Some flag) (sym added.flags) (subst (λ (n : ℕ). slice_get (old.fresh.items ++ flag ∷ []) n ≡ Some flag) (columns ∙ sym added.place) (get_last old.fresh.items flag))

-- a stale row that was added was settled
pub new_left : {K V : Type 0} (m : Meaning K V) (cmp : K → K → Ordering) → IsExact cmp → (epoch : ℕ) (atoms : K → V) (old middle new : Cells K V) (row : Row K V) (i : ℕ) (parents : List ℕ)
    → IsSound m cmp atoms old → ((j : ℕ) (other : Row K V) → slice_get old.rows.items j ≡ Some other → other.key ≡ row.key → ⊥)
    → HasRun m atoms old.rows.items old.fresh.items row.key row.value parents → row.changed ≡ Some epoch → IsAdded cmp old middle row false i
    → new.rows.items ≡ middle.rows.items → new.fresh.items ≡ set middle.fresh.items i true → new.places ≡ middle.places → IsConnected middle.edges.children new.edges.children parents i
    → IsSound m cmp atoms new × IsKept m epoch old.rows.items old.fresh.items new.rows.items new.fresh.items
new_left {K} {V} m cmp x epoch atoms old middle new row i parents sound absent run changed added re fe pe joined =
    let made : IsMade m epoch row = record { read = λ e. absurd (omega (arith, run.above, e)); ran = λ e. changed } in
    let both = added_left m cmp x epoch atoms old middle row false i sound absent (λ e. absurd (omega (arith, run.above, e))) (λ e. absurd (cc)) made added in
    let at = added_at cmp old middle row false i added in
    let flag = added_flag cmp old middle row false i sound.graph.columns added in
    let stale : IsFresh middle.fresh.items i → ⊥ = no (slice_get middle.fresh.items i) flag in
    let keeps = keeps_fresh m epoch old.rows.items old.fresh.items middle.rows.items middle.fresh.items both.1 in
    let ran = run_kept m atoms old.rows.items old.fresh.items middle.rows.items middle.fresh.items row.key row.value parents keeps run in
    let graph = graph_joined m atoms middle.rows.items middle.fresh.items middle.edges.children new.edges.children i row parents both.0.graph at stale ran joined in (
      record {
        graph = subst (λ (rs : List (Row K V)). IsGraph m atoms rs new.fresh.items new.edges.children) (sym re) (subst (λ (bs : List Bool). IsGraph m atoms middle.rows.items bs new.edges.children) (sym fe) graph);
        index = index_same cmp middle.places new.places middle.rows.items new.rows.items both.0.index (λ k. ap (λ p. get cmp p k) pe) re;
        room = omega (arith, both.0.room, ap length re, joined.rows);
      },
      subst (λ (rs : List (Row K V)). IsKept m epoch old.rows.items old.fresh.items rs new.fresh.items) (sym re) (subst (λ (bs : List Bool). IsKept m epoch old.rows.items old.fresh.items middle.rows.items bs) (sym fe) (record {
        left = λ j r h.
            let q = both.1.left j r h in
            (q.0, q.1, more j r q.0 q.2 (λ f. elim (dec_row j i) [ inl e ↦ absurd (stale (subst (λ (n : ℕ). IsFresh middle.fresh.items n) e f)) | inr ne ↦ set_other middle.fresh.items i j true ne ∙ f ]));
        made = both.1.made;
      })),
    )
  where
    no : (o : Option Bool) → o ≡ Some false → o ≡ Some true → ⊥
    no o p q = cc

    more : (j : ℕ) (r s : Row K V) → Leaves epoch old.fresh.items middle.fresh.items j r s → (IsFresh middle.fresh.items j → IsFresh (set middle.fresh.items i true) j) → Leaves epoch old.fresh.items (set middle.fresh.items i true) j r s
    more j r s (inl q) to = inl (q.0, λ f. to (q.1 f))
    more j r s (inr d) to = inr (record { stale = d.stale; ready = to d.ready; key = d.key; differs = d.differs; changed = d.changed })

-- no row was added
pub same_left : {K V : Type 0} (m : Meaning K V) (cmp : K → K → Ordering) (epoch : ℕ) (atoms : K → V) (old new : Cells K V) → IsSound m cmp atoms old → IsSame cmp old new → IsSound m cmp atoms new × IsKept m epoch old.rows.items old.fresh.items new.rows.items new.fresh.items
same_left {K} {V} m cmp epoch atoms old new sound same = (
  record {
    graph = subst (λ (rs : List (Row K V)). IsGraph m atoms rs new.fresh.items new.edges.children) (sym same.rows) (subst (λ (bs : List Bool). IsGraph m atoms old.rows.items bs new.edges.children) (sym same.flags) (graph_lists m atoms old.rows.items old.fresh.items old.edges.children new.edges.children sound.graph same.edges));
    index = index_same cmp old.places new.places old.rows.items new.rows.items sound.index same.places same.rows;
    room = omega (arith, sound.room, ap length same.rows, same.room);
  },
  subst (λ (rs : List (Row K V)). IsKept m epoch old.rows.items old.fresh.items rs new.fresh.items) (sym same.rows) (subst (λ (bs : List Bool). IsKept m epoch old.rows.items old.fresh.items old.rows.items bs) (sym same.flags) (kept_none m epoch old.rows.items old.fresh.items)),
)
