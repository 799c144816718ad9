-- Cells after a row is added, written, or comes to be fresh.
use Rattle.std.proofs.Common.{◌≡◌, ℕ, ◌<◌, ◌⊎◌, inl, inr, Bool, true, List, [], ◌∷◌, ◌++◌, length, set, Option, Some, Contains, refl, sym, ◌∙◌, ap, subst, arith, length-append}
use Rattle.std.specs.List.{slice_get}
use Rattle.std.proofs.lemmas.List.{length-set}
use Rattle.std.proofs.lemmas.Option.{slice_get_within}
use Rattle.links_core.specs.Lists.{list_at}
use Rattle.signal_rules.specs.Meaning.{Meaning}
use Rattle.signal_rules.specs.Values.HasValue.{atom}
use Rattle.signal_values.specs.Edges.{Feeds}
use Rattle.signal_values.specs.declared.cells.Row.{Row}
use Rattle.signal_values.specs.Cells.{IsFresh, HaveAtoms, Serves, IsCurrent, IsGraph}
use Rattle.signal_values.specs.Kept.{IsConnected, HasRun}
use Rattle.signal_values.proofs.MarkLemmas.{dec_fresh, dec_row}
use Rattle.signal_values.proofs.ListLemmas.{get_keep, get_last, get_cases, set_same, set_other, set_cases, get_within}
use Rattle.rooms_val.proofs.Truths.{one_some}

-- fresh rows are there, and fresh
abbrev pub KeepsFresh : {K V : Type 0} → List (Row K V) → List Bool → List (Row K V) → List Bool → Type 0
KeepsFresh {K} {V} rows fresh after now = (i : ℕ) (row : Row K V) → slice_get rows i ≡ Some row → IsFresh fresh i → (slice_get after i ≡ Some row) × IsFresh now i

-- what may be read still may be
pub serves_kept : {K V : Type 0} (m : Meaning K V) (atoms : K → V) (rows : List (Row K V)) (fresh : List Bool) (after : List (Row K V)) (now : List Bool) → KeepsFresh rows fresh after now
    → (p : ℕ) (key : K) → Serves m atoms rows fresh p key → Serves m atoms after now p key
serves_kept m atoms rows fresh after now keeps p key s =
    let q = keeps p s.row s.at s.ready in
    record { row = s.row; at = q.0; ready = q.1; lower = s.lower; passes = s.passes }

-- what is current stays so
pub current_kept : {K V : Type 0} (m : Meaning K V) (atoms : K → V) (rows : List (Row K V)) (fresh : List Bool) (after : List (Row K V)) (now : List Bool) → KeepsFresh rows fresh after now
    → (P Q : ℕ → Type 0) → ((p : ℕ) → P p → Q p) → ((p : ℕ) → Q p → P p) → (row : Row K V) → IsCurrent m atoms rows fresh P row → IsCurrent m atoms after now Q row
current_kept {K} {V} m atoms rows fresh after now keeps P Q to from row c = record {
  value = c.value;
  served = λ p q. serves_kept m atoms rows fresh after now keeps p row.key (c.served p (from p q));
  whole = λ above a meets.
      let w = c.whole above a meets in
      let s = c.served w.parent w.feeds in
      record { parent = w.parent; feeds = to w.parent w.feeds; row = w.row; at = (keeps w.parent w.row w.at s.ready).0; meets = w.meets };
}

-- new cells are sound where those that were fresh are kept, and what comes to be fresh is current
pub graph_from : {K V : Type 0} (m : Meaning K V) (atoms : K → V) (rows : List (Row K V)) (fresh : List Bool) (children : List (List ℕ)) (after : List (Row K V)) (now : List Bool) (lists : List (List ℕ))
    → IsGraph m atoms rows fresh children → HaveAtoms m atoms after → length now ≡ length after
    → ((i j : ℕ) (row other : Row K V) → slice_get after i ≡ Some row → slice_get after j ≡ Some other → row.key ≡ other.key → i ≡ j)
    → ((i : ℕ) (row : Row K V) → slice_get after i ≡ Some row → m.rank row.key ≡ 0 → IsFresh now i)
    → ((p c : ℕ) → Feeds lists p c → IsFresh now c)
    → KeepsFresh rows fresh after now
    → ((c : ℕ) → IsFresh fresh c → (p : ℕ) → Feeds children p c → Feeds lists p c)
    → ((c : ℕ) → IsFresh fresh c → (p : ℕ) → Feeds lists p c → Feeds children p c)
    → ((i : ℕ) (row : Row K V) → slice_get after i ≡ Some row → IsFresh now i → (IsFresh fresh i → ⊥) → IsCurrent m atoms after now (λ p. Feeds lists p i) row)
    → IsGraph m atoms after now lists
graph_from {K} {V} m atoms rows fresh children after now lists g have columns distinct ready alive keeps to from new = record {
  atoms_are = have;
  columns = columns;
  distinct = distinct;
  atoms_fresh = ready;
  alive = alive;
  current = λ i row h f.
      elim (dec_fresh fresh i) [
        | inl was ↦
            let there = get_within rows i (omega (arith, slice_get_within fresh i true was, g.columns)) in
            let same : there.0 ≡ row = one_some (slice_get after i) there.0 row (keeps i there.0 there.1 was).0 h in
            subst (λ (r : Row K V). IsCurrent m atoms after now (λ p. Feeds lists p i) r) same
            (current_kept m atoms rows fresh after now keeps (λ p. Feeds children p i) (λ p. Feeds lists p i) (to i was) (from i was) there.0 (g.current i there.0 there.1 was))
        | inr stale ↦ new i row h f stale
      ];
}

-- a row was added: of an atom with the value `blank`, or one that is stale
pub graph_added : {K V : Type 0} (m : Meaning K V) (atoms : K → V) (rows : List (Row K V)) (fresh : List Bool) (children : List (List ℕ)) (row : Row K V) (flag : Bool) (after : List (Row K V)) (now : List Bool) (lists : List (List ℕ))
    → IsGraph m atoms rows fresh children
    → ((i : ℕ) (other : Row K V) → slice_get rows i ≡ Some other → other.key ≡ row.key → ⊥)
    → (m.rank row.key ≡ 0 → (row.value ≡ m.blank row.key) × (flag ≡ true)) → (flag ≡ true → m.rank row.key ≡ 0)
    → after ≡ rows ++ row ∷ [] → now ≡ fresh ++ flag ∷ [] → ((n : ℕ) → list_at lists n ≡ list_at children n)
    → IsGraph m atoms after now lists
graph_added {K} {V} m atoms rows fresh children row flag after now lists g absent low high ae ne le =
    let cases : (i : ℕ) (r : Row K V) → slice_get after i ≡ Some r → (slice_get rows i ≡ Some r) ⊎ ((i ≡ length rows) × (r ≡ row)) = λ i r h. get_cases rows row r i (subst (λ (rs : List (Row K V)). slice_get rs i ≡ Some r) ae h) in
    let keep : (i : ℕ) (r : Row K V) → slice_get rows i ≡ Some r → slice_get after i ≡ Some r = λ i r h. subst (λ (rs : List (Row K V)). slice_get rs i ≡ Some r) (sym ae) (get_keep rows row r i h) in
    let keep_fresh : (i : ℕ) → IsFresh fresh i → IsFresh now i = λ i h. subst (λ (bs : List Bool). IsFresh bs i) (sym ne) (get_keep fresh flag true i h) in
    let to : (p c : ℕ) → Feeds children p c → Feeds lists p c = λ p c h. subst (λ (ws : List ℕ). Contains ws c) (sym (le p)) h in
    let from : (p c : ℕ) → Feeds lists p c → Feeds children p c = λ p c h. subst (λ (ws : List ℕ). Contains ws c) (le p) h in
    let blank_is : m.rank row.key ≡ 0 → row.value ≡ atoms row.key = λ e. (low e).0 ∙ sym (g.atoms_are.absent row.key e absent) in
    graph_from m atoms rows fresh children after now lists g
    (record {
      there = λ i r h e. elim (cases i r h) [ inl was ↦ g.atoms_are.there i r was e | inr new ↦ subst (λ (s : Row K V). m.rank s.key ≡ 0 → s.value ≡ atoms s.key) (sym new.1) blank_is e ];
      absent = λ key e none. g.atoms_are.absent key e (λ i r h is. none i r (keep i r h) is);
      above = g.atoms_are.above;
    })
    (omega (arith, ap length ne, ap length ae, length-append fresh (flag ∷ []), length-append rows (row ∷ []), g.columns))
    (λ i j r s h k e.
    elim (cases i r h) [
      | inl was ↦ elim (cases j s k) [
        | inl also ↦ g.distinct i j r s was also e
        | inr new ↦ absurd (absent i r was (e ∙ ap (λ (x : Row K V). x.key) new.1))
      ]
      | inr new ↦ elim (cases j s k) [
        | inl was ↦ absurd (absent j s was (sym e ∙ ap (λ (x : Row K V). x.key) new.1))
        | inr also ↦ new.0 ∙ sym also.0
      ]
    ])
    (λ i r h e.
    elim (cases i r h) [
      | inl was ↦ keep_fresh i (g.atoms_fresh i r was e)
      | inr new ↦
          let flagged : flag ≡ true = (low (ap (λ (x : Row K V). m.rank x.key) (sym new.1) ∙ e)).1 in
          let place : i ≡ length fresh = new.0 ∙ sym g.columns in
          subst (λ (bs : List Bool). IsFresh bs i) (sym ne) (subst (λ (n : ℕ). slice_get (fresh ++ flag ∷ []) n ≡ Some true) (sym place) (get_last fresh flag ∙ ap (λ (b : Bool). Some b) flagged))
    ])
    (λ p c h. keep_fresh c (g.alive p c (from p c h)))
    (λ i r h f. (keep i r h, keep_fresh i f))
    (λ c f p h. to p c h)
    (λ c f p h. from p c h)
    (λ i r h f stale.
    elim (cases i r h) [
      | inl was ↦
          elim (get_cases fresh flag true i (subst (λ (bs : List Bool). IsFresh bs i) ne f)) [
            | inl fresh_then ↦ absurd (stale fresh_then)
            | inr last ↦ absurd (omega (arith, slice_get_within rows i r was, last.0, g.columns))
          ]
      | inr new ↦
          let flagged : flag ≡ true = elim (get_cases fresh flag true i (subst (λ (bs : List Bool). IsFresh bs i) ne f)) [ inl fresh_then ↦ absurd (stale fresh_then) | inr last ↦ sym last.1 ] in
          let at : m.rank row.key ≡ 0 = high flagged in
          let is : IsCurrent m atoms after now (λ p. Feeds lists p i) row = record {
            value = atom row.key row.value at (blank_is at);
            served = λ p h. absurd (stale (g.alive p i (from p i h)));
            whole = λ above a meets. absurd (omega (arith, above, at));
          } in
          subst (λ (s : Row K V). IsCurrent m atoms after now (λ p. Feeds lists p i) s) (sym new.1) is
    ])

-- a stale row was written
pub graph_written : {K V : Type 0} (m : Meaning K V) (atoms : K → V) (rows : List (Row K V)) (fresh : List Bool) (children : List (List ℕ)) (i : ℕ) (row other : Row K V)
    → IsGraph m atoms rows fresh children → slice_get rows i ≡ Some row → other.key ≡ row.key → (IsFresh fresh i → ⊥) → IsGraph m atoms (set rows i other) fresh children
graph_written {K} {V} m atoms rows fresh children i row other g here same stale =
    let cases = λ (j : ℕ) (r : Row K V) (h : slice_get (set rows i other) j ≡ Some r). set_cases rows i j other r h in
    let was_at : (j : ℕ) (r : Row K V) → slice_get (set rows i other) j ≡ Some r → (s : Row K V) × (slice_get rows j ≡ Some s) × (s.key ≡ r.key) = λ j r h.
    elim (cases j r h) [
      | inl new ↦ (row, subst (λ (n : ℕ). slice_get rows n ≡ Some row) (sym new.0) here, sym same ∙ ap (λ (x : Row K V). x.key) (sym new.1))
      | inr was ↦ (r, was.1, refl)
    ] in
    let high : m.rank row.key ≡ 0 → ⊥ = λ e. stale (g.atoms_fresh i row here e) in
    graph_from m atoms rows fresh children (set rows i other) fresh children g
    (record {
      there = λ j r h e.
          elim (cases j r h) [
            | inl new ↦ absurd (high (ap m.rank (sym same ∙ ap (λ (x : Row K V). x.key) (sym new.1)) ∙ e))
            | inr was ↦ g.atoms_are.there j r was.1 e
          ];
      absent = λ key e none. g.atoms_are.absent key e (λ j r h is.
          elim (dec_row j i) [
            | inl at ↦ let one : r ≡ row = one_some (slice_get rows i) r row (subst (λ (n : ℕ). slice_get rows n ≡ Some r) at h) here in
                high (ap m.rank (ap (λ (x : Row K V). x.key) (sym one) ∙ is) ∙ e)
            | inr ne ↦ none j r (set_other rows i j other ne ∙ h) is
          ]);
      above = g.atoms_are.above;
    })
    (g.columns ∙ sym (length-set rows i other))
    (λ j k r s h l e.
    let a = was_at j r h in let b = was_at k s l in
    g.distinct j k a.0 b.0 a.1 b.1 (a.2 ∙ e ∙ sym b.2))
    (λ j r h e. let a = was_at j r h in g.atoms_fresh j a.0 a.1 (ap m.rank a.2 ∙ e))
    g.alive
    (λ j r h f. (set_other rows i j other (λ e. stale (subst (λ (n : ℕ). IsFresh fresh n) e f)) ∙ h, f))
    (λ c f p h. h)
    (λ c f p h. h)
    (λ j r h f none. absurd (none f))

-- a row comes to be fresh, over the parents of its run
pub graph_joined : {K V : Type 0} (m : Meaning K V) (atoms : K → V) (rows : List (Row K V)) (fresh : List Bool) (children lists : List (List ℕ)) (i : ℕ) (row : Row K V) (parents : List ℕ)
    → IsGraph m atoms rows fresh children → slice_get rows i ≡ Some row → (IsFresh fresh i → ⊥) → HasRun m atoms rows fresh row.key row.value parents → IsConnected children lists parents i
    → IsGraph m atoms rows (set fresh i true) lists
graph_joined {K} {V} m atoms rows fresh children lists i row parents g here stale run joined =
    let low : i < length fresh = omega (arith, slice_get_within rows i row here, g.columns) in
    let keep : (j : ℕ) → IsFresh fresh j → IsFresh (set fresh i true) j = λ j f. set_other fresh i j true (λ e. stale (subst (λ (n : ℕ). IsFresh fresh n) e f)) ∙ f in
    let ready : IsFresh (set fresh i true) i = set_same fresh i true low in
    let keeps : KeepsFresh rows fresh rows (set fresh i true) = λ j r h f. (h, keep j f) in
    let parent_of : (p : ℕ) → Feeds lists p i → Contains parents p = λ p h. elim (joined.only p i h) [ inl was ↦ absurd (stale (g.alive p i was)) | inr new ↦ new.1 ] in
    let is : IsCurrent m atoms rows (set fresh i true) (λ p. Feeds lists p i) row = record {
      value = run.value;
      served = λ p h. serves_kept m atoms rows fresh rows (set fresh i true) keeps p row.key (run.served p (parent_of p h));
      whole = λ above a meets.
          let w = run.whole a meets in
          record { parent = w.parent; feeds = joined.has w.parent w.feeds; row = w.row; at = w.at; meets = w.meets };
    } in
    graph_from m atoms rows fresh children rows (set fresh i true) lists g g.atoms_are (length-set fresh i true ∙ g.columns) g.distinct
    (λ j r h e. keep j (g.atoms_fresh j r h e))
    (λ p c h. elim (joined.only p c h) [ inl was ↦ keep c (g.alive p c was) | inr new ↦ subst (λ (n : ℕ). IsFresh (set fresh i true) n) (sym new.0) ready ])
    keeps
    (λ c f p h. joined.keeps p c h)
    (λ c f p h. elim (joined.only p c h) [ inl was ↦ was | inr new ↦ absurd (stale (subst (λ (n : ℕ). IsFresh fresh n) new.0 f)) ])
    (λ j r h f none.
    elim (dec_row j i) [
      | inl at ↦
          let one : row ≡ r = one_some (slice_get rows i) row r here (subst (λ (n : ℕ). slice_get rows n ≡ Some r) at h) in
          subst (λ (n : ℕ). IsCurrent m atoms rows (set fresh i true) (λ p. Feeds lists p n) r) (sym at) (subst (λ (s : Row K V). IsCurrent m atoms rows (set fresh i true) (λ p. Feeds lists p i) s) one is)
      | inr other ↦ absurd (none (sym (set_other fresh i j true other) ∙ f))
    ])
