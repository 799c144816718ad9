-- What calls of a `Txn` leave.
use Rattle.std.proofs.Common.{◌≡◌, ℕ, Bool, true, false, List, [], ◌∷◌, ◌++◌, map, refl, sym, ◌∙◌, ap, subst}
use Rattle.std.specs.Prelude.{reverse}
use Rattle.std.specs.declared.cmp.Ordering.{Ordering}
use Rattle.signal_rules.specs.Meaning.{Meaning}
use Rattle.signal_values.specs.Cells.{atoms_of}
use Rattle.signal_values.specs.Seen.{IsGot, IsSet}
use Rattle.signal_core.specs.Seen as core
use Rattle.signal_txn.specs.declared.write.Write.{Write}
use Rattle.signal_txn.specs.LastWrites.{LastWrites}
use Rattle.signal_txn.specs.Level.{Level, began_at, noted, map_from}
use Rattle.signal_txn.specs.Journal.{Journal, journal_of, joined, committed}
use Rattle.signal_txn.specs.Seen.{Seen, IsGotIn, IsSetIn, IsCommitted, IsAborted}
use Rattle.signal_txn.specs.Histories.{Keeps, KeepEach, first_merged}
use Rattle.signal_txn.specs.Passing.{PassesOn}
use Rattle.signal_txn.specs.Undo.{AreUndoable, ArePutBack}
use Rattle.signal_values.proofs.AtomLemmas.{IsExact}
use Rattle.signal_txn.proofs.HistoryLemmas.{keeps_committed, keeps_dropped}
use Rattle.signal_txn.proofs.PassingLemmas.{passes_committed}
use Rattle.signal_txn.proofs.WrittenLemmas.{epoch_after, set_writes, set_diffs}
use Rattle.signal_txn.proofs.UndoLemmas.{both_same, begun_set, begun_back, undoable_keeps, undoable_set, got_keeps}
use Rattle.signal_txn.proofs.JournalLemmas.{reverse-map, reverse_last, joined_begun, committed_begun, joined_undoable, committed_undoable}

-- a graph and its journal
abbrev pub seen_of : {R K V : Type 0} → core.Seen R K V → List (Level K V) → LastWrites K V → Seen R K V
seen_of graph levels ring = record { graph = graph; journal = journal_of levels ring }

pub got_in : {R K V : Type 0} (m : Meaning K V) (cmp : K → K → Ordering) (old new : core.Seen R K V) (levels : List (Level K V)) (ring : LastWrites K V)
    → IsGot m cmp old.values new.values → new.watches ≡ old.watches → IsGotIn m cmp (seen_of old levels ring) (seen_of new levels ring)
got_in {R} {K} {V} m cmp old new levels ring got watches = record {
  got = got;
  watches = watches;
  journal = refl;
  begun = ap (λ (a : K → V). map (λ (l : Level K V). began_at cmp l a) (reverse levels)) got.atoms;
}

pub got_undoable : {R K V : Type 0} (m : Meaning K V) (cmp : K → K → Ordering) (old new : core.Seen R K V) (levels : List (Level K V))
    → IsGot m cmp old.values new.values → AreUndoable m cmp old.values (reverse levels) → AreUndoable m cmp new.values (reverse levels)
got_undoable m cmp old new levels got u = undoable_keeps m cmp old.values new.values (got_keeps m cmp old.values new.values got) (reverse levels) u

-- all levels are noted
pub all_noted : {K V : Type 0} (cmp : K → K → Ordering) (key : K) (v : V) (levels new : List (Level K V)) → new ≡ map_from (noted cmp key v) 0 levels
    → reverse new ≡ map (noted cmp key v) (reverse levels)
all_noted cmp key v levels new e = ap reverse e ∙ reverse-map (noted cmp key v) levels

set_begun : {R K V : Type 0} (m : Meaning K V) (cmp : K → K → Ordering) → IsExact cmp → (old new : core.Seen R K V) (levels noted_ : List (Level K V)) (key : K) (v : V) (changes : Bool)
    → IsSet m cmp old.values new.values key v changes → noted_ ≡ map_from (noted cmp key (atoms_of m cmp old.values.rows key)) 0 levels
    → map (λ (l : Level K V). began_at cmp l (atoms_of m cmp new.values.rows)) (reverse noted_) ≡ map (λ (l : Level K V). began_at cmp l (atoms_of m cmp old.values.rows)) (reverse levels)
set_begun {R} {K} {V} m cmp x old new levels noted_ key v changes set e =
    ap (map (λ (l : Level K V). began_at cmp l (atoms_of m cmp new.values.rows))) (all_noted cmp key (atoms_of m cmp old.values.rows key) levels noted_ e)
    ∙ begun_set cmp x key (atoms_of m cmp old.values.rows) (atoms_of m cmp new.values.rows) set.others (reverse levels)

pub no_flags : (b : Bool) → b ≡ true → b ≡ false → ⊥
no_flags b p q = cc

-- an atom was set to an equal value
pub set_same_in : {R K V : Type 0} (m : Meaning K V) (cmp : K → K → Ordering) → IsExact cmp → (old new : core.Seen R K V) (levels noted_ : List (Level K V)) (ring : LastWrites K V) (key : K) (v : V) (changes : Bool)
    → IsSet m cmp old.values new.values key v changes → changes ≡ false → new.watches ≡ old.watches → noted_ ≡ map_from (noted cmp key (atoms_of m cmp old.values.rows key)) 0 levels
    → IsSetIn m cmp (seen_of old levels ring) (seen_of new noted_ ring) key v changes
set_same_in {R} {K} {V} m cmp x old new levels noted_ ring key v changes set no_ watches e = record {
  set = set;
  watches = watches;
  joins = joins;
  stays = stays;
  begun = set_begun m cmp x old new levels noted_ key v changes set e;
  writes = set_writes m cmp (seen_of old levels ring) (seen_of new noted_ ring) key v changes set joins stays;
  diffs = set_diffs m cmp (seen_of old levels ring) (seen_of new noted_ ring) key v changes set joins stays;
}
  where
    joins : changes ≡ true → journal_of noted_ ring ≡ joined (record { key = key; value = v; epoch = new.values.epoch }) (map (noted cmp key (atoms_of m cmp old.values.rows key)) (reverse levels)) ring
    joins yes_ = absurd (no_flags changes yes_ no_)

    stays : changes ≡ false → journal_of noted_ ring ≡ record { levels = map (noted cmp key (atoms_of m cmp old.values.rows key)) (reverse levels); ring = ring }
    stays h = ap (λ (ls : List (Level K V)). record { levels = ls; ring = ring }) (all_noted cmp key (atoms_of m cmp old.values.rows key) levels noted_ e)

-- an atom was set to another value
pub set_other_in : {R K V : Type 0} (m : Meaning K V) (cmp : K → K → Ordering) → IsExact cmp → (old new : core.Seen R K V) (levels noted_ all : List (Level K V)) (ring after : LastWrites K V) (key : K) (v value : V) (epoch : ℕ) (changes : Bool)
    → IsSet m cmp old.values new.values key v changes → changes ≡ true → new.watches ≡ old.watches → noted_ ≡ map_from (noted cmp key (atoms_of m cmp old.values.rows key)) 0 levels
    → value ≡ v → epoch ≡ new.values.epoch → journal_of all after ≡ joined (record { key = key; value = value; epoch = epoch }) (reverse noted_) ring
    → IsSetIn m cmp (seen_of old levels ring) (seen_of new all after) key v changes
set_other_in {R} {K} {V} m cmp x old new levels noted_ all ring after key v value epoch changes set yes_ watches e same now join = record {
  set = set;
  watches = watches;
  joins = joins;
  stays = stays;
  begun =
      ap (λ (j : Journal K V). map (λ (l : Level K V). began_at cmp l (atoms_of m cmp new.values.rows)) j.levels) join
      ∙ joined_begun cmp (atoms_of m cmp new.values.rows) (record { key = key; value = value; epoch = epoch }) (reverse noted_) ring
      ∙ set_begun m cmp x old new levels noted_ key v changes set e;
  writes = set_writes m cmp (seen_of old levels ring) (seen_of new all after) key v changes set joins stays;
  diffs = set_diffs m cmp (seen_of old levels ring) (seen_of new all after) key v changes set joins stays;
}
  where
    joins : changes ≡ true → journal_of all after ≡ joined (record { key = key; value = v; epoch = new.values.epoch }) (map (noted cmp key (atoms_of m cmp old.values.rows key)) (reverse levels)) ring
    joins h =
        join
        ∙ ap (λ (w : V). joined (record { key = key; value = w; epoch = epoch }) (reverse noted_) ring) same
        ∙ ap (λ (n : ℕ). joined (record { key = key; value = v; epoch = n }) (reverse noted_) ring) now
        ∙ ap (λ (ls : List (Level K V)). joined (record { key = key; value = v; epoch = new.values.epoch }) ls ring) (all_noted cmp key (atoms_of m cmp old.values.rows key) levels noted_ e)

    stays : changes ≡ false → journal_of all after ≡ record { levels = map (noted cmp key (atoms_of m cmp old.values.rows key)) (reverse levels); ring = ring }
    stays no_ = absurd (no_flags changes yes_ no_)

pub noted_undoable : {R K V : Type 0} (m : Meaning K V) (cmp : K → K → Ordering) → IsExact cmp → (old new : core.Seen R K V) (levels noted_ : List (Level K V)) (key : K) (v : V) (changes : Bool)
    → IsSet m cmp old.values new.values key v changes → m.rank key ≡ 0 → noted_ ≡ map_from (noted cmp key (atoms_of m cmp old.values.rows key)) 0 levels
    → AreUndoable m cmp old.values (reverse levels) → AreUndoable m cmp new.values (reverse noted_)
noted_undoable {R} {K} {V} m cmp x old new levels noted_ key v changes set low e u =
    subst (λ (ls : List (Level K V)). AreUndoable m cmp new.values ls) (sym (all_noted cmp key (atoms_of m cmp old.values.rows key) levels noted_ e))
    (undoable_set m cmp x old.values new.values key v (atoms_of m cmp old.values.rows key) changes set low (reverse levels) u)

pub join_undoable : {R K V : Type 0} (m : Meaning K V) (cmp : K → K → Ordering) (graph : core.Seen R K V) (levels all : List (Level K V)) (ring after : LastWrites K V) (write : Write K V)
    → journal_of all after ≡ joined write (reverse levels) ring → AreUndoable m cmp graph.values (reverse levels) → AreUndoable m cmp graph.values (reverse all)
join_undoable {R} {K} {V} m cmp graph levels all ring after write join u =
    subst (λ (j : Journal K V). AreUndoable m cmp graph.values j.levels) (sym join) (joined_undoable m cmp graph.values write (reverse levels) ring u)

pub commit_in : {R K V : Type 0} (m : Meaning K V) (cmp : K → K → Ordering) (graph : core.Seen R K V) (levels all : List (Level K V)) (ring after : LastWrites K V)
    → journal_of all after ≡ committed (reverse levels) ring → IsCommitted m cmp (seen_of graph levels ring) (seen_of graph all after)
commit_in {R} {K} {V} m cmp graph levels all ring after e = record {
  graph = refl;
  journal = e;
  begun =
      ap (λ (j : Journal K V). map (λ (l : Level K V). began_at cmp l (atoms_of m cmp graph.values.rows)) j.levels) e
      ∙ committed_begun cmp (atoms_of m cmp graph.values.rows) (reverse levels) ring;
  writes = λ below history keeps.
      subst (λ (j : Journal K V). Keeps (first_merged history) j graph.values.epoch) (sym e)
      (keeps_committed history (reverse levels) ring graph.values.epoch keeps);
  diffs = λ turn since.
      subst (λ (j : Journal K V). PassesOn first_merged (journal_of levels ring) j since) (sym e)
      (passes_committed (reverse levels) ring graph.values.epoch since turn);
}

pub commit_undoable : {R K V : Type 0} (m : Meaning K V) (cmp : K → K → Ordering) (graph : core.Seen R K V) (levels all : List (Level K V)) (ring after : LastWrites K V)
    → journal_of all after ≡ committed (reverse levels) ring → AreUndoable m cmp graph.values (reverse levels) → AreUndoable m cmp graph.values (reverse all)
commit_undoable {R} {K} {V} m cmp graph levels all ring after e u =
    subst (λ (j : Journal K V). AreUndoable m cmp graph.values j.levels) (sym e) (committed_undoable m cmp graph.values (reverse levels) ring u)

-- the newest of levels that grow at their end
pub newest_undoable : {R K V : Type 0} (m : Meaning K V) (cmp : K → K → Ordering) (graph : core.Seen R K V) (levels all : List (Level K V)) (level : Level K V)
    → all ≡ levels ++ level ∷ [] → AreUndoable m cmp graph.values (reverse all) → AreUndoable m cmp graph.values (level ∷ reverse levels)
newest_undoable {R} {K} {V} m cmp graph levels all level is u =
    subst (λ (ls : List (Level K V)). AreUndoable m cmp graph.values ls) (ap reverse is ∙ reverse_last levels level) u

pub abort_in : {R K V : Type 0} (m : Meaning K V) (cmp : K → K → Ordering) (old new : core.Seen R K V) (levels all : List (Level K V)) (ring : LastWrites K V) (level : Level K V) (before : List (K × V))
    → all ≡ levels ++ level ∷ [] → before ≡ level.before → ArePutBack m cmp old.values new.values before → new.watches ≡ old.watches → AreUndoable m cmp old.values (level ∷ reverse levels)
    → IsAborted m cmp (seen_of old all ring) (seen_of new levels ring)
abort_in {R} {K} {V} m cmp old new levels all ring level before is same back0 watches u =
    let back : ArePutBack m cmp old.values new.values level.before = subst (λ (es : List (K × V)). ArePutBack m cmp old.values new.values es) same back0 in
    let top : reverse all ≡ level ∷ reverse levels = ap reverse is ∙ reverse_last levels level in
    record {
      level = level;
      levels = top;
      ring = refl;
      writes = λ below history keeps.
          keeps_dropped history level (reverse levels) ring old.values.epoch new.values.epoch (epoch_after m cmp old.values new.values back.epoch back.changed)
          (subst (λ (ls : List (Level K V)). KeepEach history ls ring old.values.epoch) top keeps);
      restored =
          ap (map (λ (l : Level K V). began_at cmp l (atoms_of m cmp old.values.rows))) top
          ∙ both_same _ _ _ _ (sym back.atoms) (sym (begun_back cmp level (atoms_of m cmp old.values.rows) (atoms_of m cmp new.values.rows) back.atoms (reverse levels) u.0.known));
      rules = back.rules;
      watches = watches;
      epoch = back.epoch;
      changed = back.changed;
      rows = back.rows;
      apart = back.apart;
    }

pub abort_undoable : {R K V : Type 0} (m : Meaning K V) (cmp : K → K → Ordering) (old new : core.Seen R K V) (levels : List (Level K V)) (level : Level K V) (before : List (K × V))
    → ArePutBack m cmp old.values new.values before → AreUndoable m cmp old.values (level ∷ reverse levels) → AreUndoable m cmp new.values (reverse levels)
abort_undoable m cmp old new levels level before back u = undoable_keeps m cmp old.values new.values back.listed (reverse levels) u.1
