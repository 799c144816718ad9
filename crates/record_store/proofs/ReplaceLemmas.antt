-- What a write leaves of a store, done or refused.
use Rattle.std.proofs.Common.{◌≡◌, ◌⊎◌, ℕ, suc, ◌-◌, ◌<◌, ◌≤◌, le_of_eq, List, [], ◌∷◌, length, length-drop, map, Some, drop, cond, is_eq, refl, sym, ap, subst, ◌∙◌, arith}
use Rattle.rooms_val.specs.Data.{Pairs}
use Rattle.rooms_val.specs.Maps.{value_at, with_key}
use Rattle.rooms_val.proofs.MapsLemmas.{order_itself, at-with_key}
use Rattle.doc_store.specs.declared.store.TheConstants.{MOST_OPEN}
use Rattle.signal_rules.specs.Values.{Meets}
use Rattle.signal_values.specs.Kept.{IsFreshKey}
use Rattle.signal_values.specs.Seen.{top}
use Rattle.signal_txn.specs.Level.{Level, began_at, unwritten}
use Rattle.signal_txn.specs.Seen.{IsCommitted, IsAborted}
use Rattle.signal_txn.specs.Since.{IsUnknown, diffs_after}
use Rattle.tl_rules.specs.Exact.{key_cmp}
use Rattle.tl_rules.specs.Meaning.{tl_meaning}
use Rattle.tl_rules.specs.declared.key.TlKey.{TlKey}
use Rattle.tl_rules.specs.declared.key.TlKey.TheVariants as key
use Rattle.tl_rules.specs.declared.value.TlValue.{TlValue}
use Rattle.record_store.specs.Kept.{IsBoard, AreBoards, IsStore}
use Rattle.record_store.specs.Lists.{Board, atoms_of, begun_of, AreTurned, IsFreshIn, MeetsNone, ChangesOnly}
use Rattle.record_store.specs.Seen.{Keys, Seen, AreKeys, records, begun, epoch, records_under}
use Rattle.record_store.specs.Tells.{TellsOn, written_all}
use Rattle.record_store.proofs.CallLemmas.{AreLevelled}
use Rattle.record_store.proofs.FrameLemmas.{epoch_after}
use Rattle.record_store.proofs.RecordLemmas.{keys_added, records_added, board_added, boards_added}
use Rattle.record_store.proofs.TellLemmas.{atoms_same, open_turned, commit_turned, abort_turned}

-- as many transactions are open as began
length_begun : (b : Board) → length (begun_of b) ≡ length b.journal.levels
length_begun b = counted b.journal.levels
  where
    counted : (ls : List (Level TlKey TlValue)) → length (map (λ level. began_at key_cmp level (atoms_of b)) ls) ≡ length ls
    counted [] = refl
    counted (l ∷ ls) = ap suc (counted ls)

begun_added : (keys : Keys) (begun : List (TlKey → TlValue)) (id : List ℕ) → AreBoards keys begun → map (records_under (with_key keys id (key.Rec id))) begun ≡ map (records_under keys) begun
begun_added keys [] id boards = refl
begun_added keys (a ∷ older) id boards = λ i. records_added keys a id boards.0 i ∷ begun_added keys older id boards.1 i

pub there_now : (keys : Keys) (id : List ℕ) → value_at (with_key keys id (key.Rec id)) id ≡ Some (key.Rec id)
there_now keys id = at-with_key keys id id (key.Rec id) ∙ ap (λ o. cond (is_eq o) (Some (key.Rec id)) (value_at keys id)) (order_itself id)

module _ (old : Seen) (is : IsStore old) (id : List ℕ) (keys : Keys) (added : keys ≡ with_key old.keys id (key.Rec id)) where
  pub records_then : (a : TlKey → TlValue) → a ≡ atoms_of old.txn → records_under keys a ≡ records old
  records_then a same = (λ i. records_under (added i) (same i)) ∙ records_added old.keys (atoms_of old.txn) id is.now

  pub board_then : (a : TlKey → TlValue) → a ≡ atoms_of old.txn → IsBoard keys a
  board_then a same = subst (λ ks. IsBoard ks a) (sym added) (subst (IsBoard (with_key old.keys id (key.Rec id))) (sym same) (board_added old.keys (atoms_of old.txn) id is.now))

  pub begun_then : (b : Board) → begun_of b ≡ begun_of old.txn → map (records_under keys) (begun_of b) ≡ begun old
  begun_then b same = (λ i. map (records_under (added i)) (same i)) ∙ begun_added old.keys (begun_of old.txn) id is.before

  pub store_then : (txn : Board) → IsBoard keys (atoms_of txn) → begun_of txn ≡ begun_of old.txn → txn.graph.watches ≡ old.txn.graph.watches
      → (txn.graph.values.epoch < top → AreTurned txn) → IsStore (record { keys = keys; txn = txn })
  store_then txn board same watches order = record {
    keys = subst AreKeys (sym added) (keys_added old.keys is.keys id);
    now = board;
    before = subst (λ ks. AreBoards ks (begun_of txn)) (sym added) (subst (AreBoards (with_key old.keys id (key.Rec id))) (sym same) (boards_added old.keys (begun_of old.txn) id is.before));
    depth = let count : length txn.journal.levels ≡ length old.txn.journal.levels = sym (length_begun txn) ∙ ap length same ∙ length_begun old.txn in
        subst (λ n. n ≤ MOST_OPEN) (sym count) is.depth;
    order = order;
    levelled = subst AreLevelled (sym watches) is.levelled;
  }

-- between an opening and a commit
pub kept_apart : (P : TlKey → Type 0) (old opened written new : Board) → opened.graph ≡ old.graph → new.graph ≡ written.graph → ChangesOnly P opened written
    → (k : TlKey) → IsFreshIn old k → MeetsNone P old k → IsFreshIn new k
kept_apart P old opened written new open_ close change k fresh none =
    subst (λ gr. IsFreshKey gr.values.rows gr.values.fresh k) (sym close)
    (change.apart k (subst (λ gr. IsFreshKey gr.values.rows gr.values.fresh k) (sym open_) fresh)
    (λ atom p meets. none atom p (subst (λ a. Meets tl_meaning a atom k) (atoms_same opened old open_) meets)))

-- what an aborted transaction began with is there again
pub put_back : (new : Board) (all : List (TlKey → TlValue)) (a : TlKey → TlValue) (older : List (TlKey → TlValue)) → all ≡ atoms_of new ∷ begun_of new → all ≡ a ∷ older → (atoms_of new ≡ a) × (begun_of new ≡ older)
put_back new all a older back was = (cc, cc)

pub closed : (old new : List (TlKey → TlValue)) (a : TlKey → TlValue) (older : List (TlKey → TlValue)) → new ≡ drop 1 old → old ≡ a ∷ older → new ≡ older
closed old new a older is was = is ∙ ap (drop 1) was

-- a store of which the newest transaction was opened, committed or aborted
module _ (old : Seen) (is : IsStore old) (new : Board) where
  kept_order : old.txn.graph.values.epoch ≤ new.graph.values.epoch → (AreTurned old.txn → AreTurned new) → new.graph.values.epoch < top → AreTurned new
  kept_order more keeps below = keeps (is.order (omega arith))

  boards_drop : (begun : List (TlKey → TlValue)) → AreBoards old.keys begun → AreBoards old.keys (drop 1 begun)
  boards_drop [] boards = tt
  boards_drop (a ∷ older) boards = boards.1

  pub store_committed : IsCommitted tl_meaning key_cmp old.txn new → IsStore (record { keys = old.keys; txn = new })
  store_committed commits = record {
    keys = is.keys;
    now = subst (IsBoard old.keys) (sym (atoms_same new old.txn commits.graph)) is.now;
    before = subst (AreBoards old.keys) (sym commits.begun) (boards_drop (begun_of old.txn) is.before);
    depth = let count : length new.journal.levels ≡ length (begun_of old.txn) - 1 = sym (length_begun new) ∙ ap length commits.begun ∙ length-drop 1 (begun_of old.txn) in
        let was = length_begun old.txn in let few = is.depth in omega arith;
    order = kept_order (le_of_eq (ap (λ gr. gr.values.epoch) (sym commits.graph))) (commit_turned old.txn new commits);
    levelled = subst AreLevelled (ap (λ gr. gr.watches) (sym commits.graph)) is.levelled;
  }

  pub store_aborted : IsAborted tl_meaning key_cmp old.txn new → IsStore (record { keys = old.keys; txn = new })
  store_aborted aborts =
      let boards : AreBoards old.keys (atoms_of new ∷ begun_of new) = subst (AreBoards old.keys) aborts.restored is.before in
      record {
        keys = is.keys;
        now = boards.0;
        before = boards.1;
        depth = let count : length old.txn.journal.levels ≡ suc (length new.journal.levels) = ap length aborts.levels in let few = is.depth in omega arith;
        order = kept_order (epoch_after old.txn.graph.values new.graph.values aborts.epoch aborts.changed) (abort_turned old.txn new aborts);
        levelled = subst AreLevelled (sym aborts.watches) is.levelled;
      }

-- writes stand in their order after a write, committed or aborted
pub written_order : (P : TlKey → Type 0) (old opened written new : Board) → (old.graph.values.epoch < top → AreTurned old) → opened.graph ≡ old.graph
    → opened.journal ≡ record old.journal { levels = unwritten ∷ old.journal.levels } → ChangesOnly P opened written → written.graph.values.epoch ≤ new.graph.values.epoch
    → (AreTurned written → AreTurned new) → new.graph.values.epoch < top → AreTurned new
written_order P old opened written new order graph opens change more closes below =
    let grows = change.epoch in
    let same : opened.graph.values.epoch ≡ old.graph.values.epoch = ap (λ gr. gr.values.epoch) graph in
    let less : written.graph.values.epoch < top = omega arith in
    closes (change.order less (open_turned old opened graph opens (order (omega arith))))

-- what is told under more keys
pub tells_then : (old new : Seen) → records_under new.keys (atoms_of old.txn) ≡ records old
    → ((since : ℕ) → since ≤ epoch old → IsUnknown new.txn since ⊎ ((IsUnknown old.txn since → ⊥) × ((m : Pairs)
    → written_all m (diffs_after since old.txn.journal.ring.writes) ≡ records_under new.keys (atoms_of old.txn) → written_all m (diffs_after since new.txn.journal.ring.writes) ≡ records new))) → TellsOn old new
tells_then old new same tells = subst (λ (ps : Pairs). (since : ℕ) → since ≤ epoch old → IsUnknown new.txn since ⊎ ((IsUnknown old.txn since → ⊥) × ((m : Pairs)
    → written_all m (diffs_after since old.txn.journal.ring.writes) ≡ ps → written_all m (diffs_after since new.txn.journal.ring.writes) ≡ records new))) same tells
