-- A board whose record was set, once all lists were brought in line with it.
use Rattle.std.proofs.Common.{◌≡◌, ◌≢◌, ◌⊎◌, ◌<◌, List, ℕ, Option, None, Some, inl, inr, refl, sym, subst, ◌∙◌, le_trans, arith}
use Rattle.rooms_val.specs.Data.{Data, Pairs, IsSoundRecord}
use Rattle.rooms_val.specs.Maps.{value_at, set_at}
use Rattle.rooms_val.specs.declared.val.Val.{Val}
use Rattle.field_ops.specs.View.{maybe_data}
use Rattle.tl_rules.specs.declared.key.TlKey.{TlKey}
use Rattle.tl_rules.specs.declared.key.TlKey.TheVariants as key
use Rattle.tl_rules.specs.declared.value.TlValue.{TlValue}
use Rattle.tl_rules.specs.declared.value.TlValue.TheVariants as value
use Rattle.tl_rules.specs.declared.listing.Listing.{Listing}
use Rattle.tl_rules.specs.declared.listing.Listing.TheVariants.{Children, BoundFrom, BoundTo}
use Rattle.tl_rules.specs.Listings.{key_of}
use Rattle.record_store.specs.Kept.{IsBoard}
use Rattle.record_store.specs.Lists.{Board, atoms_of, records_of, AreLists, IsListOf, IsRelisted, IsWritten, AreNoRecords, Leads, IsTold, AreTold, ChangesOnly}
use Rattle.signal_values.specs.Seen.{top}
use Rattle.record_store.specs.Seen.{Keys, AreKeys}
use Rattle.record_store.specs.Tells.{written_under}
use Rattle.record_store.proofs.FrameLemmas.{in_turn, wider}
use Rattle.record_store.proofs.ListLemmas.{no_record, records_unmoved}
use Rattle.record_store.proofs.RecordLemmas.{by_same, same_records, records_written, board_written}

list_no_record : (l : Listing) (owner : List ℕ) (n : Pairs) (v : TlValue) → written_under n (key_of l owner) v ≡ n
list_no_record Children owner n v = refl
list_no_record BoundFrom owner n v = refl
list_no_record BoundTo owner n v = refl

one_no_record : (l : Listing) (id : List ℕ) (o : Option Data) (k : TlKey) → IsListOf l id o k → (n : Pairs) (v : TlValue) → written_under n k v ≡ n
one_no_record l id None k h n v = absurd h
one_no_record l id (Some d) k h n v = subst (λ x. written_under n x v ≡ n) (sym h.2) (list_no_record l h.0 n v)

-- no list is a record
lists_no_records : (id : List ℕ) (before after : Option Data) → AreNoRecords (IsRelisted id before after)
lists_no_records id before after k h n v = at h.0 h.1.1
  where
    at : (l : Listing) → IsListOf l id before k ⊎ IsListOf l id after k → written_under n k v ≡ n
    at l (inl h) = one_no_record l id before k h n v
    at l (inr h) = one_no_record l id after k h n v

-- the lists moved, and then the record was set
pub record IsSetAfter (keys : Keys) (old mid new : Board) (id : List ℕ) (before : Option Data) (after : Option Val) : Type 0 where
  pub keys_are : AreKeys keys
  pub known : value_at keys id ≡ Some (key.Rec id)
  pub board : IsBoard keys (atoms_of old)
  pub moved : ChangesOnly (IsRelisted id before (maybe_data after)) old mid
  pub set : ChangesOnly (λ k. k ≡ key.Rec id) mid new
  pub here : atoms_of new (key.Rec id) ≡ value.Rec after

module _ (keys : Keys) (old mid new : Board) (id : List ℕ) (before : Option Data) (after : Option Val) (w : IsSetAfter keys old mid new id before after) where
  others : (q : List ℕ) → q ≢ id → atoms_of new (key.Rec q) ≡ atoms_of old (key.Rec q)
  others q apart =
      w.set.others (key.Rec q) (λ e. let same : q ≡ id = cc in apart same)
      ∙ w.moved.others (key.Rec q) (λ h. records_unmoved h.0 id q before (maybe_data after) h.1)

  pub records_set : records_of keys new ≡ set_at (records_of keys old) id (maybe_data after)
  records_set = records_written keys w.keys_are (atoms_of old) (atoms_of new) id after w.known w.here others

  pub board_set : IsSoundRecord (maybe_data after) → ((l : Listing) → AreLists l mid (set_at (records_of keys old) id (maybe_data after))) → IsBoard keys (atoms_of new)
  board_set sound lists =
      board_written keys (atoms_of old) (atoms_of new) id after w.board sound w.here others records_set
      (λ l owner. w.set.others (key_of l owner) (λ e. no_record l owner id (sym e)) ∙ lists l owner)

  -- where it is as it was, nothing changed
  unchanged_records : value.Rec after ≡ atoms_of mid (key.Rec id) → records_of keys new ≡ records_of keys old
  unchanged_records same = same_records keys w.keys_are (atoms_of new) (atoms_of old) (λ q.
      by_same (λ _. atoms_of new (key.Rec q) ≡ atoms_of old (key.Rec q)) q id
      (λ e. subst (λ x. atoms_of new (key.Rec x) ≡ atoms_of old (key.Rec x)) (sym e)
      (w.here ∙ same ∙ w.moved.others (key.Rec id) (λ h. records_unmoved h.0 id id before (maybe_data after) h.1))) (others q))

  pub told_set : IsTold (key.Rec id) (value.Rec after) mid new → AreTold keys old new
  told_set told since m before_ turned below leads =
      let less : mid.graph.values.epoch < top = let more = w.set.epoch in omega arith in
      let there = w.moved.told (lists_no_records id before (maybe_data after)) since m (records_of keys old) before_ turned less leads in
      by (told since m (records_of keys old) (le_trans before_ w.moved.epoch) (w.moved.order less turned) below there)
    where
      by : Leads since m (set_at (records_of keys old) id (maybe_data after)) new ⊎ (Leads since m (records_of keys old) new × (value.Rec after ≡ atoms_of mid (key.Rec id)))
          → Leads since m (records_of keys new) new
      by (inl l) = subst (λ n. Leads since m n new) (sym records_set) l
      by (inr l) = subst (λ n. Leads since m n new) (sym (unchanged_records l.1)) l.0

-- what was changed
pub all_changed : (old mid new : Board) (id : List ℕ) (before after : Option Data) → ChangesOnly (IsRelisted id before after) old mid → ChangesOnly (λ k. k ≡ key.Rec id) mid new
    → ChangesOnly (IsWritten id before after) old new
all_changed old mid new id before after moved set =
    in_turn _ old mid new (wider _ _ old mid (λ k h. inr h) moved) (wider _ _ mid new (λ k h. inl h) set)
