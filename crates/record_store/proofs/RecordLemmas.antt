-- The records that atoms have under keys.
use Rattle.std.proofs.Common.{◌≡◌, ◌≢◌, ℕ, List, [], ◌∷◌, Bool, true, false, cond, is_eq, Option, None, Some, option_map, refl, sym, ap, subst, ◌∙◌}
use Rattle.std.specs.Option.{is_some}
use denote.Ref.{Bor}
use Rattle.rooms_val.specs.Data.{Pairs, map, members_of, IsSound, IsSoundRecord}
use Rattle.rooms_val.specs.Maps.{AreRising, value_at, with_key, set_at, seen, ties}
use Rattle.rooms_val.specs.View.{data_of, val_of}
use Rattle.rooms_val.specs.declared.val.Val.{Val}
use Rattle.rooms_val.proofs.DataLemmas.{sound-set_at}
use Rattle.rooms_val.proofs.MapsLemmas.{order_itself, ties_same, by_tie, same_pairs, at-seen, at-with_key, at-set_at, rising-with_key, rising-set_at, with_key-known}
use Rattle.field_ops.specs.View.{maybe_data}
use Rattle.doc_store.specs.Slots.{slot_record}
use Rattle.doc_store.proofs.SlotLaws.{get-present, rising-present}
use Rattle.tl_rules.specs.Answers.{record_in}
use Rattle.tl_rules.specs.Atoms.{ArePlainAtoms}
use Rattle.tl_rules.specs.Exact.{val_from_data}
use Rattle.tl_rules.specs.declared.key.TlKey.{TlKey}
use Rattle.tl_rules.specs.declared.key.TlKey.TheVariants as key
use Rattle.tl_rules.specs.declared.value.TlValue.{TlValue}
use Rattle.tl_rules.specs.declared.value.TlValue.TheVariants as value
use Rattle.tl_rules.specs.declared.listing.Listing.{Listing}
use Rattle.tl_rules.specs.declared.listing.Listing.TheVariants.{Children, BoundFrom, BoundTo}
use Rattle.tl_rules.specs.Listings.{listed, key_of}
use Rattle.tl_rules.proofs.BoxLemmas.{record_back}
use Rattle.record_store.specs.Kept.{IsBoard, AreBoards}
use Rattle.record_store.specs.Seen.{Keys, AreKeys, records_under}

-- two cases: the texts are the same, or they aren't
pub by_same : (P : Bool → Type 0) (q k : List ℕ) → (q ≡ k → P true) → (q ≢ k → P false) → P (ties q k)
by_same P q k same apart =
    (elim (ties q k) as (λ b. ties q k ≡ b → P b) [
      | true ↦ λ is. same (ties_same q k is)
      | false ↦ λ is. apart (λ e. let itself : ties q k ≡ true = ap (λ x. ties x k) e ∙ ap is_eq (order_itself k) in cc)
    ]) refl

-- a record is the value that it stands for
pub record_kept : (o : Option Val) → option_map val_of (maybe_data o) ≡ o
record_kept None = refl
record_kept (Some v) =
    let back : Some (data_of (val_of (data_of v))) ≡ Some (data_of v) = record_back (Some (data_of v)) in
    ap Some (val_from_data (val_of (data_of v)) v (cc))

pub at-records : (keys : Keys) (a : TlKey → TlValue) (q : List ℕ) → value_at (records_under keys a) q ≡ slot_record (option_map (λ k. record_in (a k)) (value_at keys q))
at-records keys a q = get-present (seen (λ k. record_in (a k)) keys) q ∙ ap slot_record (at-seen (λ k. record_in (a k)) keys q)

pub rising-records : (keys : Keys) (a : TlKey → TlValue) → AreRising (records_under keys a)
rising-records keys a = rising-present (seen (λ k. record_in (a k)) keys)

pub at_no_key : (keys : Keys) (a : TlKey → TlValue) (q : List ℕ) → value_at keys q ≡ None → value_at (records_under keys a) q ≡ None
at_no_key keys a q is = at-records keys a q ∙ ap (λ o. slot_record (option_map (λ k. record_in (a k)) o)) is

pub at_known : (keys : Keys) (a : TlKey → TlValue) (q : List ℕ) → value_at keys q ≡ Some (key.Rec q) → value_at (records_under keys a) q ≡ record_in (a (key.Rec q))
at_known keys a q known = at-records keys a q ∙ ap (λ o. slot_record (option_map (λ k. record_in (a k)) o)) known

held_same : (o : Option TlKey) (a b : TlKey → TlValue) → ((k : TlKey) → o ≡ Some k → a k ≡ b k) → slot_record (option_map (λ k. record_in (a k)) o) ≡ slot_record (option_map (λ k. record_in (b k)) o)
held_same None a b same = refl
held_same (Some k) a b same = ap record_in (same k refl)

module _ (keys : Keys) (are : AreKeys keys) where
  -- a key is that of the record
  at_key : (a b : TlKey → TlValue) (q : List ℕ) → a (key.Rec q) ≡ b (key.Rec q) → (k : TlKey) → value_at keys q ≡ Some k → a k ≡ b k
  at_key a b q same k is = subst (λ x. a x ≡ b x) (sym (are.of_records q k is)) same

  pub at_itself : (a : TlKey → TlValue) (q : List ℕ) (k : TlKey) → value_at keys q ≡ Some k → value_at (records_under keys a) q ≡ record_in (a k)
  at_itself a q k is = at-records keys a q ∙ ap (λ o. slot_record (option_map (λ x. record_in (a x)) o)) is

  -- atoms that agree on records have the same records
  pub same_records : (a b : TlKey → TlValue) → ((q : List ℕ) → a (key.Rec q) ≡ b (key.Rec q)) → records_under keys a ≡ records_under keys b
  same_records a b same = same_pairs _ _ (rising-records keys a) (rising-records keys b) (λ q.
      at-records keys a q ∙ held_same (value_at keys q) a b (at_key a b q (same q)) ∙ sym (at-records keys b q))

  -- where the atom of one record changes, that record does
  pub records_written : (a b : TlKey → TlValue) (id : List ℕ) (after : Option Val) → value_at keys id ≡ Some (key.Rec id)
      → b (key.Rec id) ≡ value.Rec after → ((q : List ℕ) → q ≢ id → b (key.Rec q) ≡ a (key.Rec q))
      → records_under keys b ≡ set_at (records_under keys a) id (maybe_data after)
  records_written a b id after there here others =
      same_pairs _ _ (rising-records keys b) (rising-set_at (records_under keys a) id (maybe_data after) (rising-records keys a)) (λ q.
      by_same (λ t. value_at (records_under keys b) q ≡ cond t (maybe_data after) (value_at (records_under keys a) q)) q id
      (λ same. ap (value_at (records_under keys b)) same ∙ at_itself b id (key.Rec id) there ∙ ap record_in here)
      (λ apart. at-records keys b q ∙ held_same (value_at keys q) b a (at_key b a q (others q apart)) ∙ sym (at-records keys a q))
      ∙ sym (at-set_at (records_under keys a) id q (maybe_data after)))

  -- an id has the key of its record, or none
  pub known_key : (id : List ℕ) (o : Option (Bor TlKey)) → option_map (λ k. k.now) o ≡ value_at keys id → is_some o ≡ true → value_at keys id ≡ Some (key.Rec id)
  known_key id None is some = cc
  known_key id (Some k) is some = sym is ∙ ap Some (are.of_records id k.now (sym is))

  pub keys_known : (id : List ℕ) → value_at keys id ≡ Some (key.Rec id) → keys ≡ with_key keys id (key.Rec id)
  keys_known id there = sym (with_key-known keys id (key.Rec id) are.rising (sym there))

  pub keys_added : (id : List ℕ) → AreKeys (with_key keys id (key.Rec id))
  keys_added id = record {
    rising = rising-with_key keys id (key.Rec id) are.rising;
    of_records = λ q k is. by_same (λ t. cond t (Some (key.Rec id)) (value_at keys q) ≡ Some k → k ≡ key.Rec q) q id
        (λ same e. let found : Some (key.Rec id) ≡ Some k = e in let back : k ≡ key.Rec id = cc in back ∙ ap key.Rec (sym same))
        (λ apart e. are.of_records q k e) (sym (at-with_key keys id q (key.Rec id)) ∙ is);
  }

-- a board has no record without a key, so that one key more changes nothing
pub records_added : (keys : Keys) (a : TlKey → TlValue) (id : List ℕ) → IsBoard keys a → records_under (with_key keys id (key.Rec id)) a ≡ records_under keys a
records_added keys a id board =
    same_pairs _ _ (rising-records (with_key keys id (key.Rec id)) a) (rising-records keys a) (λ q.
    at-records (with_key keys id (key.Rec id)) a q
    ∙ ap (λ o. slot_record (option_map (λ k. record_in (a k)) o)) (at-with_key keys id q (key.Rec id))
    ∙ by_tie (λ t. slot_record (option_map (λ k. record_in (a k)) (cond t (Some (key.Rec id)) (value_at keys q))) ≡ value_at (records_under keys a) q) q id
    (λ same. ap record_in (board.plain.record_at id) ∙ record_back (value_at (records_under keys a) id) ∙ ap (value_at (records_under keys a)) (sym same))
    (sym (at-records keys a q)))

pub board_added : (keys : Keys) (a : TlKey → TlValue) (id : List ℕ) → IsBoard keys a → IsBoard (with_key keys id (key.Rec id)) a
board_added keys a id board =
    let same = sym (records_added keys a id board) in
    record {
      plain = subst (ArePlainAtoms a) same board.plain;
      sound = subst (λ m. IsSound (map (members_of m))) same board.sound;
    }

pub boards_added : (keys : Keys) (begun : List (TlKey → TlValue)) (id : List ℕ) → AreBoards keys begun → AreBoards (with_key keys id (key.Rec id)) begun
boards_added keys [] id boards = tt
boards_added keys (a ∷ older) id boards = (board_added keys a id boards.0, boards_added keys older id boards.1)

-- a board whose record was written, and all lists with it
pub board_written : (keys : Keys) (a b : TlKey → TlValue) (id : List ℕ) (after : Option Val) → IsBoard keys a → IsSoundRecord (maybe_data after)
    → b (key.Rec id) ≡ value.Rec after → ((q : List ℕ) → q ≢ id → b (key.Rec q) ≡ a (key.Rec q))
    → let m = set_at (records_under keys a) id (maybe_data after) in
    records_under keys b ≡ m → ((l : Listing) (owner : List ℕ) → b (key_of l owner) ≡ value.Ids (listed l m owner)) → IsBoard keys b
board_written keys a b id after board sound here others is lists =
    let m = set_at (records_under keys a) id (maybe_data after) in
    record {
      plain = subst (ArePlainAtoms b) (sym is) (record {
        record_at = λ q. by_same (λ t. b (key.Rec q) ≡ value.Rec (option_map val_of (cond t (maybe_data after) (value_at (records_under keys a) q)))) q id
            (λ same. ap (λ x. b (key.Rec x)) same ∙ here ∙ ap value.Rec (sym (record_kept after)))
            (λ apart. others q apart ∙ board.plain.record_at q)
            ∙ ap (λ o. value.Rec (option_map val_of o)) (sym (at-set_at (records_under keys a) id q (maybe_data after)));
        children_of = lists Children;
        bound_from = lists BoundFrom;
        bound_to = lists BoundTo;
      });
      sound = subst (λ (ps : Pairs). IsSound (map (members_of ps))) (sym is) (sound-set_at (records_under keys a) id (maybe_data after) board.sound sound);
    }
