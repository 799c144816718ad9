-- Saved rooms that stand for the same load alike, and the same room begins from them.
use Rattle.std.proofs.Common.{◌≡◌, ℕ, zero, suc, nat_abs, nat_lt, int_lt, ℤ, pos, not, ◌&&◌, ◌||◌, cond, List, [], ◌∷◌, length, map, sum, fold, filter_map, Option, Some, None, refl, sym, ap, ◌∙◌}
use Rattle.std.specs.Prelude.{int_le}
use Rattle.std.specs.List.{list_all}
use Rattle.std.specs.Option.{option_map_or, option_or}
use Rattle.rooms_val.specs.Data.{Data}
use Rattle.rooms_val.specs.View.{data_of, val_of}
use Rattle.rooms_val.specs.Weight.{weight}
use Rattle.rooms_val.proofs.DataLemmas.{val_of-data_of}
use Rattle.room_model.specs.Saves.{own_id, with_record, with_tomb, diff_at, begun_to, begun_room, unfit_record, unfit_tomb, load_fault}
use Rattle.room_model.specs.Schemas.{Schemas}
use Rattle.room_model.specs.declared.limits.TheConstants.{MOST_RECORDS, MOST_WEIGHT, MOST_DEAD}
use Rattle.room_model.specs.declared.load_fault.LoadFault.TheVariants.{Clocks, BadRecord, TooLarge}
use Rattle.room_model.specs.declared.load_fault.LoadFault.{LoadFault}
use Rattle.room_model.specs.declared.saved.SavedRecord.{SavedRecord}
use Rattle.room_model.specs.declared.saved.SavedRoom.{SavedRoom}
use Rattle.room_model.specs.declared.saved.SavedTomb.{SavedTomb}
use Rattle.room_snapshot.specs.Saved.{SavedTree, saved_tree, documents_view, tombs_view}

abbrev record_again : Data × ℤ → SavedRecord
record_again d = record { «record» = val_of d.0; clock = d.1 }

abbrev tomb_again : List ℕ × ℤ → SavedTomb
tomb_again t = record { id = t.0; clock = t.1 }

records_again : (rs : List SavedRecord) → map record_again (documents_view rs) ≡ rs
records_again [] = refl
records_again (r ∷ rs) = λ i. record { «record» = val_of-data_of r.record i; clock = r.clock } ∷ records_again rs i

tombs_again : (ts : List SavedTomb) → map tomb_again (tombs_view ts) ≡ ts
tombs_again [] = refl
tombs_again (t ∷ ts) = ap (λ l. t ∷ l) (tombs_again ts)

-- the fault of a saved room, by what is read of it
abbrev fault_of : Schemas → ℤ → ℤ → ℤ → List SavedRecord → List SavedTomb → Option LoadFault
fault_of schemas last clock start documents tombs =
    cond (not (int_le (pos 0) start && int_le start clock && int_lt clock last
    && list_all (λ (r : SavedRecord). int_le (pos 1) r.clock && int_le r.clock clock) documents
    && list_all (λ (t : SavedTomb). int_lt start t.clock && int_le t.clock clock) tombs)) (Some Clocks)
    (option_map_or (λ id. Some (BadRecord id)) (option_or (unfit_record schemas [] documents) (unfit_tomb schemas (filter_map own_id documents) tombs))
    (cond (nat_lt MOST_RECORDS (length documents) || nat_lt MOST_WEIGHT (sum (map (λ (r : SavedRecord). weight (data_of r.record)) documents)) || nat_lt MOST_DEAD (length tombs)) (Some TooLarge) None))

module _ (a b : SavedRoom) (same : saved_tree a ≡ saved_tree b) where
  clock : a.clock ≡ b.clock
  clock = ap (λ (s : SavedTree). s.clock) same

  start : a.start ≡ b.start
  start = ap (λ (s : SavedTree). s.start) same

  documents : a.documents.items ≡ b.documents.items
  documents = sym (records_again a.documents.items) ∙ ap (λ (s : SavedTree). map record_again s.documents) same ∙ records_again b.documents.items

  tombs : a.tombstones.items ≡ b.tombstones.items
  tombs = sym (tombs_again a.tombstones.items) ∙ ap (λ (s : SavedTree). map tomb_again s.tombstones) same ∙ tombs_again b.tombstones.items

  -- a room begins from both, or neither for the same cause
  pub same_fault : (schemas : Schemas) (last : ℤ) → load_fault schemas last a ≡ load_fault schemas last b
  same_fault schemas last = λ i. fault_of schemas last (clock i) (start i) (documents i) (tombs i)

  same_diff : (n : ℕ) → diff_at a n ≡ diff_at b n
  same_diff n = λ i. fold (with_tomb n) (fold (with_record n) [] (documents i)) (tombs i)

  same_to : (n : ℕ) → begun_to a n ≡ begun_to b n
  same_to zero = refl
  same_to (suc n) = λ i. record { diff = same_diff (suc n) i; author = None } ∷ same_to n i

  pub same_room : (last : ℕ) → begun_room last a ≡ begun_room last b
  same_room last = λ i. record { first = nat_abs (start i); last = last; history = (same_to (nat_abs a.clock) ∙ ap (λ z. begun_to b (nat_abs z)) clock) i; sessions = [] }
