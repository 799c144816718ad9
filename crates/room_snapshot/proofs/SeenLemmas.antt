-- The ids that were seen: one more, and a fault at one.
use Rattle.std.proofs.Common.{◌≡◌, ℕ, ◌+◌, ◌<◌, Bool, true, false, ◌||◌, cond, List, [], ◌∷◌, ◌++◌, Some, None, length, get_or, take, codes, IsTrue, MatchOption, refl, sym, ap, subst, ◌∙◌}
use Rattle.std.specs.Prelude.{not}
use Rattle.std.specs.BTreeSet.{BTreeSet}
use Rattle.std.specs.Option.{option_map_or}
use denote.Ref.{Bor}
use Rattle.rooms_val.proofs.Truths.{unnot_true, unnot_false}
use Rattle.rooms_val.specs.Data.{Data}
use Rattle.rooms_val.specs.Maps.{ties}
use Rattle.rooms_val.specs.View.{data_of}
use Rattle.rooms_val.proofs.MapsLemmas.{ties_flip}
use Rattle.room_snapshot.specs.Ids.{id_in, has_id, HaveIds, IsFirstFault}
use Rattle.room_snapshot.specs.Saved.{documents_view, records_of}
use Rattle.room_snapshot.specs.Sorted.{has_text, HasMore}
use Rattle.room_model.specs.declared.saved.SavedRecord.{SavedRecord}
use Rattle.room_snapshot.proofs.IdLemmas.{has_id-push, ids_more, records_of-push, records_of-split}

-- a set has the ids of these records
abbrev pub Knows : BTreeSet (Bor (List ℕ)) → List Data → Type 0
Knows set seen = (q : Bor (List ℕ)) → has_text set q ≡ has_id seen q.now

either_way : (a b : Bool) → cond a true b ≡ (b || (a || false))
either_way true true = refl
either_way true false = refl
either_way false true = refl
either_way false false = refl

knows_more : (old new : BTreeSet (Bor (List ℕ))) (k : Bor (List ℕ)) (seen : List Data) (d : Data) → Knows old seen
    → HasMore old new k → id_in d ≡ Some k.now → Knows new (seen ++ d ∷ [])
knows_more old new k seen d known next is q =
    next q
    ∙ ap (λ b. cond (ties k.now q.now) true b) (known q)
    ∙ either_way (ties k.now q.now) (has_id seen q.now)
    ∙ ap (λ b. has_id seen q.now || (b || false)) (ties_flip k.now q.now)
    ∙ sym (has_id-push seen d q.now ∙ ap (λ o. has_id seen q.now || (option_map_or (λ own. ties q.now own) o false || false)) is)

-- the records before a place
abbrev pub seen_to : List SavedRecord → ℕ → List Data
seen_to ds i = records_of (documents_view (take i ds))

-- at a record with an id
module _ (ds : List SavedRecord) (i : ℕ) (d : SavedRecord) (within : i < length ds) (here : d ≡ get_or ds i d) (old : BTreeSet (Bor (List ℕ))) (fine : HaveIds (seen_to ds i)) (known : Knows old (seen_to ds i)) where
  -- which is new
  pub fine_more : (k : Bor (List ℕ)) (is_new : Bool) → id_in (data_of d.record) ≡ Some k.now → is_new ≡ not (has_text old k) → is_new ≡ true → HaveIds (seen_to ds (i + 1))
  fine_more k is_new is told yes_new =
      subst HaveIds (sym (records_of-push ds d i within here))
      (ids_more (seen_to ds i) (data_of d.record) k.now fine is (sym (known k) ∙ unnot_true (has_text old k) (sym told ∙ yes_new)))

  pub known_more : (new : BTreeSet (Bor (List ℕ))) (k : Bor (List ℕ)) → id_in (data_of d.record) ≡ Some k.now
      → HasMore old new k → Knows new (seen_to ds (i + 1))
  known_more new k is next = subst (Knows new) (sym (records_of-push ds d i within here)) (knows_more old new k (seen_to ds i) (data_of d.record) known next is)

  -- which stood before
  pub fault_stood : (k : Bor (List ℕ)) (is_new : Bool) (told : List ℕ) → id_in (data_of d.record) ≡ Some k.now → is_new ≡ not (has_text old k) → is_new ≡ false → told ≡ k.now
      → IsFirstFault (records_of (documents_view ds)) told
  fault_stood k is_new told is said no_new told_is =
      let split = records_of-split ds i d within here in
      let stood : has_id (seen_to ds i) k.now ≡ true = sym (known k) ∙ unnot_false (has_text old k) (sym said ∙ no_new) in
      record {
        before = seen_to ds i;
        bad = data_of d.record;
        after = split.0;
        split = split.1;
        fine = fine;
        fault = subst (λ o. MatchOption o (told ≡ codes "-") (λ id. (told ≡ id) × IsTrue (has_id (seen_to ds i) id))) (sym is) (told_is, stood);
      }

-- at a record without an id
pub fault_none : (ds : List SavedRecord) (i : ℕ) (d : SavedRecord) (told : List ℕ) → i < length ds → d ≡ get_or ds i d → HaveIds (seen_to ds i) → id_in (data_of d.record) ≡ None
    → told ≡ codes "-" → IsFirstFault (records_of (documents_view ds)) told
fault_none ds i d told within here fine is told_is =
    let split = records_of-split ds i d within here in
    record {
      before = seen_to ds i;
      bad = data_of d.record;
      after = split.0;
      split = split.1;
      fine = fine;
      fault = subst (λ o. MatchOption o (told ≡ codes "-") (λ id. (told ≡ id) × IsTrue (has_id (seen_to ds i) id))) (sym is) told_is;
    }
