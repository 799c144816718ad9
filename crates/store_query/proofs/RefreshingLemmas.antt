-- An index after writes of records, and after a walk over all records.
use Rattle.std.proofs.Common.{◌≡◌, ℕ, zero, suc, ◌+◌, ◌<◌, List, [], ◌∷◌, ◌++◌, take, drop, drop-cons, length, get_or, Option, Some, refl, sym, ap, subst, ◌∙◌, arith}
use Rattle.std.proofs.lemmas.List.{take_more, take-append-drop, append-nil}
use Rattle.rooms_val.specs.Data.{Data, Pairs}
use Rattle.rooms_val.specs.Maps.{AreRising, value_at, set_at, with_key}
use Rattle.rooms_val.proofs.MapsLemmas.{rising-set_at, rising_without, put_last}
use Rattle.tl_rules.specs.Answers.{record_in}
use Rattle.tl_rules.specs.declared.key.TlKey.{TlKey}
use Rattle.tl_rules.specs.declared.key.TlKey.TheVariants as key
use Rattle.tl_rules.specs.declared.value.TlValue.{TlValue}
use Rattle.field_index.specs.Index.{with_record, indexed}
use Rattle.field_index.specs.declared.index.FieldIndex.{FieldIndex}
use Rattle.field_index.proofs.IndexLemmas.{indexed-set_at}
use Rattle.store_query.specs.Asking.{IsIndexOf}
use Rattle.record_store.specs.Tells.{written_under, written, written_all}
use Rattle.store_query.specs.Refreshing.{KeepsField}
use Rattle.store_query.proofs.AskingLemmas.{pairs_found}

-- a record set in an index
module _ (m : Pairs) (old new : FieldIndex) (id : List ℕ) (r : Option Data) (is : new ≡ record old { values = with_record old.type_name old.field old.values id r }) where
  pub set_follows : AreRising m → IsIndexOf m old → IsIndexOf (set_at m id r) new
  set_follows rising holds =
      subst (IsIndexOf (set_at m id r)) (sym is) (ap (λ values. with_record old.type_name old.field values id r) holds ∙ sym (indexed-set_at old.type_name old.field m id r rising))

pub keeps_through : (first old new : FieldIndex) → KeepsField first old → KeepsField old new → KeepsField first new
keeps_through first old new a b = record { type_name = b.type_name ∙ a.type_name; field = b.field ∙ a.field }

rising-written_under : (m : Pairs) (k : TlKey) (v : TlValue) → AreRising m → AreRising (written_under m k v)
rising-written_under m (key.Rec id) v rising = rising-set_at m id (record_in v) rising
rising-written_under m (key.ByParent id) v rising = rising
rising-written_under m (key.BoundFrom id) v rising = rising
rising-written_under m (key.BoundTo id) v rising = rising
rising-written_under m (key.Bound id) v rising = rising
rising-written_under m (key.Tree page) v rising = rising
rising-written_under m (key.Count page) v rising = rising
rising-written_under m (key.Box id levels) v rising = rising

pub rising-written_all : (ws : List (TlKey × TlValue)) (m : Pairs) → AreRising m → AreRising (written_all m ws)
rising-written_all [] m rising = rising
rising-written_all (w ∷ ws) m rising = rising-written_all ws (written m w) (rising-written_under m w.0 w.1 rising)

rising_front : (a b : Pairs) → AreRising (a ++ b) → AreRising a
rising_front a [] rising = subst AreRising (append-nil a) rising
rising_front a (e ∷ b) rising = rising_front a b (rising_without a e b rising)

pub rising_take : (m : Pairs) (i : ℕ) → AreRising m → AreRising (take i m)
rising_take m i rising = rising_front (take i m) (drop i m) (subst AreRising (sym (take-append-drop i m)) rising)

-- the first pairs of a map, and one more by its key
module _ (m : Pairs) (rising : AreRising m) (i : ℕ) (d : List ℕ × Data) (within : i < length m) where
  split : m ≡ take i m ++ get_or m i d ∷ drop (suc i) m
  split = sym (take-append-drop i m) ∙ ap (λ rest. take i m ++ rest) (drop-cons m i d within)

  pub next_taken : (id : List ℕ) (r : Option Data) → id ≡ (get_or m i d).0 → r ≡ value_at m id → set_at (take i m) id r ≡ take (i + 1) m
  next_taken id r here is =
      (λ j. set_at (take i m) (here j) ((is ∙ ap (value_at m) here ∙ pairs_found m rising i d within) j))
      ∙ put_last (take i m) (get_or m i d).0 (get_or m i d).1 (drop (suc i) m) (subst AreRising split rising)
      ∙ sym (take_more m i d within)
