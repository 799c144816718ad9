-- What the calls of a store leave.
use Rattle.std.proofs.Common.{◌≡◌, ℕ, List, [], ◌∷◌, length, map, Option, None, Some, option_map, refl, sym, ap, ◌∙◌}
use Rattle.std.specs.Prelude.{IfOk, Ok, Err}
use Rattle.std.specs.declared.result.Result.{Result}
use denote.Ref.{Bor}
use Rattle.rooms_val.specs.Data.{Pairs}
use Rattle.rooms_val.specs.Maps.{AreRising}
use Rattle.signal_core.specs.declared.watch.Watch.{Watch}
use Rattle.signal_core.specs.declared.watch.WatchId.{WatchId}
use Rattle.signal_core.specs.Due as core
use Rattle.signal_core.specs.News.{IsNews}
use Rattle.signal_values.specs.Cells.{atoms_of as values_atoms}
use Rattle.signal_values.specs.Seen as values
use Rattle.tl_rules.specs.declared.rules.TlRules.{TlRules}
use Rattle.signal_core.specs.Watches.{watch_at}
use Rattle.signal_rules.specs.Values.{value}
use Rattle.signal_core.specs.Gots.{AreGot}
use Rattle.signal_txn.specs.Seen.{IsGotIn}
use Rattle.signal_txn.specs.Level.{Level, began_at}
use Rattle.tl_rules.specs.Atoms.{ArePlainAtoms}
use Rattle.tl_rules.specs.Exact.{key_cmp}
use Rattle.tl_rules.specs.Lawful.{tl_lawful}
use Rattle.tl_rules.specs.Meaning.{tl_meaning}
use Rattle.tl_rules.specs.declared.key.TlKey.{TlKey}
use Rattle.tl_rules.specs.declared.key.TlKey.TheVariants as key
use Rattle.tl_rules.specs.declared.value.TlValue.{TlValue}
use Rattle.tl_rules.proofs.PlanLemmas.{value_of_atom}
use Rattle.tl_rules.proofs.QueryLemmas.{bound_value, tree_value, count_value, box_value}
use Rattle.record_store.specs.Calls.{IsAsked, AreAsked, IsDue, AreDue, IsPlainNews, AreTold, told_of}
use Rattle.record_store.specs.Kept.{IsLevelled, IsStore}
use Rattle.record_store.specs.Lists.{Board, atoms_of, begun_of}
use Rattle.record_store.specs.Plain.{plain}
use Rattle.record_store.specs.Seen.{Seen, records, begun, watches, records_under}
use Rattle.record_store.proofs.RecordLemmas.{rising-records}

-- over the atoms of a board each key comes to what its plain query says
pub plain_value : (a : TlKey → TlValue) (m : Pairs) (k : TlKey) → ArePlainAtoms a m → AreRising m → IsLevelled k → value tl_meaning a k ≡ plain m k
plain_value a m (key.Rec id) are rising level = value_of_atom tl_meaning a tl_lawful (key.Rec id) refl ∙ are.record_at id
plain_value a m (key.ByParent id) are rising level = value_of_atom tl_meaning a tl_lawful (key.ByParent id) refl ∙ are.children_of id
plain_value a m (key.BoundFrom id) are rising level = value_of_atom tl_meaning a tl_lawful (key.BoundFrom id) refl ∙ are.bound_from id
plain_value a m (key.BoundTo id) are rising level = value_of_atom tl_meaning a tl_lawful (key.BoundTo id) refl ∙ are.bound_to id
plain_value a m (key.Bound id) are rising level = bound_value a m are rising id
plain_value a m (key.Tree page) are rising level = tree_value a m are page
plain_value a m (key.Count page) are rising level = count_value a m are page
plain_value a m (key.Box id levels) are rising level = box_value a m are levels level id

pub begun_same : (old new : Board) → atoms_of new ≡ atoms_of old → new.journal ≡ old.journal → begun_of new ≡ begun_of old
begun_same old new atoms journal = λ i. map (λ level. began_at key_cmp level (atoms i)) (journal i).levels

abbrev pub AreLevelled : List (Option (Watch TlKey TlValue)) → Type 0
AreLevelled watched = (number : ℕ) (watch : Watch TlKey TlValue) → watch_at watched number ≡ Some watch → IsLevelled watch.key

-- the records, now and where transactions began, are as they were
pub records_kept : (old new : Seen) → new.keys ≡ old.keys → atoms_of new.txn ≡ atoms_of old.txn → records new ≡ records old
records_kept old new keys atoms = λ i. records_under (keys i) (atoms i)

pub begun_kept : (old new : Seen) → new.keys ≡ old.keys → atoms_of new.txn ≡ atoms_of old.txn → new.txn.journal ≡ old.txn.journal → begun new ≡ begun old
begun_kept old new keys atoms journal = λ i. map (records_under (keys i)) (begun_same old.txn new.txn atoms journal i)

-- no transaction is open
pub none_open : (store : Seen) → begun store ≡ [] → store.txn.journal.levels ≡ []
none_open store is = no_items store.txn.journal.levels (ap length is ∙ refl)
  where
    no_items : (ls : List (Level TlKey TlValue)) → length (map (records_under store.keys) (map (λ level. began_at key_cmp level (atoms_of store.txn)) ls)) ≡ 0 → ls ≡ []
    no_items [] e = refl
    no_items (l ∷ ls) e = cc

module _ (store : Seen) (is : IsStore store) where
  value_is : (number : ℕ) (watch : Watch TlKey TlValue) → watch_at (watches store) number ≡ Some watch → value tl_meaning (atoms_of store.txn) watch.key ≡ plain (records store) watch.key
  value_is number watch at = plain_value (atoms_of store.txn) (records store) watch.key is.now.plain (rising-records store.keys (atoms_of store.txn)) (is.levelled number watch at)

  -- what is asked for is what the plain query says
  pub asked_value : (k : TlKey) → IsLevelled k → value tl_meaning (atoms_of store.txn) k ≡ plain (records store) k
  asked_value k level = plain_value (atoms_of store.txn) (records store) k is.now.plain (rising-records store.keys (atoms_of store.txn)) level

  is_due : (number : ℕ) (v : TlValue) → core.IsDue tl_meaning key_cmp store.txn.graph number v → IsDue store number v
  is_due number v due = record { watch = due.watch; at = due.at; value = due.value ∙ value_is number due.watch due.at; differs = due.differs }

  was_due : (number : ℕ) (v : TlValue) → IsDue store number v → core.IsDue tl_meaning key_cmp store.txn.graph number v
  was_due number v due = record { watch = due.watch; at = due.at; value = due.value ∙ sym (value_is number due.watch due.at); differs = due.differs }

  pub are_due : (due : List (WatchId × TlValue)) → core.AreDue tl_meaning key_cmp store.txn.graph due → AreDue store due
  are_due due are = record {
    which = λ number v. (λ has. is_due number v ((are.which number v).0 has), λ d. (are.which number v).1 (was_due number v d));
    rising = are.rising;
  }

  -- what is to be told of each watch, over the same atoms
  pub plain_news : (values : values.Seen TlRules TlKey TlValue) (number : ℕ) (slot : Option (Watch TlKey TlValue)) (news : Option TlValue) → values_atoms tl_meaning key_cmp values.rows ≡ atoms_of store.txn
      → watch_at (watches store) number ≡ slot → IsNews tl_meaning key_cmp values slot news → IsPlainNews (records store) slot news
  plain_news values number None news same at is = is
  plain_news values number (Some watch) None same at is = is ∙ ap Some (ap (λ a. value tl_meaning a watch.key) same ∙ value_is number watch at)
  plain_news values number (Some watch) (Some v) same at is = (is.0 ∙ ap (λ a. value tl_meaning a watch.key) same ∙ value_is number watch at, is.1)

  pub are_told : (after : List (Option (Watch TlKey TlValue))) → core.AreTold tl_meaning key_cmp store.txn.graph after → AreTold store after
  are_told after told number = told number ∙ at (watch_at (watches store) number) refl
    where
      at : (o : Option (Watch TlKey TlValue)) → watch_at (watches store) number ≡ o → option_map (core.told_of tl_meaning key_cmp store.txn.graph.values) o ≡ option_map (told_of store) o
      at None e = refl
      at (Some watch) e = ap (λ v. Some (record watch { told = Some v })) (value_is number watch e)

-- a key was asked
pub is_asked : (old new : Seen) → new.keys ≡ old.keys → IsGotIn tl_meaning key_cmp old.txn new.txn → IsAsked old new
is_asked old new keys got = record {
  records = records_kept old new keys got.got.atoms;
  begun = begun_kept old new keys got.got.atoms got.journal;
  watches = got.watches;
  got = got;
}

-- keys were asked
pub are_asked : (old new : Seen) → new.keys ≡ old.keys → AreGot tl_meaning key_cmp old.txn.graph.values new.txn.graph.values → new.txn.journal ≡ old.txn.journal → AreAsked old new
are_asked old new keys got journal = record {
  records = records_kept old new keys got.atoms;
  begun = begun_kept old new keys got.atoms journal;
  got = got;
  journal = journal;
}

pub asked_ok : {E : Type 0} (store : Seen) → IsStore store → (k : TlKey) (r : Result (Bor TlValue) E) → IsLevelled k
    → IfOk r (λ v. v.now ≡ value tl_meaning (atoms_of store.txn) k) → IfOk r (λ v. v.now ≡ plain (records store) k)
asked_ok store is k (Ok v) level e = e ∙ asked_value store is k level
asked_ok store is k (Err x) level e = e
