use Rattle.std.proofs.Common.{◌≡◌, ◌++◌}
use Rattle.doc_store.proofs.Ids.{full_ids}
use Rattle.rooms_val.specs.Maps.{seen}
use Rattle.tl_rules.specs.Answers.{record_in}
use Rattle.record_store.specs.Lists.{atoms_of}
use Rattle.record_store.specs.Tree.{keys_view}
use Rattle.record_store.proofs.TreeLemmas.{AreOfRecords}
use Rattle.record_store.proofs.keys.Keys.ids_of_records.Given as goal

abbrev pub invariant-loop-id : goal.invariant-loop-id
invariant-loop-id l = record {
  ids : l.ids.items ++ full_ids (seen (λ k. record_in (atoms_of l.graph k)) (keys_view l.id-iterator)) ≡ full_ids (seen (λ k. record_in (atoms_of l.graph k)) l.self);
  keys : AreOfRecords (keys_view l.id-iterator);
}
