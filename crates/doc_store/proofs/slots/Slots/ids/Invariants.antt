use Rattle.std.proofs.Common.{◌≡◌, ◌++◌}
use Rattle.doc_store.specs.Tree.{slots_view}
use Rattle.doc_store.proofs.Ids.{full_ids}
use Rattle.doc_store.proofs.slots.Slots.ids.Given as goal

abbrev pub invariant-loop-id : goal.invariant-loop-id
invariant-loop-id l = l.ids.items ++ full_ids (slots_view l.id-iterator) ≡ full_ids l.self
