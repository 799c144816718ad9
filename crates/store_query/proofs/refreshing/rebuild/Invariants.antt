use Rattle.std.proofs.Common.{take}
use Rattle.store_query.specs.Asking.{IsIndexOf}
use Rattle.store_query.specs.Refreshing.{KeepsField}
use Rattle.store_query.proofs.refreshing.rebuild.Given as goal

abbrev pub invariant-ids : goal.invariant-ids
invariant-ids g l = record {
  field : KeepsField l.fn.index l.index;
  holds : IsIndexOf (take l.id-index (g.D.DocStore.records l.store)) l.index;
}
