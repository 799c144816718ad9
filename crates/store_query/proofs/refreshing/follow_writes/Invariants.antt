use Rattle.std.proofs.Common.{take}
use Rattle.rooms_val.specs.Data.{Pairs}
use Rattle.rooms_val.specs.Maps.{AreRising}
use Rattle.store_query.specs.Asking.{IsIndexOf}
use Rattle.record_store.specs.Tells.{written_all}
use Rattle.store_query.specs.Refreshing.{KeepsField}
use Rattle.store_query.proofs.refreshing.follow_writes.Given as goal

abbrev pub invariant-writes : goal.invariant-writes
invariant-writes l = record {
  field : KeepsField l.fn.index l.index;
  holds : (m : Pairs) → AreRising m → IsIndexOf m l.fn.index → IsIndexOf (written_all m (take l.key-index l.writes)) l.index;
}
