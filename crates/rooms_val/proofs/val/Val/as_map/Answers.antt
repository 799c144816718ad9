use Rattle.std.proofs.Common.{Some, sym, ap}
use Rattle.rooms_val.proofs.DataLemmas.{pairs_of-members_of}
use Rattle.rooms_val.proofs.val.Val.as_map.Goals as goal

pub returns-in-Map : goal.returns-in-Map
returns-in-Map c = rw c.in-Map.is (ap Some (sym (pairs_of-members_of c.in-Map.fields)))
