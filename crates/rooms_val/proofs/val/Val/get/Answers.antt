use Rattle.std.proofs.Common.{sym, ap, ◌∙◌}
use Rattle.rooms_val.specs.Maps.{value_at}
use Rattle.rooms_val.proofs.DataLemmas.{pairs_of-members_of}
use Rattle.rooms_val.proofs.val.Val.get.Goals as goal

pub returns-in-Map : goal.returns-in-Map
returns-in-Map c = rw c.in-Map.is (c.get.ensures ∙ ap (λ ps. value_at ps c.args.key.now) (sym (pairs_of-members_of c.in-Map.fields)))
