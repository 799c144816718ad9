use Rattle.std.proofs.Common.{sym, ap, ◌∙◌}
use Rattle.rooms_val.specs.View.{data_of}
use Rattle.side_effects.proofs.PlacingLemmas.{indexed_map}
use Rattle.side_effects.proofs.placing.with_index.Goals as goal

pub returns-in_ok-put-in-Map : goal.returns-in_ok-put-in-Map
returns-in_ok-put-in-Map c =
    indexed_map c.in-Map.fields c.put.new.self (data_of c.args.val.now) c.args.key _ (sym (ap data_of c.in-Map.is) ∙ c.in_ok-other.ensures) c.in_ok-of-in-Map.ensures c.in_ok-put-in-Map.ensures.ok
