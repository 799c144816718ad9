use Rattle.std.proofs.Common.{◌≡◌}
use Rattle.std.specs.Prelude.{filter}
use Rattle.shape_tree.specs.Records.{is_id_of}
use Rattle.store_query.proofs.asking.ids_of_type.Given as goal

abbrev pub invariant-ids : goal.invariant-ids
invariant-ids g l = l.ids.items ≡ filter (is_id_of l.type_name) l.yielded
