use Rattle.std.proofs.Common.{◌≡◌, None, drop}
use Rattle.std.specs.Option.{option_copied}
use Rattle.rooms_val.specs.Data.{items_of, members_of}
use Rattle.rooms_val.specs.View.{data_of, items_view, pairs_view}
use Rattle.record_valid.specs.Tree.{list_of, object, rows_of}
use Rattle.record_valid.specs.View.{table_view}
use Rattle.record_valid.specs.Faults.{items_fault, fields_fault, first_fault, deeper}
use Rattle.record_valid.proofs.+valid.Given as goal

-- the fault of the list is that of the items that are left
abbrev pub invariant-inner::Inner::check_list-loop-item : goal.invariant-inner::Inner::check_list-loop-item
invariant-inner::Inner::check_list-loop-item l =
    first_fault l.depth None (list_of l.self) (data_of l.val) ≡ items_fault (λ e. first_fault (deeper l.depth) None l.self e) (items_of (items_view (drop l.item-index l.item-items)))

-- the fault of the map is that of the fields that are left
abbrev pub invariant-check_table::Checks::check_object-loop-check : goal.invariant-check_table::Checks::check_object-loop-check
invariant-check_table::Checks::check_object-loop-check l =
    first_fault l.depth None (object (rows_of l.self)) (data_of l.val) ≡ fields_fault l.inside (option_copied l.kind) (rows_of (table_view l.check-iterator.a.rest.now)) (members_of (pairs_view l.check-iterator.b.rest.now))
