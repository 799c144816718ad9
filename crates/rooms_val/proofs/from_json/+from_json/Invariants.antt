use Rattle.std.proofs.Common.{◌≡◌, ◌++◌, map, length}
use Rattle.std.specs.Vec.Iter.{into_iter_items, into_iter_len}
use Rattle.serde_json.specs.View.{view}
use Rattle.rooms_val.specs.Data.{items_of, members_of, AreSoundItems, AreSoundMembers}
use Rattle.rooms_val.specs.Json.{value_in}
use Rattle.rooms_val.specs.View.{items_view, pairs_view}
use Rattle.rooms_val.proofs.FromJsonLemmas.{pair_in}
use Rattle.rooms_val.proofs.from_json.+from_json.Given as goal

-- the values so far are sound, and with those of what is left they are all
abbrev pub invariant-vals_of-loop-item : goal.invariant-vals_of-loop-item
invariant-vals_of-loop-item l = AreSoundItems (items_of (items_view l.vals.items)) ×
    (items_view l.vals.items ++ map (λ v. value_in (view v)) (into_iter_items l.item-iterator) ≡ map (λ v. value_in (view v)) l.fn.items.items) × (into_iter_len l.item-iterator ≡ length (into_iter_items l.item-iterator))

abbrev pub invariant-fields_of-loop-key : goal.invariant-fields_of-loop-key
invariant-fields_of-loop-key l = AreSoundMembers (members_of (pairs_view l.entries.items)) ×
    (pairs_view l.entries.items ++ map pair_in l.key-iterator ≡ map pair_in l.fn.members.entries)
