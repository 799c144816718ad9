use Rattle.std.proofs.Common.{◌≡◌, ◌&&◌, not, drop}
use Rattle.std.specs.Prelude.{nat_le}
use Rattle.serde_json.specs.Data.{items_depth, members_depth}
use Rattle.serde_json.specs.View.{items_view, members_view}
use Rattle.serde_json.specs.Written.{items_have_float, members_have_float}
use Rattle.rooms_val.specs.Json.{items_are_within, members_are_within}
use Rattle.rooms_val.proofs.survey.Survey.+survey.Given as goal

-- what was found so far and what is left have together what all has
abbrev pub invariant-of_items-loop-item : goal.invariant-of_items-loop-item
invariant-of_items-loop-item l =
    let left = items_view (drop l.item-index l.item-items) in
    let all = items_view l.item-items in
    record {
      whole : (l.all.is_whole && not (items_have_float left)) ≡ not (items_have_float all);
      within : (l.all.is_within && items_are_within left) ≡ items_are_within all;
      shallow : (l.all.is_shallow && nat_le (items_depth left) l.levels) ≡ nat_le (items_depth all) l.levels;
    }

abbrev pub invariant-of_members-loop-member : goal.invariant-of_members-loop-member
invariant-of_members-loop-member l =
    let left = members_view l.member-iterator in
    let all = members_view l.members.entries in
    record {
      whole : (l.all.is_whole && not (members_have_float left)) ≡ not (members_have_float all);
      within : (l.all.is_within && members_are_within left) ≡ members_are_within all;
      shallow : (l.all.is_shallow && nat_le (members_depth left) l.levels) ≡ nat_le (members_depth all) l.levels;
    }
