use Rattle.std.proofs.Common.{◌≡◌, ◌+◌, ◌*◌, map, take}
use Rattle.rooms_val.specs.Data.{depth, items_of, items_depth}
use Rattle.rooms_val.specs.View.{data_of, items_view}
use Rattle.view_vals.specs.Queries.{query_data}
use Rattle.view_vals.proofs.queries.+read.Given as goal

abbrev pub decreases-read_query : goal.decreases-read_query
decreases-read_query l = 2 * depth (data_of l.val.now)

abbrev pub decreases-read_queries : goal.decreases-read_queries
decreases-read_queries l = 2 * items_depth (items_of (items_view l.vals.now)) + 1

-- the queries so far are those of the values so far
abbrev pub invariant-read_queries-vals : goal.invariant-read_queries-vals
invariant-read_queries-vals l = items_view (take l.val-index l.vals) ≡ map query_data l.queries.items
