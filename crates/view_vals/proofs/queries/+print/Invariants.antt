use Rattle.std.proofs.Common.{◌≡◌, map, take}
use Rattle.view_vals.specs.Queries.{query_data}
use Rattle.view_vals.proofs.queries.+print.Given as goal

-- the values so far are those of the queries so far
abbrev pub invariant-queries_val-queries : goal.invariant-queries_val-queries
invariant-queries_val-queries l = l.vals ≡ map query_data (take l.query-index l.queries)
