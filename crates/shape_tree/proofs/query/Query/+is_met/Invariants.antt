use Rattle.std.proofs.Common.{◌≡◌, map, drop}
use Rattle.std.specs.List.{list_all, list_any}
use Rattle.rooms_val.specs.View.{data_of}
use Rattle.shape_tree.specs.Queries.{meets}
use Rattle.shape_tree.proofs.query.Query.+is_met.Given as goal

abbrev pub invariant-all : goal.invariant-all
invariant-all l = meets (data_of l.val) l.self ≡ list_all (λ met. met) (map (meets (data_of l.val)) (drop l.query-index l.query-items))

abbrev pub invariant-one : goal.invariant-one
invariant-one l = meets (data_of l.val) l.self ≡ list_any (λ met. met) (map (meets (data_of l.val)) (drop l.query-index l.query-items))
