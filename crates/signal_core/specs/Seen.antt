-- A graph, as contracts see it.
use Rattle.std.specs.Prelude.{List, Option}
use Rattle.signal_values.specs.Seen as values
use Rattle.signal_core.specs.declared.watch.Watch.{Watch}

-- what contracts see of a graph: its values, and the watch of each number, if there is one
pub record Seen (R K V : Type 0) : Type 0 where
  pub values : values.Seen R K V
  pub watches : List (Option (Watch K V))
