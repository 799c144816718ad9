-- The laws of views and queries as values, each the contract of a function of `laws.rt`.
use Rattle.std.specs.Prelude.{◌≡◌}
use Rattle.rooms_val.specs.Data.{Data}
use Rattle.shape_tree.specs.Queries.{meets}
use Rattle.shape_tree.specs.declared.query.Query.{Query}
use Rattle.shape_tree.specs.declared.view.View.{View}
use Rattle.view_vals.specs.Queries.{query_data}
use Rattle.view_vals.specs.Views.{view_data}

-- each value is that of one view at most
abbrev pub OneViewEach : Type 0
OneViewEach = (v w : View) → view_data v ≡ view_data w → v ≡ w

-- two queries are met by the same records. They may differ in where in memory their parts stand
abbrev pub AskTheSame : Query → Query → Type 0
AskTheSame q r = (d : Data) → meets d q ≡ meets d r

-- queries of one value are met by the same records
abbrev pub OneMeaningEach : Type 0
OneMeaningEach = (q r : Query) → query_data q ≡ query_data r → AskTheSame q r
