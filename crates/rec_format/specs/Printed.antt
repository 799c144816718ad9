-- The text of each printed line, those of watches and queries among them.
use Rattle.std.specs.Prelude.{ℕ, pos, List, [], ◌∷◌, true, codes}
use Rattle.rooms_val.specs.Data.{Data, Pairs, boolean, whole, map, members_of}
use Rattle.rooms_val.specs.Json.{text_of}
use Rattle.rooms_val.specs.View.{data_of}
use Rattle.shape_tree.specs.Views.{ids_data}
use Rattle.rec_format.specs.Outs.{line_fields, number_val}
use Rattle.rec_format.specs.declared.printed.PrintedLine.{PrintedLine}
use Rattle.rec_format.specs.declared.printed.PrintedLine.TheVariants as printed

-- the ids that a query found: `{"client":C,"ids":[ID,..],"query":true}`
abbrev pub ids_fields : ℕ → List (List ℕ) → Pairs
ids_fields c ids = (codes "client", number_val c) ∷ (codes "ids", ids_data ids) ∷ (codes "query", boolean true) ∷ []

-- what a watch tells: `{"client":C,"told":VALUE,"watch":W}`
abbrev pub told_fields : ℕ → Data → ℕ → Pairs
told_fields c told watch = (codes "client", number_val c) ∷ (codes "told", told) ∷ (codes "watch", whole (pos watch)) ∷ []

-- the fields of a line, by key
abbrev pub printed_fields : PrintedLine → Pairs
printed_fields (printed.World line) = line_fields line
printed_fields (printed.Ids c ids) = ids_fields c ids
printed_fields (printed.Told c told watch) = told_fields c (data_of told) watch

-- the text of a line
abbrev pub printed_text : PrintedLine → List ℕ
printed_text line = text_of (map (members_of (printed_fields line)))
