-- What the rules, the fields and the types of the code stand for.
use Rattle.std.specs.Prelude.{ℕ, List}
use Rattle.record_valid.specs.Tree.{CheckTree, whole, boolean, key}
use Rattle.schema_core.specs.Tree.{TypeTree}
use Rattle.tl_tables.specs.Fields.{FieldTree, always, since, until}
use Rattle.tl_tables.specs.Parts.{coordinate, extent, color, dash, fill, size, long_text, short_text}
use Rattle.tl_tables.specs.Types as types
use Rattle.tl_tables.specs.declared.types.RecordType.{RecordType}
use Rattle.tl_tables.specs.declared.types.RecordType.TheVariants as t
use Rattle.tl_tables.specs.declared.rules.Rule.{Rule}
use Rattle.tl_tables.specs.declared.rules.Rule.TheVariants as rule
use Rattle.tl_tables.specs.declared.fields.Field.{Field}
use Rattle.tl_tables.specs.declared.fields.Field.TheVariants.{Always, Since, Until}

-- the check that a rule names
abbrev pub rule_tree : Rule → CheckTree
rule_tree rule.Coordinate = coordinate
rule_tree rule.Extent = extent
rule_tree rule.ShortText = short_text
rule_tree rule.LongText = long_text
rule_tree (rule.Whole least most) = whole least most
rule_tree rule.Key = key
rule_tree rule.Bool = boolean
rule_tree rule.Color = color
rule_tree rule.Dash = dash
rule_tree rule.Fill = fill
rule_tree rule.Size = size

-- the name of a field and its check, with the versions that have it
abbrev pub field_tree : Field → FieldTree
field_tree (Always name check) = always name.now (rule_tree check)
field_tree (Since first name check) = since first name.now (rule_tree check)
field_tree (Until last name check) = until last name.now (rule_tree check)

-- the type of records that a name of the code stands for, at a version
abbrev pub type_at : ℕ → RecordType → List ℕ × TypeTree
type_at version t.Document = types.document version
type_at version t.Page = types.page version
type_at version t.Shape = types.shape version
type_at version t.Asset = types.asset version
type_at version t.Binding = types.binding version
type_at version t.Camera = types.camera version
type_at version t.Instance = types.instance version
type_at version t.InstancePresence = types.instance_presence version
