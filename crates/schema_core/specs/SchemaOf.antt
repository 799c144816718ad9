-- What a schema stands for.
use Rattle.migrate_seq.specs.SequencesOf.{sequences_of}
use Rattle.schema_core.specs.Tree.{SchemaTree}
use Rattle.schema_core.specs.View.{types_view}
use Rattle.schema_core.specs.declared.schema.Schema.{Schema}

-- the types by name, and the sequences in the order of their ids
abbrev pub schema_tree : Schema → SchemaTree
schema_tree s = record { types = types_view s.types.items; sequences = sequences_of s.sequences }
