-- The laws of migrations, each the contract of a function of `laws.rt`.
use Rattle.std.specs.Prelude.{◌≡◌, List}
use Rattle.rooms_val.specs.Data.{Pairs}
use Rattle.rooms_val.specs.Maps.{seen}
use Rattle.migrate_steps.specs.declared.migration.Migration.{Migration}
use Rattle.migrate_steps.specs.Records.{raised_along, raised_map}
use Rattle.migrate_seq.specs.Versions.{Versions, schema_of}

-- each value is that of the versions of one schema at most
abbrev pub OneSchemaEach : Type 0
OneSchemaEach = (a b : Versions) → schema_of a ≡ schema_of b → a ≡ b

-- in a map after some migrations each record is what they make of it alone
abbrev pub EachRecordAlone : Type 0
EachRecordAlone = (ms : List Migration) (ps : Pairs) → raised_map ms ps ≡ seen (raised_along ms) ps
