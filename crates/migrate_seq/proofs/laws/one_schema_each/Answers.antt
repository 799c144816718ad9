use Rattle.std.proofs.Common.{sym, ap, ◌∙◌}
use Rattle.migrate_seq.specs.Versions.{versions_in, numbers_of}
use Rattle.migrate_seq.proofs.SerializedLemmas.{same_schemas}
use Rattle.migrate_seq.proofs.Numbers.{versions_in-numbers_of}
use Rattle.migrate_seq.proofs.laws.one_schema_each.Goals as goal

pub returns : goal.returns
returns c a b same =
    sym (versions_in-numbers_of a) ∙ ap versions_in (same_schemas (numbers_of a) (numbers_of b) same) ∙ versions_in-numbers_of b
