use Rattle.table_schemas.proofs.PresenceLemmas.{presences}
use Rattle.table_schemas.proofs.tables_have_presences.Goals as goal

pub returns : goal.returns
returns c = presences
