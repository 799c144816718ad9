use Rattle.sync_world.proofs.VersionLemmas.{one_schemas}
use Rattle.sync_world.proofs.laws.versions_have_one_schema.Goals as goal

pub returns : goal.returns
returns c = one_schemas
