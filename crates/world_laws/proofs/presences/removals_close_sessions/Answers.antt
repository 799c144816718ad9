use Rattle.world_laws.proofs.RemovalLemmas.{goes_on_by_closing}
use Rattle.world_laws.proofs.presences.removals_close_sessions.Goals as goal

pub returns : goal.returns
returns g c schemas trace world event made reached is = goes_on_by_closing schemas world trace event made reached is
