use Rattle.saved_laws.proofs.LoadLemmas.{loads}
use Rattle.saved_laws.proofs.loading.what_is_saved_loads.Goals as goal

pub returns : goal.returns
returns c tree room saved last lawful reached is below = loads tree lawful room reached saved is last below
