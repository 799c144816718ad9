use Rattle.saved_laws.proofs.LoadLemmas.{something_saved}
use Rattle.saved_laws.proofs.loading.rooms_are_saved.Goals as goal

pub returns : goal.returns
returns c tree room lawful reached = something_saved tree lawful room reached
