use Rattle.tl_rules.proofs.ListingLemmas.{stays}
use Rattle.tl_rules.proofs.list_laws.unmoved_records_stay.Goals as goal

pub returns : goal.returns
returns c = λ l m id d e owner rising there owners places. stays l m id d owner rising there e owners places
