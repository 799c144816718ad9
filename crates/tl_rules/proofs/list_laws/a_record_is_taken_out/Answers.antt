use Rattle.tl_rules.proofs.ListingLemmas.{taken_out}
use Rattle.tl_rules.proofs.list_laws.a_record_is_taken_out.Goals as goal

pub returns : goal.returns
returns c = λ l m id d owner n rising there is point. taken_out l m id d owner rising there n is point
