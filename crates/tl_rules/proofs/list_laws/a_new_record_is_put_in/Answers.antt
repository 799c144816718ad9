use Rattle.tl_rules.proofs.ListingLemmas.{put_in}
use Rattle.tl_rules.proofs.list_laws.a_new_record_is_put_in.Goals as goal

pub returns : goal.returns
returns c = λ l m id d owner n rising is point. put_in l m id d owner rising n is point
