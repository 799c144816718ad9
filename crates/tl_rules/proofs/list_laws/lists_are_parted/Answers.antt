use Rattle.rooms_val.specs.Maps.{without_key}
use Rattle.rooms_val.proofs.MapsLemmas.{rising-without_key}
use Rattle.tl_rules.proofs.ListingLemmas.{parted, known, known_without}
use Rattle.tl_rules.proofs.list_laws.lists_are_parted.Goals as goal

pub returns-clause-whole : goal.returns-clause-whole
returns-clause-whole c = λ l m place owner rising. parted l m owner place m rising (known m rising)

pub returns-clause-rest : goal.returns-clause-rest
returns-clause-rest c = λ l m place owner id rising. parted l m owner place (without_key m id) (rising-without_key m id rising) (known_without m id rising)
