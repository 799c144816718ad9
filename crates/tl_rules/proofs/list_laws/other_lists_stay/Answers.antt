use Rattle.std.proofs.Common.{ap}
use Rattle.rooms_val.proofs.MapsLemmas.{without_absent}
use Rattle.tl_rules.specs.Listings.{listed}
use Rattle.tl_rules.proofs.ListingLemmas.{coming, going}
use Rattle.tl_rules.proofs.list_laws.other_lists_stay.Goals as goal

pub returns-clause-coming : goal.returns-clause-coming
returns-clause-coming c = λ l m id d other rising apart. coming l m id d other rising apart

pub returns-clause-going : goal.returns-clause-going
returns-clause-going c = λ l m id d other rising there apart. going l m id d other rising there apart

pub returns-clause-absent : goal.returns-clause-absent
returns-clause-absent c = λ l m id other none. ap (λ es. listed l es other) (without_absent m id none)
