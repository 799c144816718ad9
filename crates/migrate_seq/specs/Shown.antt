-- What a plan shows.
use Rattle.std.specs.Prelude.{List, Bool}
use Rattle.migrate_seq.specs.declared.place.Place.{Place}
use Rattle.migrate_seq.specs.declared.plan.Plan.{Plan}

-- the places of a plan's migrations, in the order in which they are run
abbrev pub places_in : Plan → List Place
places_in p = p.places.items

-- each of its migrations works on one record at a time and may be run down
abbrev pub goes_both_ways : Plan → Bool
goes_both_ways p = p.both_ways

-- each of its migrations works on one record at a time
abbrev pub is_of_records : Plan → Bool
is_of_records p = p.records_only
