-- Migrations that go both ways work on one record at a time.
use Rattle.std.proofs.Common.{◌≡◌, true, ◌&&◌, List, [], ◌∷◌, refl}
use Rattle.migrate_seq.specs.Plans.{is_record, are_of_records, are_both_ways}
use Rattle.migrate_steps.specs.declared.migration.Migration.{Migration}
use Rattle.rooms_val.proofs.Truths.{and_true, and_left, and_right}

pub both_ways_of_records : (ms : List Migration) → are_both_ways ms ≡ true → are_of_records ms ≡ true
both_ways_of_records [] is = refl
both_ways_of_records (m ∷ ms) is = and_true _ _ (and_left _ m.has_down (and_left _ (are_both_ways ms) is)) (both_ways_of_records ms (and_right (is_record m.scope && m.has_down) _ is))
