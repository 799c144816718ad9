use Rattle.std.proofs.Common.{◌≤◌, ◌-◌, length}
use Rattle.rooms_val.specs.Data.{Pairs}
use Rattle.tl_rules.specs.Listings.{is_before}
use Rattle.record_store.specs.Lists.{HasRecords, place_at}
use Rattle.record_store.proofs.PlaceLemmas.{IsBetween}
use Rattle.record_store.proofs.lists.place_among.Given as goal

abbrev pub invariant-halves : goal.invariant-halves
invariant-halves l = record {
  order : l.low ≤ l.high;
  within : l.high ≤ length l.ids;
  between : (m : Pairs) → HasRecords l.graph m → IsBetween (is_before l.listing m (place_at l.index l.id)) l.ids l.low l.high;
}

abbrev pub decreases-halves : goal.decreases-halves
decreases-halves l = l.high - l.low
