use Rattle.std.proofs.Common.{◌≡◌, ◌+◌, ◌≤◌, ◌||◌, ℕ, List, length, drop}
use Rattle.std.specs.Prelude.{is_some}
use Rattle.rooms_val.specs.Maps.{value_at, AreRising}
use Rattle.client_replica.specs.Stashes.{under, without_all}
use Rattle.client_replica.proofs.stash.Stash.keep_each.Given as goal

abbrev pub invariant-ids : goal.invariant-ids
invariant-ids g l =
    let records = g.D.DocStore.records l.fn.store in
    record {
      base : (q : List ℕ) → under l.self records q ≡ under l.initial.self records q;
      exact : (q : List ℕ) → is_some (value_at l.self q) || is_some (value_at (drop l.id-index l.id-items) q) ≡ is_some (value_at l.initial.self q) || is_some (value_at l.id-items q);
      few : length l.self ≤ length l.initial.self + l.id-index;
      rising : AreRising l.self;
      fresh : without_all l.self l.fresh.items ≡ without_all l.initial.self l.initial.fresh.items;
    }
