use Rattle.std.proofs.Common.{◌≡◌, ◌+◌, ◌≤◌, ◌||◌, ℕ, List, length, drop}
use Rattle.std.specs.Prelude.{is_some}
use Rattle.rooms_val.specs.Data.{Pairs}
use Rattle.rooms_val.specs.Maps.{value_at}
use Rattle.client_replica.specs.NewBases.{IsLaid}
use Rattle.client_replica.proofs.new_base.NewBase.touch.Given as goal

abbrev pub invariant-ids : goal.invariant-ids
invariant-ids g l =
    let m = g.D.DocStore.records l.fn.store in
    record {
      document : (base : Pairs) → IsLaid base m l.fn.stash l.initial.self.changes → IsLaid base m l.fn.stash l.self.changes;
      named : (q : List ℕ) → is_some (value_at l.self.changes q) || is_some (value_at (drop l.id-index l.id-items) q) ≡ is_some (value_at l.initial.self.changes q) || is_some (value_at l.id-items q);
      few : length l.self.changes ≤ length l.initial.self.changes + l.id-index;
      others : l.self.others ≡ l.initial.self.others;
    }
