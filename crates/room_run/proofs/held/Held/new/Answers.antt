use Rattle.std.proofs.Common.{rules, ◌≡◌, ℕ, nat_abs, sym, ap, subst, ◌∙◌}
use Rattle.room_model.specs.Rooms.{new_room}
use Rattle.room_run.specs.Openings.{schemas_of, last_of}
use Rattle.room_schemas.specs.Decided.{decided}
use Rattle.sync_room.specs.Standing.{Stands, tree_of}
use Rattle.sync_room.specs.declared.room.Room.{Room}
use Rattle.room_run.proofs.HeldLemmas.{opens}
use Rattle.room_run.proofs.held.Held.new.Goals as goal

pub invariant_of-result : goal.invariant_of-result
invariant_of-result c =
    let same : c.of.result.value ≡ c.args.room = c.of.ensures in
    let last : nat_abs c.of.result.value.last ≡ c.requires.0 = ap (λ (r : Room). nat_abs r.last) same ∙ ap nat_abs c.requires.1.agrees.last in
    rw c.new.ensures.items (opens (schemas_of c.of.result) (last_of c.of.result) c.args.room _ (ap (λ (r : Room). decided (tree_of r)) (sym same)) (subst (λ n. Stands (new_room n) c.args.room) (sym last) c.requires.1))
