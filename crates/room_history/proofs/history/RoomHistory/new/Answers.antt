use Rattle.std.proofs.Common.{[], map, pos, ap, refl, arith}
use Rattle.room_history.specs.Entries.{recent_tree}
use Rattle.room_history.specs.Keeps.{Keeps}
use Rattle.room_history.specs.declared.kept.Kept.{Kept}
use Rattle.room_history.proofs.history.RoomHistory.new.Goals as goal

pub invariant_of-result : goal.invariant_of-result
invariant_of-result c =
    let kept : Kept = record {
      schema = c.args.schema;
      records = c.new-2.result;
      size = record { count = 0; weight = 0 };
      changes = c.in_ok-changes.changes;
      recent = c.in_ok-recent.recent;
      clock = pos 0;
    } in
    let keeps : Keeps 0 [] kept = record {
      began = omega arith;
      records = c.new-2.ensures;
      admitted = λ id d is. (cc);
      size = refl;
      clock = refl;
      live = c.in_ok-changes.ensures.0;
      dead = c.in_ok-changes.ensures.1;
      start = c.in_ok-changes.ensures.2;
      recent = ap (λ b. map recent_tree b.items) c.in_ok-recent.ensures;
      capacity = ap (λ b. b.capacity) c.in_ok-recent.ensures;
      presences = omega arith;
      bounded = omega arith;
    } in
    record { sound = ∣ (0, ([], keeps)) ∣₁; presence = c.requires }
