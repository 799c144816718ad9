use Rattle.std.proofs.Common.{◌≡◌, ◌-◌, take, drop, length, arith, rules, take_all, length-drop}
use Rattle.room_link.proofs.HeldLemmas.{Extends-more}
use Rattle.room_link.proofs.writing.write_all.Goals as goal

pub writes-preserved : goal.writes-preserved
writes-preserved g c =
    let text = c.args.bytes.now in
    let at = c.writes.at in
    let whole : take (length text - at) (drop at text) ≡ drop at text = take_all (length text - at) (drop at text) (omega (arith, length-drop at text)) in
    record {
      within = search rules;
      faults_stay = search rules;
      written = Extends-more _ _ _ text at c.in_ok-at.field-0 c.writes.invariant.written (rw whole at c.in_ok-at.ensures.held);
    }
