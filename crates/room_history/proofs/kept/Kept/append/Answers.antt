use Rattle.std.proofs.Common.{◌≡◌, ◌||◌, ◌+ℤ◌, pos, true, List, [], ◌++◌, length, refl, sym, ap, subst, ◌∙◌, arith, w64, to_z, of_z}
use Rattle.std.specs.List.{list_all}
use Rattle.std.proofs.lemmas.Int.{ints}
use Rattle.std.proofs.lemmas.List.{length-map}
use Rattle.change_list.specs.declared.entries.Change.{Change}
use Rattle.change_list.specs.Changes.{AreUpTo, most_dead, kept_dead, next_start, next_dead}
use Rattle.rooms_val.specs.Maps.{AreRising, seen}
use Rattle.field_ops.specs.View.{maybe_data}
use Rattle.room_history.specs.Marks.{Marks, set_all, is_listed, marks_of, mark_all}
use Rattle.room_history.specs.declared.kept.Kept.{Kept}
use Rattle.room_history.proofs.AppendLemmas.{marks_rise, marks_can, pushed}
use Rattle.room_history.proofs.KeepLemmas.{IsStep, lists_after}
use Rattle.room_history.proofs.UsableLemmas.{idle, latest_next}
use Rattle.room_history.proofs.kept.Kept.append.Goals as goal

pub write_all-requires : goal.write_all-requires
write_all-requires g c = idle c.args.self.now c.requires.sound

pub mark_all-requires-clause-rising : goal.mark_all-requires-clause-rising
mark_all-requires-clause-rising g c =
    let m = c.args.self.now.records.0 in
    let diff = c.args.accepted.entry.diff in
    let marks : c.in_ok-marks.marks.items ≡ marks_of (seen maybe_data c.args.accepted.after.items) = c.in_ok-marks.ensures ∙ ap (λ l. marks_of (seen maybe_data l)) c.deref.ensures.value in
    subst AreRising (sym (marks ∙ ap marks_of c.requires.suits.after)) (marks_rise m diff c.tell_rising.ensures)

pub mark_all-requires-clause-latest : goal.mark_all-requires-clause-latest
mark_all-requires-clause-latest g c =
    let old = c.args.self.now in
    let clock = to_z w64 (of_z w64 c.next-clock.result) in
    let is : old.clock +ℤ pos 1 ≡ clock = omega (arith, ints, c.next-clock.ensures) in
    subst (λ (cs : List Change). AreUpTo clock cs) (λ i. sym c.reserve.ensures.live i ++ sym c.reserve.ensures.dead i)
    (subst (λ z. AreUpTo z (old.changes.live ++ old.changes.dead)) is (latest_next old c.requires.sound))

pub mark_all-requires-clause-live : goal.mark_all-requires-clause-live
mark_all-requires-clause-live g c =
    let old = c.args.self.now in
    let marks : c.in_ok-marks.marks.items ≡ marks_of (seen maybe_data c.args.accepted.after.items) = c.in_ok-marks.ensures ∙ ap (λ l. marks_of (seen maybe_data l)) c.deref.ensures.value in
    subst (λ (cs : List Change). list_all (λ mark. mark.1 || is_listed cs mark.0) c.in_ok-marks.marks.items ≡ true) (sym c.reserve.ensures.live)
    (subst (λ (ms : Marks). list_all (λ mark. mark.1 || is_listed old.changes.live mark.0) ms ≡ true) (sym (marks ∙ ap marks_of c.requires.suits.after))
    (marks_can old c.requires.sound c.args.accepted.entry.diff c.requires.suits.changing))

pub returns-clause-ok : goal.returns-clause-ok
returns-clause-ok g c first history keeps =
    let old = c.args.self.now in
    let accepted = c.args.accepted in
    let left = seen maybe_data accepted.after.items in
    let clock = to_z w64 (of_z w64 c.next-clock.result) in
    let is : clock ≡ old.clock +ℤ pos 1 = omega (arith, ints, c.next-clock.ensures) in
    let new : Kept = record {
      schema = old.schema;
      records = c.write_all.new.records;
      size = accepted.size;
      changes = c.prune.new.self;
      recent = c.remember.new.recent;
      clock = clock;
    } in
    let marks : c.in_ok-marks.marks.items ≡ marks_of left = c.in_ok-marks.ensures ∙ ap (λ l. marks_of (seen maybe_data l)) c.deref.ensures.value in
    let lists : (c.mark_all.new.changes.live, c.mark_all.new.changes.dead) ≡ lists_after old new left =
    c.mark_all.ensures.lists ∙ (λ i. mark_all clock (marks i) (c.reserve.ensures.live i, c.reserve.ensures.dead i)) in
    let start : c.mark_all.new.changes.start ≡ old.changes.start = c.mark_all.ensures.start ∙ c.reserve.ensures.start in
    let step : IsStep old new accepted.entry left = record {
      schema = refl;
      records = c.in_ok-write_all.ensures.ok ∙ ap (λ l. (set_all old.records.0 (seen maybe_data l), [])) c.deref-2.ensures.value;
      clock = is;
      live = c.prune.ensures.live ∙ ap (λ ls. ls.0) lists;
      dead = c.prune.ensures.dead ∙ (λ i. next_dead most_dead kept_dead (start i) ((lists i).1));
      start = c.prune.ensures.start ∙ (λ i. next_start most_dead kept_dead (start i) ((lists i).1));
      recent = c.remember.ensures.items;
      capacity = c.remember.ensures.capacity;
    } in
    pushed first history old new accepted keeps c.requires.suits c.tell_rising.ensures step refl c.requires.below

pub returns-clause-ticks : goal.returns-clause-ticks
returns-clause-ticks g c =
    let as_many = simp length-map at (ap length c.requires.suits.after) in
    let same = ap length c.deref-2.ensures.value in
    omega (arith, c.write_all.ensures.ticks)
