use Rattle.std.proofs.Common.{◌≡◌, ◌||◌, ◌≤◌, true, [], ◌∷◌, ◌++◌, length, refl, sym, ap, subst, ◌∙◌, arith, rules, w64, to_z, of_z}
use Rattle.std.proofs.lemmas.Int.{to_z-of_z}
use Rattle.change_list.specs.Changes.{listed, AreUpTo}
use Rattle.std.specs.List.{list_all}
use Rattle.rooms_val.specs.Maps.{AreRising}
use Rattle.rooms_val.proofs.MapsLemmas.{none_later, rising_rest}
use Rattle.rooms_val.proofs.Truths.{and_left, and_right}
use Rattle.room_history.specs.Marks.{Marks, Lists, is_listed, mark_one, mark_all}
use Rattle.room_history.proofs.ListedLemmas.{can_mark, latest_after}
use Rattle.room_history.proofs.marks.mark_all.Goals as goal

no_marks : (ms : Marks) → length ms ≡ 0 → ms ≡ []
no_marks [] none = refl
no_marks (m ∷ ms) none = absurd (omega arith)

pub marks-init : goal.marks-init
marks-init c =
    let all = c.args.marks.items in
    let items : c.into_iter-id-iterator.result.rest.items ≡ all = search rules in
    let fits = to_z-of_z w64 c.args.clock c.ranges.clock in
    let changes = c.args.changes.now in
    record {
      lists = ap (λ (ms : Marks). mark_all (to_z w64 (of_z w64 c.args.clock)) ms (changes.live, changes.dead)) items;
      start = refl;
      rising = subst AreRising (sym items) c.requires.rising;
      latest = subst (λ z. AreUpTo z (listed changes)) (sym fits) c.requires.latest;
      live = subst (λ (ms : Marks). list_all (λ mark. mark.1 || is_listed changes.live mark.0) ms ≡ true) (sym items) c.requires.live;
      spare = subst (λ (ms : Marks). length ms ≤ changes.spare) (sym items) c.requires.spare;
    }

pub mark_one-requires : goal.mark_one-requires
mark_one-requires c =
    let parts = c.in-Some.ensures.steps.0 in
    let live = subst (λ (ms : Marks). list_all (λ mark. mark.1 || is_listed c.marks.changes.live mark.0) ms ≡ true) parts c.marks.invariant.live in
    let few = ap length parts in
    record {
      latest = c.marks.invariant.latest;
      live = and_left _ _ live;
      spare = omega (arith, few, c.marks.invariant.spare);
    }

pub marks-preserved : goal.marks-preserved
marks-preserved c =
    let parts = c.in-Some.ensures.steps.0 in
    let rest = c.next.new.self.rest.items in
    let live = subst (λ (ms : Marks). list_all (λ mark. mark.1 || is_listed c.marks.changes.live mark.0) ms ≡ true) parts c.marks.invariant.live in
    let rising = subst AreRising parts c.marks.invariant.rising in
    let few = ap length parts in
    let clock = to_z w64 (of_z w64 c.args.clock) in
    let old : Lists = (c.marks.changes.live, c.marks.changes.dead) in
    let marked : (c.mark_one.new.changes.live, c.mark_one.new.changes.dead) ≡ mark_one clock c.in-Some.id c.in-Some.live old = c.mark_one.ensures.lists in
    record {
      lists = ap (mark_all clock rest) marked ∙ sym (ap (λ (ms : Marks). mark_all clock ms old) parts) ∙ c.marks.invariant.lists;
      start = c.mark_one.ensures.start ∙ c.marks.invariant.start;
      rising = rising_rest (c.in-Some.id, c.in-Some.live) rest rising;
      latest = subst (λ (ls : Lists). AreUpTo clock (ls.0 ++ ls.1)) (sym marked) (latest_after clock c.in-Some.id c.in-Some.live old c.marks.invariant.latest);
      live = subst (λ (ls : Lists). list_all (λ mark. mark.1 || is_listed ls.0 mark.0) rest ≡ true) (sym marked) (can_mark clock c.in-Some.id c.in-Some.live old rest (none_later (c.in-Some.id, c.in-Some.live) rest rising) (and_right _ _ live));
      spare = omega (arith, few, c.marks.invariant.spare, c.mark_one.ensures.spare);
    }

pub returns-clause-lists : goal.returns-clause-lists
returns-clause-lists c =
    let none = no_marks c.marks.id-iterator.rest.items (omega (arith, c.in-None.ensures.steps.0)) in
    let fits = to_z-of_z w64 c.args.clock c.ranges.clock in
    let now : Lists = (c.marks.changes.live, c.marks.changes.dead) in
    let was : Lists = (c.args.changes.now.live, c.args.changes.now.dead) in
    sym (ap (λ (ms : Marks). mark_all (to_z w64 (of_z w64 c.args.clock)) ms now) none) ∙ c.marks.invariant.lists ∙ ap (λ z. mark_all z c.args.marks.items was) fits
