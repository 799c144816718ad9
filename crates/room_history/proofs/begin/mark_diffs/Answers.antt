use Rattle.std.proofs.Common.{◌≡◌, ℤ, List, ◌∷◌, All, sym, ap, subst, ◌∙◌, arith, rules, w64, to_z, of_z}
use Rattle.std.proofs.lemmas.Int.{ints, to_z-of_z}
use Rattle.std.proofs.lemmas.List.Elements.{All-head}
use Rattle.std.proofs.lemmas.Map.Keys.{sorted_tail}
use Rattle.std.specs.List.Sorted.{IsStrictlySortedBy}
use Rattle.std.specs.Map.{keys_of}
use Rattle.std.specs.Ordering.{int_cmp}
use Rattle.field_ops.specs.RecordOps.{RecordOps}
use Rattle.change_list.specs.Changes.{listed, AreUpTo}
use Rattle.room_history.specs.Begins.{mark_diff, mark_diffs}
use Rattle.room_history.specs.Marks.{Lists}
use Rattle.room_history.proofs.NextLemmas.{after_first}
use Rattle.room_history.proofs.begin.mark_diffs.Goals as goal

pub mark_diff-requires : goal.mark_diff-requires
mark_diff-requires c =
    let rest = c.next.new.self in
    let z = c.in-Some.clock.now in
    let parts : c.diffs.clock-iterator ≡ (z, c.in-Some.diff.now) ∷ rest = c.in-Some.ensures.steps in
    let fits : to_z w64 (of_z w64 z) ≡ z = to_z-of_z w64 z (search rules) in
    let all : All (λ z. AreUpTo z (listed c.diffs.changes)) (keys_of ((z, c.in-Some.diff.now) ∷ rest)) =
    subst (λ (es : List (ℤ × RecordOps)). All (λ z. AreUpTo z (listed c.diffs.changes)) (keys_of es)) parts c.diffs.invariant.latest in
    subst (λ x. AreUpTo x (listed c.diffs.changes)) (sym fits) (All-head (λ z. AreUpTo z (listed c.diffs.changes)) z (keys_of rest) all)

pub diffs-preserved : goal.diffs-preserved
diffs-preserved c =
    let rest = c.next.new.self in
    let z = c.in-Some.clock.now in
    let e : ℤ × RecordOps = (z, c.in-Some.diff.now) in
    let old : Lists = (c.diffs.changes.live, c.diffs.changes.dead) in
    let parts : c.diffs.clock-iterator ≡ e ∷ rest = c.in-Some.ensures.steps in
    let fits : to_z w64 (of_z w64 z) ≡ z = to_z-of_z w64 z (search rules) in
    let sorted : IsStrictlySortedBy int_cmp (keys_of (e ∷ rest)) = subst (λ (es : List (ℤ × RecordOps)). IsStrictlySortedBy int_cmp (keys_of es)) parts c.diffs.invariant.sorted in
    let marked : (c.mark_diff.new.changes.live, c.mark_diff.new.changes.dead) ≡ mark_diff z c.in-Some.diff.now old =
    c.in_ok-mark_diff.ensures.lists ∙ ap (λ x. mark_diff x c.in-Some.diff.now old) fits in
    let latest : AreUpTo z (listed c.mark_diff.new.changes) = subst (λ x. AreUpTo x (listed c.mark_diff.new.changes)) fits c.in_ok-mark_diff.ensures.latest in
    record {
      lists = ap (mark_diffs rest) marked ∙ sym (ap (λ (es : List (ℤ × RecordOps)). mark_diffs es old) parts) ∙ c.diffs.invariant.lists;
      sorted = sorted_tail int_cmp z (keys_of rest) sorted;
      latest = λ i d low j f under. let above = after_first e rest sorted i d low in let most = latest j f under in omega (arith, ints);
      start = c.in_ok-mark_diff.ensures.start ∙ c.diffs.invariant.start;
    }
