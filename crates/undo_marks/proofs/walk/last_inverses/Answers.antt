use Rattle.std.proofs.Common.{map, reverse, ap, subst, ◌∙◌, arith}
use Rattle.undo_marks.specs.Kept.{diffs_of, section_of}
use Rattle.undo_marks.proofs.KeptLemmas.{newest_section}
use Rattle.undo_marks.proofs.WalkLemmas.{Passing, passing_next, passed}
use Rattle.undo_marks.proofs.walk.last_inverses.Goals as goal

pub marks-preserved : goal.marks-preserved
marks-preserved c =
    let newest = c.in_ok-newest.newest.now in
    let older = c.in_ok-newest.older.now in
    let parts = c.in_ok-newest.ensures.cases in
    let room = c.marks.invariant.1 in
    let shorter = parts.1 in (
      passing_next (reverse (map section_of c.args.marked.now)) (diffs_of c.args.last.now) (section_of newest) (reverse (map section_of older)) (diffs_of c.marks.last.now) c.marks.dropped
          (c.is_empty.ensures.0 c.marks-test.true)
          (subst (λ ss. Passing (reverse (map section_of c.args.marked.now)) (diffs_of c.args.last.now) ss (diffs_of c.marks.last.now) c.marks.dropped)
          (ap (λ xs. reverse (map section_of xs)) parts.0 ∙ newest_section older newest) c.marks.invariant.0),
      omega (arith, room, shorter),
    )

pub returns : goal.returns
returns c =
    passed (reverse (map section_of c.args.marked.now)) (diffs_of c.args.last.now) (reverse (map section_of c.marks.marked.now)) (diffs_of c.marks.last.now) c.marks.dropped
    (λ none. let is = c.is_empty.ensures.1 none in absurd (cc)) c.marks.invariant.0
