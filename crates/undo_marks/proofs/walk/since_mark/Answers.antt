use Rattle.std.proofs.Common.{◌≡◌, map, reverse, true, false, sym, ap, subst, ◌∙◌, arith}
use Rattle.std.proofs.lemmas.Slice.Eq.{bytes_eq-Decides}
use Rattle.doc_model.specs.Merging.{diff_after}
use Rattle.undo_marks.specs.Kept.{diffs_of, section_of}
use Rattle.undo_marks.proofs.KeptLemmas.{newest_section}
use Rattle.undo_marks.proofs.WalkLemmas.{Seeking, seeking_first, seeking_next, sought}
use Rattle.undo_marks.proofs.walk.since_mark.Goals as goal

pub marks-init : goal.marks-init
marks-init c = (seeking_first c.args.name.now (reverse (map section_of c.args.marked.now)) (diffs_of c.args.last.now) c.new-diff.result c.new-diff.ensures, omega arith)

pub returns-then-eq : goal.returns-then-eq
returns-then-eq c =
    let first = reverse (map section_of c.args.marked.now) in
    let all = diffs_of c.args.last.now in
    let newest = c.in-Some.newest.now in
    let older = c.in-Some.older.now in
    let last = diffs_of c.marks.last.now in
    let same = (bytes_eq-Decides c.as_str.result.now c.args.name.now).0 (sym c.eq.ensures ∙ c.if-eq.true) in
    sought c.args.name.now first all (section_of newest) (reverse (map section_of older)) last c.marks.newer c.marks.diff c.join.new.older c.in_ok-all.ensures.inverses
    (c.in_ok-join.ensures.ok ∙ ap (λ d. diff_after c.marks.diff d) c.in_ok-all.ensures.merged)
    (subst (λ ss. Seeking c.args.name.now first all ss last c.marks.newer c.marks.diff)
    (ap (λ xs. reverse (map section_of xs)) c.in-Some.ensures.cases.0 ∙ newest_section older newest) c.marks.invariant.0)
    (sym same ∙ c.as_str.ensures.bytes)

pub marks-preserved : goal.marks-preserved
marks-preserved c =
    let first = reverse (map section_of c.args.marked.now) in
    let all = diffs_of c.args.last.now in
    let newest = c.in-Some.newest.now in
    let older = c.in-Some.older.now in
    let last = diffs_of c.marks.last.now in
    let room = c.marks.invariant.1 in
    let shorter = c.in-Some.ensures.cases.1 in (
      seeking_next c.args.name.now first all (section_of newest) (reverse (map section_of older)) last c.marks.newer c.marks.diff c.join.new.older c.in_ok-all.ensures.inverses
          (c.in_ok-join.ensures.ok ∙ ap (λ d. diff_after c.marks.diff d) c.in_ok-all.ensures.merged)
          (subst (λ ss. Seeking c.args.name.now first all ss last c.marks.newer c.marks.diff)
          (ap (λ xs. reverse (map section_of xs)) c.in-Some.ensures.cases.0 ∙ newest_section older newest) c.marks.invariant.0)
          (λ is. let same = (bytes_eq-Decides c.as_str.result.now c.args.name.now).1 (c.as_str.ensures.bytes ∙ sym is) in
          let tested = c.eq.ensures in absurd (let no : true ≡ false = sym same ∙ sym tested ∙ c.if-eq.false in cc))
          c.join.ensures.plain,
      omega (arith, room, shorter),
    )
