use Rattle.std.proofs.Common.{map, reverse, refl, sym, ap, subst, ◌∙◌, arith, [], Some}
use Rattle.undo_marks.specs.Histories.{AreTaken, HasNone}
use Rattle.undo_marks.specs.Kept.{diffs_of, section_of, sections_of}
use Rattle.undo_marks.proofs.BackLemmas.{before_all, undoes, undoes_nothing}
use Rattle.undo_marks.proofs.JoinLemmas.{on_err}
use Rattle.undo_marks.proofs.KeptLemmas.{keeps}
use Rattle.undo_marks.proofs.marks.Marks.undo.Goals as goal

pub returns-in_default-clause-diff : goal.returns-in_default-clause-diff
returns-in_default-clause-diff c = λ marks h.
    let old = c.args.self.now in
    sym (undoes_nothing (sections_of old) (diffs_of old.last) marks []
    (subst (λ xs. HasNone (reverse (map section_of xs)) (diffs_of old.last)) c.deref.ensures.value c.in_default.ensures)
    (before_all (sections_of old) (diffs_of old.last) marks.history h.history))

pub returns-in_err-reserve-clause-keeps : goal.returns-in_err-reserve-clause-keeps
returns-in_err-reserve-clause-keeps c =
    on_err _ c.from_residual-in_err-reserve.result (keeps c.args.self.now (record c.args.self.now { undone = c.reserve.new.self }) (record {
      begun = refl;
      settles = λ is. is;
      merges = refl;
      marked = refl;
      marked_len = refl;
      marked_room = omega arith;
      undone = c.reserve.ensures.items;
      undone_len = c.reserve.ensures.len;
      undone_room = c.reserve.ensures.capacity;
    }))

pub returns-clause-diff : goal.returns-clause-diff
returns-clause-diff c = λ marks h.
    let old = c.args.self.now in
    let taken = diffs_of c.in-Some.taken.now in
    ap Some c.in_ok-diff.ensures.merged
    ∙ sym (undoes c.in-Some.dropped (sections_of old) (diffs_of old.last) taken marks []
    (subst (λ xs. AreTaken c.in-Some.dropped (reverse (map section_of xs)) (diffs_of old.last) taken) c.deref.ensures.value c.in-Some.ensures)
    (before_all (sections_of old) (diffs_of old.last) marks.history h.history))

pub returns-clause-begun : goal.returns-clause-begun
returns-clause-begun c =
    let old = c.args.self.now in
    let taken = diffs_of c.in-Some.taken.now in
    let names = c.in_ok-names.ensures.capacity in
    let room = c.in_ok-reserve.ensures.ok in
    record {
      names = c.in_ok-names.names;
      is = refl;
      none = c.in_ok-names.ensures.items;
      dropped = c.in-Some.dropped;
      taken = taken;
      there = subst (λ xs. AreTaken c.in-Some.dropped (reverse (map section_of xs)) (diffs_of old.last) taken) c.deref.ensures.value c.in-Some.ensures;
      for_names = names;
      for_undone = omega (arith, room);
    }
