use Rattle.std.proofs.Common.{◌≡◌, ℕ, map, reverse, sym, ap, subst, ◌∙◌, Some, Ok, Err, MatchOption}
use Rattle.std.specs.Option.{option_map_or}
use Rattle.field_ops.specs.RecordOps.{RecordOps}
use Rattle.doc_model.specs.Merging.{merge}
use Rattle.undo_marks.specs.Inverses.{AreInverses}
use Rattle.undo_marks.specs.Histories.{IsLastNamed, NamesNone, inverses_since}
use Rattle.undo_marks.specs.Kept.{diffs_of, section_of, sections_of}
use Rattle.undo_marks.specs.declared.fault.BailFault.TheVariants.{NoMark}
use Rattle.undo_marks.proofs.BackLemmas.{bail_diff_is, bails_nothing}
use Rattle.undo_marks.proofs.marks.Marks.bail.Goals as goal

pub returns-in-Some-clause-diff : goal.returns-in-Some-clause-diff
returns-in-Some-clause-diff c = λ marks h.
    let old = c.args.self.now in
    let name = c.args.name.now in
    let last = diffs_of old.last in
    let first = reverse (map section_of c.deref.result.now) in
    let Q : ℕ × RecordOps → Type 0 = λ found.
    IsLastNamed found.0 name first × (found.1 ≡ merge (inverses_since found.0 first last)) × AreInverses (inverses_since found.0 first last) in
    let found : Q (c.in-Some.newer, c.in-Some.diff) = subst (λ o. MatchOption o (NamesNone name first) Q) c.in-Some.is c.in_ok-newer.ensures in
    let as_kept : first ≡ sections_of old = ap (λ xs. reverse (map section_of xs)) c.deref.ensures.value in
    ap (λ o. option_map_or (λ d. Ok d) o (Err NoMark))
    (bail_diff_is c.in-Some.newer name (sections_of old) last marks (subst (IsLastNamed c.in-Some.newer name) as_kept found.0) h.history (subst (λ ss. AreInverses (inverses_since c.in-Some.newer ss last)) as_kept found.2)
    ∙ ap Some (ap (λ ss. merge (inverses_since c.in-Some.newer ss last)) (sym as_kept) ∙ sym found.1))

pub returns-in-None-clause-diff : goal.returns-in-None-clause-diff
returns-in-None-clause-diff c = λ marks h other.
    let old = c.args.self.now in
    let name = c.args.name.now in
    let last = diffs_of old.last in
    let first = reverse (map section_of c.deref.result.now) in
    let Q : ℕ × RecordOps → Type 0 = λ found.
    IsLastNamed found.0 name first × (found.1 ≡ merge (inverses_since found.0 first last)) × AreInverses (inverses_since found.0 first last) in
    let none : NamesNone name first = subst (λ o. MatchOption o (NamesNone name first) Q) c.in-None.is c.in_ok-newer.ensures in
    let as_kept : first ≡ sections_of old = ap (λ xs. reverse (map section_of xs)) c.deref.ensures.value in
    ap (λ o. option_map_or (λ d. Ok d) o (Err NoMark)) (bails_nothing name (sections_of old) last marks (subst (NamesNone name) as_kept none) h.history)
