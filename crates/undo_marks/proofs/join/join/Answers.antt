use Rattle.std.proofs.Common.{◌≡◌, ◌+◌, ◌∷◌, Some, drop, sym, ap, subst, ◌∙◌, arith}
use Rattle.std.proofs.lemmas.List.{drop_all}
use Rattle.rooms_val.specs.Maps.{value_at, with_key}
use Rattle.rooms_val.proofs.ListLemmas.{one_off}
use Rattle.field_ops.specs.ViewRecordOps.{change_of, changes_view}
use Rattle.doc_model.specs.Merging.{both_in_turn, diff_after}
use Rattle.undo_marks.proofs.JoinLemmas.{Joining, joining_first, joining_next, plain_next, plain_found, joined_all, joined_some, on_err}
use Rattle.undo_marks.proofs.join.join.Goals as goal

pub ids-init : goal.ids-init
ids-init c =
    let seen = c.as_slice-id-items.ensures.pairs in
    subst (λ rest. Joining rest c.args.newer.now c.args.older.now c.args.older.now) (sym seen)
    (joining_first c.args.newer.now c.args.older.now c.as_slice-id-items.ensures.sound.0 c.tell_sound.ensures.0 c.requires.older_plain)

pub join_at-requires-clause-older_plain : goal.join_at-requires-clause-older_plain
join_at-requires-clause-older_plain c = plain_found c.ids.older c.as_str.result.now c.get.result c.ids.invariant.plain c.get.ensures

pub join_at-requires-clause-newer_plain : goal.join_at-requires-clause-newer_plain
join_at-requires-clause-newer_plain c =
    let s = c.as_slice-id-items.result.now in
    let i = c.ids.id-index in
    let x = c.ids-item.result in
    let left = drop (i + 1) s in
    let parts : drop i s ≡ x ∷ left = one_off s i x c.ids-test.true c.ids-item.is in
    plain_next (x.0, change_of x.1) (changes_view left) c.args.newer.now c.args.older.now c.ids.older
    (subst (λ l. Joining (changes_view l) c.args.newer.now c.args.older.now c.ids.older) parts c.ids.invariant) c.requires.newer_plain

pub ids-preserved : goal.ids-preserved
ids-preserved c =
    let s = c.as_slice-id-items.result.now in
    let i = c.ids.id-index in
    let x = c.ids-item.result in
    let now = c.ids.older in
    let op = change_of c.in_ok-both.both in
    let left = drop (i + 1) s in
    let parts : drop i s ≡ x ∷ left = one_off s i x c.ids-test.true c.ids-item.is in
    joining_next (x.0, change_of x.1) (changes_view left) c.args.newer.now c.args.older.now now
    (subst (λ l. Joining (changes_view l) c.args.newer.now c.args.older.now now) parts c.ids.invariant) op c.put.new.self
    (c.in_ok-both.ensures.both ∙ ap (λ o. both_in_turn (Some (change_of x.1)) o) (c.get.ensures ∙ ap (value_at now) c.as_str.ensures.bytes))
    c.in_ok-both.ensures.plain (c.in_ok-put.ensures.ok ∙ ap (λ k. with_key now k op) c.in_ok-copy.ensures)

pub returns-clause-ok : goal.returns-clause-ok
returns-clause-ok c =
    let s = c.as_slice-id-items.result.now in
    joined_all c.args.newer.now c.args.older.now c.ids.older c.as_slice-id-items.ensures.sound.0
    (subst (λ l. Joining (changes_view l) c.args.newer.now c.args.older.now c.ids.older) (drop_all c.ids.id-index s (omega arith)) c.ids.invariant)

pub returns-in_err-both-clause-err : goal.returns-in_err-both-clause-err
returns-in_err-both-clause-err c =
    on_err _ c.from_residual.result
    (joined_some (changes_view (drop c.ids.id-index c.as_slice-id-items.result.now)) c.args.newer.now c.args.older.now c.ids.older (c.as_slice-id-items.ensures.sound, c.requires.newer_plain) c.requires.older_plain c.ids.invariant)

pub returns-in_err-copy-clause-err : goal.returns-in_err-copy-clause-err
returns-in_err-copy-clause-err c =
    on_err _ c.from_residual-in_err-copy.result
    (joined_some (changes_view (drop c.ids.id-index c.as_slice-id-items.result.now)) c.args.newer.now c.args.older.now c.ids.older (c.as_slice-id-items.ensures.sound, c.requires.newer_plain) c.requires.older_plain c.ids.invariant)

pub returns-in_err-put-clause-err : goal.returns-in_err-put-clause-err
returns-in_err-put-clause-err c =
    on_err _ c.from_residual-in_err-put.result
    (ap (λ d. diff_after c.args.newer.now d) c.in_err-put.ensures.err
    ∙ joined_some (changes_view (drop c.ids.id-index c.as_slice-id-items.result.now)) c.args.newer.now c.args.older.now c.ids.older (c.as_slice-id-items.ensures.sound, c.requires.newer_plain) c.requires.older_plain c.ids.invariant)
