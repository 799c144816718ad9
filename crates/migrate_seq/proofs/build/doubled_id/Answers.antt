use Rattle.std.proofs.Common.{◌∙◌, sym, ap, take, drop, Some, add-one, arith}
use Rattle.std.specs.List.{list_any}
use Rattle.std.specs.Str.{bytes_eq}
use Rattle.migrate_seq.specs.Builds.{doubled_after}
use Rattle.migrate_seq.proofs.BuildLemmas.{doubled_past, doubled_found}
use Rattle.migrate_seq.proofs.build.doubled_id.Goals as goal

pub returns-then-is_among : goal.returns-then-is_among
returns-then-is_among c =
    let at = c.loop-place.place in
    let list = c.args.list.now in
    let x = c.index-list-place.result in
    let is = c.index-list-place.is in
    let found = ap (λ y. list_any (λ t. bytes_eq t.id y.id) (take at list)) (sym is) ∙ sym c.is_among.ensures ∙ c.if-is_among.true in
    ap (λ y. Some y.id) is ∙ sym (c.loop-place.invariant ∙ doubled_found list at x (omega arith) found)

pub loop-place-preserved : goal.loop-place-preserved
loop-place-preserved c =
    let at = c.loop-place.place in
    let list = c.args.list.now in
    let x = c.index-list-place.result in
    let none = ap (λ y. list_any (λ t. bytes_eq t.id y.id) (take at list)) (sym c.index-list-place.is) ∙ sym c.is_among.ensures ∙ c.if-is_among.false in
    c.loop-place.invariant ∙ doubled_past list at x (omega arith) none ∙ ap (λ i. doubled_after (take i list) (drop i list)) (sym (add-one at))
