use Rattle.std.proofs.Common.{◌∙◌, ◌++◌, ap, drop, arith}
use Rattle.std.proofs.lemmas.List.{drop_all}
use Rattle.tl_rules.proofs.MergeLemmas.{rest_from, left_ended, right_ended}
use Rattle.tl_rules.proofs.bound.merge.Goals as goal
use Rattle.tl_rules.proofs.bound.merge.Goals.{then-both-test+else-j-right, else-both-test}

pub returns : goal.returns
returns c =
    c.in_ok-merged.ensures
    ∙ elim c.both-test.branch [
      | then-both-test+else-j-right w ↦ right_ended c.both.ids.items (drop c.both.i c.args.left.now) (drop c.both.j c.args.right.now) c.add_all.new.ids.items c.add_all-2.new.ids.items (c.in_ok-add_all.ensures ∙ ap (λ l. c.both.ids.items ++ l) (rest_from c.args.left.now c.both.i)) (c.in_ok-add_all-2.ensures ∙ ap (λ l. c.add_all.new.ids.items ++ l) (rest_from c.args.right.now c.both.j)) (drop_all c.both.j c.args.right.now (omega arith))
      | else-both-test w ↦ left_ended c.both.ids.items (drop c.both.i c.args.left.now) (drop c.both.j c.args.right.now) c.add_all.new.ids.items c.add_all-2.new.ids.items (c.in_ok-add_all.ensures ∙ ap (λ l. c.both.ids.items ++ l) (rest_from c.args.left.now c.both.i)) (c.in_ok-add_all-2.ensures ∙ ap (λ l. c.add_all.new.ids.items ++ l) (rest_from c.args.right.now c.both.j)) (drop_all c.both.i c.args.left.now (omega arith))
    ]
    ∙ c.both.invariant.0
