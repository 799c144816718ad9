use Rattle.std.proofs.Common.{◌∙◌}
use Rattle.tl_rules.proofs.EditLemmas.{pushed_twice}
use Rattle.tl_rules.proofs.edits.add_halves.Goals as goal

pub returns : goal.returns
returns c =
    pushed_twice c.args.parts.now.items c.push.new.self.items c.push-2.new.self.items _ _ c.args.items.items _ c.in_ok-push.ensures.items c.in_ok-push-2.ensures.items
    (c.in_ok-with_hints.ensures ∙ c.in_ok-back.ensures.items) (c.in_ok-with_hints-2.ensures ∙ c.in_ok-back.ensures.tail)
