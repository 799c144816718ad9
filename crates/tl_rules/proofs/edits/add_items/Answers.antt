use Rattle.std.proofs.Common.{◌++◌, ◌∙◌, ap}
use Rattle.tl_rules.specs.Ids.{flat}
use Rattle.tl_rules.proofs.EditLemmas.{pushed}
use Rattle.tl_rules.proofs.edits.add_items.Goals as goal

pub returns : goal.returns
returns c =
    pushed c.args.parts.now.items c.push.new.self.items _ c.in_ok-push.ensures.items ∙ ap (λ l. flat c.args.parts.now.items ++ l) c.in_ok-with_hints.ensures
