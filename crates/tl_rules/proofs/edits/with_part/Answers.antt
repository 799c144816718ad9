use Rattle.std.proofs.Common.{◌∙◌}
use Rattle.tl_rules.proofs.EditLemmas.{replaced}
use Rattle.tl_rules.proofs.edits.with_part.Goals as goal

pub returns : goal.returns
returns c =
    c.in_ok-ids.ensures
    ∙ replaced c.args.parts.now c.in_ok-all.all.items c.add_parts.new.all.items c.add_items.new.parts.items c.add_parts-2.new.all.items c.split_at.result.0.now c.split_at.result.1.now c.others_of.result.now c.args.items.items c.args.at
    c.in_ok-all.ensures.items c.in_ok-add_parts.ensures c.in_ok-add_items.ensures c.in_ok-add_parts-2.ensures c.split_at.ensures.front c.split_at.ensures.back c.others_of.ensures
