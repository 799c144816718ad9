use Rattle.std.proofs.Common.{map, ap, ◌∙◌, rules}
use Rattle.std.proofs.lemmas.Fn.{filter_same}
use Rattle.tl_tables.specs.Trees.{sequence_tree}
use Rattle.tl_tables.proofs.Built.{is_filled, filled_seen}
use Rattle.tl_tables.proofs.migrations.drop_empty.Goals as goal

pub returns : goal.returns
returns c = ap (map sequence_tree) (filter_same _ is_filled _ (λ x b f' k. search rules) _ _ c.retain.ensures.filtered) ∙ filled_seen c.args.list.now.items
