use Rattle.std.proofs.Common.{option_map, sym, ap, ◌∙◌}
use Rattle.rooms_val.specs.View.{data_of}
use Rattle.migrate_steps.specs.Steps.{divided}
use Rattle.migrate_steps.proofs.RowLemmas.{changed_some, changed_none}
use Rattle.migrate_steps.proofs.row.scale_down.Goals as goal

pub returns-in_ok-put : goal.returns-in_ok-put
returns-in_ok-put c =
    let old = ap (option_map data_of) (sym c.in-Some.is) ∙ c.in_ok-val.ensures.old in
    changed_some _ _ c.args.key.now _ c.as_str.ensures.bytes c.in_ok-val.ensures.ok _ _ (divided c.args.factor) _ _ c.len.ensures.sound old c.in_ok-copy.ensures c.in_ok-put.ensures.ok c.divided_val.ensures

pub returns-in_default : goal.returns-in_default
returns-in_default c = changed_none _ _ c.args.key.now _ c.as_str.ensures.bytes c.in_ok-val.ensures.ok (divided c.args.factor) (ap (option_map data_of) (sym c.in_default.is) ∙ c.in_ok-val.ensures.old)
