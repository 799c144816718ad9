use Rattle.std.proofs.Common.{option_map, sym, ap, ◌∙◌}
use Rattle.rooms_val.specs.View.{data_of}
use Rattle.migrate_steps.specs.Steps.{at_path, row}
use Rattle.migrate_steps.proofs.RowLemmas.{at_end, at_key, at_no_map, changed_some, changed_none}
use Rattle.migrate_steps.proofs.row.+walk.Goals as goal

pub returns-in_ok-change-in-empty : goal.returns-in_ok-change-in-empty
returns-in_ok-change-in-empty t c = at_end _ _ _ _ _ c.in-Map.is c.in-empty.len_below c.in_ok-change-in-empty.ensures

pub returns-in_ok-put-in-Some : goal.returns-in_ok-put-in-Some
returns-in_ok-put-in-Some t c =
    let old = ap (option_map data_of) (sym c.in-Some.is) ∙ c.in_ok-inner-in-len1-up.ensures.old in
    at_key _ _ _ _ _ _ c.in-Map.is c.in-len1-up.len_at_least c.key-item.is
    (changed_some _ _ _ _ c.as_str.ensures.bytes c.in_ok-inner-in-len1-up.ensures.ok _ _ (at_path _ (row c.args.way c.args.step.now)) _ _ c.len.ensures.sound old c.in_ok-copy-in-Some.ensures c.in_ok-put-in-Some.ensures.ok c.in_ok-after-in-Some.ensures)

pub returns-in-None : goal.returns-in-None
returns-in-None t c =
    at_key _ _ _ _ _ _ c.in-Map.is c.in-len1-up.len_at_least c.key-item.is
    (changed_none _ _ _ _ c.as_str.ensures.bytes c.in_ok-inner-in-len1-up.ensures.ok (at_path _ (row c.args.way c.args.step.now)) (ap (option_map data_of) (sym c.in-None.is) ∙ c.in_ok-inner-in-len1-up.ensures.old))

pub returns-in_default : goal.returns-in_default
returns-in_default t c = at_no_map _ _ _ c.in_default.not-Map
