use Rattle.std.proofs.Common.{sym, ap, ◌∙◌, option_map}
use Rattle.std.specs.Option.{option_map_or}
use Rattle.rooms_val.specs.Maps.{value_at, with_key, without_key}
use Rattle.rooms_val.specs.View.{data_of}
use Rattle.migrate_steps.proofs.RowLemmas.{unchanged}
use Rattle.migrate_steps.proofs.row.move_value.Goals as goal

pub returns-in_default : goal.returns-in_default
returns-in_default c = let none = (ap (option_map data_of) (sym c.in_default.is) ∙ c.in_ok-val.ensures.old) ∙ ap (value_at c.args.from.now) c.as_str.ensures.bytes in
    sym (ap (λ o. option_map_or (λ d. (without_key c.args.from.now c.args.key.now, with_key c.args.to.now c.args.key.now d)) o (c.args.from.now, c.args.to.now)) none)
    ∙ ap (λ ps. (ps, c.args.to.now)) (sym (unchanged _ _ c.args.key.now _ c.as_str.ensures.bytes c.in_ok-val.ensures.ok (ap (option_map data_of) (sym c.in_default.is) ∙ c.in_ok-val.ensures.old)))
