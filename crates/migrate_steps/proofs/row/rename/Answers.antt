use Rattle.std.proofs.Common.{ap, ◌∙◌, option_map, sym}
use Rattle.std.specs.Option.{option_map_or}
use Rattle.rooms_val.specs.Maps.{value_at, with_key, without_key}
use Rattle.rooms_val.specs.View.{data_of}
use Rattle.migrate_steps.proofs.RowLemmas.{unchanged}
use Rattle.migrate_steps.proofs.row.rename.Goals as goal

pub returns-in_default : goal.returns-in_default
returns-in_default c =
    let none = (ap (option_map data_of) (sym c.in_default.is) ∙ c.in_ok-val.ensures.old) ∙ ap (value_at c.args.fields.now) c.as_str.ensures.bytes in
    unchanged _ _ c.args.old.now _ c.as_str.ensures.bytes c.in_ok-val.ensures.ok (ap (option_map data_of) (sym c.in_default.is) ∙ c.in_ok-val.ensures.old)
    ∙ ap (λ o. option_map_or (λ d. with_key (without_key c.args.fields.now c.args.old.now) c.args.new.now d) o c.args.fields.now) none
