use Rattle.std.proofs.Common.{sym, ap, ◌∙◌, Some, option_map}
use Rattle.rooms_val.specs.View.{data_of}
use Rattle.migrate_steps.proofs.RowLemmas.{unnested_map, unnested_other, unnested_none}
use Rattle.migrate_steps.proofs.row.unnest.Goals as goal

pub returns-in-Map : goal.returns-in-Map
returns-in-Map c =
    let old = ap (option_map data_of) (sym c.in-Some.is) ∙ c.in_ok-val.ensures.old in
    unnested_map _ _ c.args.keys.now c.args.into.now _ c.as_str.ensures.bytes c.in_ok-val.ensures.ok _ _ _ (sym (ap (λ v. Some (data_of v)) c.in-Map.is) ∙ old) c.in_ok-move_values-in-Map.ensures

pub returns-in_default-val : goal.returns-in_default-val
returns-in_default-val c =
    let old = ap (option_map data_of) (sym c.in-Some.is) ∙ c.in_ok-val.ensures.old in
    unnested_other _ _ c.args.keys.now c.args.into.now _ c.as_str.ensures.bytes c.in_ok-val.ensures.ok _ _ c.in-Some.val c.len.ensures.sound c.in_default-val.not-Map old c.in_ok-copy-in_default-val.ensures c.in_ok-put-in_default-val.ensures.ok

pub returns : goal.returns
returns c = unnested_none _ _ c.args.keys.now c.args.into.now _ c.as_str.ensures.bytes c.in_ok-val.ensures.ok (ap (option_map data_of) (sym c.in_default.is) ∙ c.in_ok-val.ensures.old)
