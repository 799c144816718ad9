use Rattle.std.proofs.Common.{is_ok, sym, ap, ◌∙◌}
use Rattle.std.specs.List.{list_all}
use Rattle.std.proofs.lemmas.Bool.{false≢true}
use Rattle.tl_tables.proofs.Built.{sequence_scales, all_scale, tables_scale, built_is, seen}
use Rattle.tl_tables.proofs.Whole.{fits}
use Rattle.tl_tables.proofs.migrations.sequences.Goals as goal

pub build-requires : goal.build-requires
build-requires c =
    let is = seen c.args.version c.in_ok-list.list.items c.drop_empty.new.list.items _ _ _ _ _ c.in_ok-list.ensures.items c.in_ok-asset.ensures c.in_ok-base.ensures c.in_ok-binding.ensures c.in_ok-page.ensures c.in_ok-shape.ensures c.drop_empty.ensures in
    all_scale c.drop_empty.new.list.items ∙ ap (list_all sequence_scales) is ∙ tables_scale c.args.version

pub returns-in-Ok : goal.returns-in-Ok
returns-in-Ok c =
    let is = seen c.args.version c.in_ok-list.list.items c.drop_empty.new.list.items _ _ _ _ _ c.in_ok-list.ensures.items c.in_ok-asset.ensures c.in_ok-base.ensures c.in_ok-binding.ensures c.in_ok-page.ensures c.in_ok-shape.ensures c.drop_empty.ensures in
    built_is c.args.version c.drop_empty.new.list.items _ is c.in-Ok.ensures.answer

pub prove-unreachable-requires : goal.prove-unreachable-requires
prove-unreachable-requires c =
    let is = seen c.args.version c.in_ok-list.list.items c.drop_empty.new.list.items _ _ _ _ _ c.in_ok-list.ensures.items c.in_ok-asset.ensures c.in_ok-base.ensures c.in_ok-binding.ensures c.in_ok-page.ensures c.in_ok-shape.ensures c.drop_empty.ensures in
    let refused = c.in-Err.ensures.answer (λ memory. false≢true (c.if-prove.ensures.1 memory)) in
    false≢true (sym (ap is_ok refused) ∙ fits c.args.version c.drop_empty.new.list.items is)
