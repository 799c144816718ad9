use Rattle.std.proofs.Common.{option_map, sym, ap, ◌∙◌}
use Rattle.rooms_val.specs.Maps.{value_at}
use Rattle.rooms_val.proofs.MapsLemmas.{at-seen, option_map-after}
use Rattle.schema_core.specs.View.{type_tree}
use Rattle.schema_core.proofs.schema.Schema.type_named.Goals as goal

pub get-requires : goal.get-requires
get-requires c = rw c.deref.ensures.value c.args.self.now.rising

pub returns : goal.returns
returns c =
    option_map-after c.get.result (λ t. t.now) type_tree
    ∙ ap (option_map type_tree) (c.get.ensures ∙ ap (λ es. value_at es c.args.name.now) c.deref.ensures.value)
    ∙ sym (at-seen type_tree c.args.self.now.types.items c.args.name.now)
