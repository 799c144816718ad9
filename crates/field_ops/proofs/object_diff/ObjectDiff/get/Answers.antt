use Rattle.std.proofs.Common.{option_map, ap, ◌∙◌}
use Rattle.rooms_val.specs.Maps.{value_at}
use Rattle.field_ops.specs.View.{edit_of}
use Rattle.rooms_val.proofs.MapsLemmas.{option_map-after, value_seen}
use Rattle.field_ops.proofs.SoundLemmas.{rising_ops}
use Rattle.field_ops.proofs.object_diff.ObjectDiff.get.Goals as goal

pub get-requires : goal.get-requires
get-requires c = rw c.deref.ensures.value (rising_ops _ c.self.invariant)

pub returns : goal.returns
returns c =
    option_map-after c.get.result (λ x. x.now) edit_of
    ∙ ap (option_map edit_of) (c.get.ensures ∙ ap (λ es. value_at es c.args.key.now) c.deref.ensures.value)
    ∙ value_seen edit_of _ _ c.self.view_is c.args.key.now
