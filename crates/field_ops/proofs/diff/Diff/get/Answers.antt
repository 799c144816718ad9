use Rattle.std.proofs.Common.{option_map, ap, ◌∙◌}
use Rattle.rooms_val.specs.Maps.{value_at}
use Rattle.field_ops.specs.ViewRecordOps.{change_of}
use Rattle.rooms_val.proofs.MapsLemmas.{option_map-after, value_seen}
use Rattle.field_ops.proofs.SoundLemmas.{rising_records}
use Rattle.field_ops.proofs.diff.Diff.get.Goals as goal

pub get-requires : goal.get-requires
get-requires c = rw c.deref.ensures.value (rising_records _ c.self.invariant)

pub returns : goal.returns
returns c =
    option_map-after c.get.result (λ x. x.now) change_of
    ∙ ap (option_map change_of) (c.get.ensures ∙ ap (λ es. value_at es c.args.id.now) c.deref.ensures.value)
    ∙ value_seen change_of _ _ c.self.view_is c.args.id.now
