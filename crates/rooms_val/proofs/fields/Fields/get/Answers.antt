use Rattle.std.proofs.Common.{option_map, sym, ap, subst, ◌∙◌}
use Rattle.rooms_val.specs.Data.{IsSound, map, members_of}
use Rattle.rooms_val.specs.View.{data_of}
use Rattle.rooms_val.proofs.MapsLemmas.{option_map-after, value_seen}
use Rattle.rooms_val.proofs.DataLemmas.{rising_from_sound}
use Rattle.rooms_val.proofs.fields.Fields.get.Goals as goal

pub get-requires : goal.get-requires
get-requires c = rising_from_sound _ (subst (λ ps. IsSound (map (members_of ps))) (sym c.as_slice.ensures.pairs) c.as_slice.ensures.sound)

pub returns : goal.returns
returns c =
    option_map-after c.get.result (λ v. v.now) data_of
    ∙ ap (option_map data_of) c.get.ensures
    ∙ value_seen data_of _ _ c.as_slice.ensures.pairs c.args.key.now
