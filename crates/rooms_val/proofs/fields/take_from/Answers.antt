use Rattle.std.proofs.Common.{option_map, sym, ap, subst, refl, ◌∙◌}
use Rattle.rooms_val.specs.Data.{IsSound, map, members_of}
use Rattle.rooms_val.specs.View.{data_of, pairs_view}
use Rattle.rooms_val.proofs.MapsLemmas.{seen-without_key, value_seen, without_key_seen}
use Rattle.rooms_val.proofs.DataLemmas.{rising_from_sound, sound-without_key}
use Rattle.rooms_val.proofs.fields.take_from.Goals as goal

pub take-requires : goal.take-requires
take-requires c = rising_from_sound _ c.requires

pub returns-clause-sound : goal.returns-clause-sound
returns-clause-sound c =
    let left = ap pairs_view c.take.ensures.rest ∙ seen-without_key data_of c.args.entries.now.items c.args.key.now in
    subst (λ ps. IsSound (map (members_of ps))) (sym left) (sound-without_key _ c.args.key.now c.requires)

pub returns-clause-old : goal.returns-clause-old
returns-clause-old c = ap (option_map data_of) c.take.ensures.old ∙ value_seen data_of _ _ refl c.args.key.now

pub returns-clause-rest : goal.returns-clause-rest
returns-clause-rest c = ap pairs_view c.take.ensures.rest ∙ without_key_seen data_of _ _ refl c.args.key.now
