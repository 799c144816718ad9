use Rattle.std.proofs.Common.{option_map, sym, ap, subst, refl, ◌∙◌}
use Rattle.rooms_val.specs.Data.{IsSound, map, members_of}
use Rattle.rooms_val.specs.View.{data_of, pairs_view}
use Rattle.rooms_val.proofs.MapsLemmas.{seen-with_key, value_seen, with_key_seen}
use Rattle.rooms_val.proofs.DataLemmas.{rising_from_sound, sound-with_key}
use Rattle.rooms_val.proofs.fields.put_in.Goals as goal

pub put-requires : goal.put-requires
put-requires c = rising_from_sound _ c.requires.map

pub returns-clause-sound : goal.returns-clause-sound
returns-clause-sound c =
    subst (λ ps. IsSound (map (members_of ps))) (sym (ap pairs_view c.in_ok-old.ensures.ok ∙ seen-with_key data_of c.args.entries.now.items c.args.key c.args.val)) (sound-with_key _ c.args.key (data_of c.args.val) c.requires.map c.requires.val)

pub returns-clause-old : goal.returns-clause-old
returns-clause-old c = ap (option_map data_of) c.in_ok-old.ensures.old ∙ value_seen data_of _ _ refl c.args.key

pub returns-clause-ok : goal.returns-clause-ok
returns-clause-ok c = ap pairs_view c.in_ok-old.ensures.ok ∙ with_key_seen data_of _ _ refl c.args.key c.args.val
