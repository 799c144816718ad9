use Rattle.std.proofs.Common.{sym, ap, subst, ◌∙◌}
use Rattle.rooms_val.specs.Data.{IsSound, map, members_of}
use Rattle.rooms_val.proofs.DataLemmas.{rising_from_sound}
use Rattle.clip_content.specs.Pasted.{place_in}
use Rattle.clip_content.proofs.PlaceLemmas.{place_found, place_missed}
use Rattle.clip_content.proofs.new_ids.place_in.Goals as goal

pub place_of-requires : goal.place_of-requires
place_of-requires c = rising_from_sound c.as_slice.result.now (subst (λ ps. IsSound (map (members_of ps))) (sym c.as_slice.ensures.pairs) c.as_slice.ensures.sound)

pub returns-in-Ok : goal.returns-in-Ok
returns-in-Ok c = sym (place_found c.as_slice.result.now c.args.id.now c.in-Ok.place c.in-Ok.ensures.found) ∙ ap (λ m. place_in m c.args.id.now) c.as_slice.ensures.pairs

pub returns-in-Err : goal.returns-in-Err
returns-in-Err c = sym (place_missed c.as_slice.result.now c.args.id.now c.in-Err.place c.in-Err.ensures.absent) ∙ ap (λ m. place_in m c.args.id.now) c.as_slice.ensures.pairs
