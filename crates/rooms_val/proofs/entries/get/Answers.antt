use Rattle.std.proofs.Common.{sym}
use Rattle.rooms_val.proofs.PlacesLemmas.{find_at_place, find_in_gap}
use Rattle.rooms_val.proofs.entries.get.Goals as goal

pub returns-in-Ok : goal.returns-in-Ok
returns-in-Ok g c = sym (find_at_place c.args.entries.now c.args.key.now _ _ c.in-Ok.ensures.found)

pub returns-in-Err : goal.returns-in-Err
returns-in-Err g c = sym (find_in_gap c.args.entries.now c.args.key.now _ c.in-Err.ensures.absent)
