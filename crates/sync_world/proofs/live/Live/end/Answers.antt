use Rattle.std.proofs.Common.{◌∙◌, ap, sym}
use Rattle.std.proofs.Common.{w64, rules}
use mir.Val.{SFits}
use Rattle.std.proofs.lemmas.Int.{to_z-of_z}
use Rattle.rooms_val.specs.Data.{map, members_of}
use Rattle.room_model.specs.Schemas.{doc, pres, records_with}
use Rattle.room_model.specs.Histories.{records_of}
use Rattle.room_model.specs.Schemas.{WorldSchemas}
use Rattle.room_model.specs.declared.line.OutLine.TheVariants as line
use Rattle.side_effects.specs.declared.fault.EditFault.{EditFault}
use Rattle.sync_world.proofs.EventLemmas.{end_done}
use Rattle.sync_world.proofs.ShowLemmas.{map_is}
use Rattle.sync_world.proofs.live.Live.end.Goals as goal

pub returns : goal.returns
returns c schemas world keeps =
    let m = records_of world.room.history in
    let decided = sym keeps.fits.decided in
    let range : SFits w64 c.clock.result = search rules in
    let clock = to_z-of_z w64 c.clock.result range ∙ c.clock.ensures world.room keeps.fits.room in
    let document = map_is c.in_ok-document.field-0 (doc schemas.room m) (c.in_ok-document.ensures world.room keeps.fits.room ∙ ap (λ (s : WorldSchemas EditFault). map (members_of (records_with s.room.is_document m))) decided) in
    let presence = map_is c.in_ok-presence.field-0 (pres schemas.room m) (c.in_ok-presence.ensures world.room keeps.fits.room ∙ ap (λ (s : WorldSchemas EditFault). map (members_of (records_with s.room.is_presence m))) decided) in
    end_done schemas world c.args.self.now keeps _ c.in_ok-one_line.field-0 (λ i. line.End (clock i) (document i) (presence i)) c.in_ok-one_line.ensures
