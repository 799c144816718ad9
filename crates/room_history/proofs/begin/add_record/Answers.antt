use Rattle.std.proofs.Common.{◌≡◌, Some, sym, ap, subst, ◌∙◌, rules, w64, to_z, of_z}
use Rattle.std.specs.Prelude.{option_map}
use Rattle.std.proofs.lemmas.Int.{to_z-of_z}
use Rattle.rooms_val.specs.View.{data_of}
use Rattle.room_model.specs.Saves.{own_id}
use Rattle.field_ops.specs.RecordOps.{put}
use Rattle.room_history.proofs.DiffLemmas.{IsWith, recorded}
use Rattle.room_history.proofs.begin.add_record.Goals as goal

pub returns-clause-diffs : goal.returns-clause-diffs
returns-clause-diffs c n =
    let saved = c.args.saved.now in
    let own : own_id saved ≡ Some c.in-Some.id.now = sym c.own_id.ensures ∙ ap (option_map (λ t. t.now)) c.in-Some.is in
    let fits : to_z w64 (of_z w64 saved.clock) ≡ saved.clock = to_z-of_z w64 saved.clock (search rules) in
    let with_it : IsWith saved.clock c.in_ok-id.id (put (data_of c.in_ok-record.record)) c.args.diffs.now c.add.new.diffs =
    subst (λ z. IsWith z c.in_ok-id.id (put (data_of c.in_ok-record.record)) c.args.diffs.now c.add.new.diffs) fits
    (record { at = c.in_ok-add.ensures.at; elsewhere = c.in_ok-add.ensures.elsewhere }) in
    recorded saved c.in_ok-id.id (put (data_of c.in_ok-record.record)) c.args.diffs.now c.add.new.diffs with_it c.requires
    (own ∙ ap Some (sym c.in_ok-id.ensures)) (ap put c.in_ok-record.ensures) n
