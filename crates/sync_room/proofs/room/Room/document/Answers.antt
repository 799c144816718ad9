use Rattle.std.proofs.Common.{◌≡◌, true, false, sym, ap, subst, ◌∙◌}
use Rattle.std.proofs.lemmas.Result.{IfOk-weaker}
use Rattle.rooms_val.specs.Data.{map, members_of}
use Rattle.rooms_val.specs.Maps.{AreRising}
use Rattle.rooms_val.specs.View.{data_of}
use Rattle.rooms_val.specs.declared.val.Val.{Val}
use Rattle.room_model.specs.Histories.{records_of}
use Rattle.room_model.specs.Rooms as model
use Rattle.room_model.specs.Schemas.{records_with}
use Rattle.room_model.proofs.BaseLemmas.{rising-records}
use Rattle.schema_core.specs.Admits.{is_document}
use Rattle.sync_room.specs.Standing.{Stands, tree_of}
use Rattle.sync_room.proofs.room.Room.document.Goals as goal

pub returns : goal.returns
returns c =
    let all = c.args.self.now.history.kept.records.0 in
    let test = is_document (tree_of c.args.self.now) in
    IfOk-weaker c.records_of.result (λ (v : Val). AreRising all → data_of v ≡ map (members_of (records_with test all)))
    (λ (v : Val). (state : model.Room) → Stands state c.args.self.now → data_of v ≡ map (members_of (records_with test (records_of state.history))))
    (λ v is state stands.
    let kept = ap (λ r. r.0) stands.agrees.history.records in
    is (subst AreRising (sym kept) (rising-records state.history)) ∙ ap (λ m. map (members_of (records_with test m))) kept)
    c.records_of.ensures
