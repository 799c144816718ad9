use Rattle.std.proofs.Common.{◌≡◌, Bool, Some, None, is_some, refl, sym, ap, subst, ◌∙◌}
use Rattle.rooms_val.specs.Maps.{value_at}
use Rattle.schema_core.specs.SchemaOf.{schema_tree}
use Rattle.room_model.specs.Rooms as model
use Rattle.room_model.specs.Schemas.{presence_id}
use Rattle.room_history.specs.Keeps.{Keeps}
use Rattle.sync_room.specs.Sessions.{ended_by}
use Rattle.sync_room.proofs.TableLemmas.{stays_in}
use Rattle.rooms_val.proofs.Truths.{some_there}
use Rattle.sync_room.proofs.RoomLemmas.{after_removal, closed, present_as}
use Rattle.sync_room.proofs.room.Room.end.Goals as goal

pub returns-in-None-clause-ended : goal.returns-in-None-clause-ended
returns-in-None-clause-ended c = λ state s h at.
    let kept = (h.sessions.kept c.args.key s at.here).unended at.unended in
    let got = (c.end.ensures s at.here).0 in
    let none = c.in-None.is in
    let has = kept.1 in
    absurd (cc)

pub returns-in-None-clause-others : goal.returns-in-None-clause-others
returns-in-None-clause-others c =
    let s = some_there _ c.requires in
    stays_in c.args.self.now.sessions c.end.new.self c.args.key s.0 (ended_by c.args.reason s.0) s.1 refl (c.end.ensures s.0 s.1).1

pub returns-in-Some-clause-ended : goal.returns-in-Some-clause-ended
returns-in-Some-clause-ended c = λ state s h at.
    let kept = (h.sessions.kept c.args.key s at.here).unended at.unended in
    let got = c.end.ensures s at.here in
    let same : c.in-Some.removal ≡ kept.0 = let is = c.in-Some.is in let has = kept.1 in let was = got.0 in cc in
    let number : c.in-Some.removal.session ≡ s.number = ap (λ r. r.session) same ∙ kept.2 in
    let present : c.remove_presence.result ≡ model.is_present s.number state =
    c.remove_presence.ensures.was_there ∙ ap (λ n. is_some (value_at c.args.self.now.history.kept.records.0 (presence_id n))) number ∙ present_as state c.args.self.now s.number h in
    let keeps = subst (λ n. Keeps state.first (after_removal c.remove_presence.result n state.history) c.remove_presence.new.self.kept) number (c.remove_presence.ensures.keeps state.first state.history h.history) in
    (present, closed state c.args.self.now _ c.args.key s h at.here c.remove_presence.result present refl (ap schema_tree c.remove_presence.ensures.schema) keeps c.args.reason got.1)

pub returns-in-Some-clause-others : goal.returns-in-Some-clause-others
returns-in-Some-clause-others c =
    let s = some_there _ c.requires in
    stays_in c.args.self.now.sessions c.end.new.self c.args.key s.0 (ended_by c.args.reason s.0) s.1 refl (c.end.ensures s.0 s.1).1
