use Rattle.std.proofs.Common.{w64, ◌≡◌, rules, refl, sym, ap, ◌∙◌}
use Rattle.std.proofs.lemmas.Int.{to_z-of_z}
use mir.Val.{SFits}
use Rattle.sync_room.proofs.SendLemmas.{sent_message, sent_nothing}
use Rattle.sync_room.proofs.TableLemmas.{stays_in, with_number}
use Rattle.rooms_val.proofs.Truths.{some_there}
use Rattle.sync_room.proofs.room.Room.send.Goals as goal

pub returns-in-Some-clause-step : goal.returns-in-Some-clause-step
returns-in-Some-clause-step g c = λ state s h at.
    let low = c.clock.ensures.low in
    let high = c.clock.ensures.high in
    let fits : SFits w64 c.clock.result = search rules in
    let t = c.reach.ensures s at.here in
    sent_message c.args.self.now _ c.args.key s t.0 _ c.in-Some.message _ (sym c.in-Some.is ∙ c.in_ok-message.ensures.said state s h at.here)
    (to_z-of_z w64 c.clock.result fits ∙ c.clock.ensures.clock) t.1 (record { last = refl; history = refl; sessions = t.2 })

pub returns-in-Some-clause-others : goal.returns-in-Some-clause-others
returns-in-Some-clause-others g c =
    let s = some_there _ c.requires in
    let t = c.reach.ensures s.0 s.1 in
    stays_in c.args.self.now.sessions c.reach.new.self c.args.key s.0 t.0 s.1 (with_number _ _ t.0 t.1) t.2

pub returns-in-None-clause-step : goal.returns-in-None-clause-step
returns-in-None-clause-step g c = λ state s h at.
    sent_nothing c.args.self.now _ c.args.key s _ (sym c.in-None.is ∙ c.in_ok-message.ensures.said state s h at.here) refl
