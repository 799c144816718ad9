use Rattle.std.proofs.Common.{◌≡◌, Err, false, refl, sym, subst, ◌∙◌}
use Rattle.std.proofs.lemmas.Result.{err_from_is_err_and}
use Rattle.room_model.specs.Worlds.{after_event}
use Rattle.sync_world.specs.Answers.{StepsTo}
use Rattle.sync_world.specs.Standing.{Stands}
use Rattle.make_job.specs.Made.{with_outcome, asking_client, after_asking}
use Rattle.make_job.specs.Making.{IsMaking, AddsFront}
use Rattle.make_job.proofs.MadeLemmas.{taken_makes, taken_front, refused_makes, refuses, outcome_grows, adds_whole}
use Rattle.make_job.proofs.making.Making.take.Goals as goal

pub note_taken-requires : goal.note_taken-requires
note_taken-requires g c = record { taken = c.requires.place.taken; refused = c.requires.place.refused; sessions = c.requires.place.sessions; last = c.requires.place.last }

pub leave_out-requires : goal.leave_out-requires
leave_out-requires g c = record { taken = c.requires.place.taken; refused = c.requires.place.refused; sessions = c.requires.place.sessions; last = c.requires.place.last }

pub returns-in_err-line-clause-err : goal.returns-in_err-line-clause-err
returns-in_err-line-clause-err g c =
    let p = err_from_is_err_and c.from_residual.result c.from_residual.ensures.1 in
    let held = g.K.Sink.held c.args.sink.now in
    rw p.1 (λ schemas m old making.
    let outcome = after_event schemas false m.world c.args.event in
    adds_whole m.text (with_outcome c.args.print m c.args.event outcome).text old held making.written (outcome_grows c.args.print m c.args.event outcome))

pub returns-in-Ok-clause-ok : goal.returns-in-Ok-clause-ok
returns-in-Ok-clause-ok g c = λ schemas m old making.
    let held = g.K.Sink.held in
    let print = c.args.print in
    let e = c.args.event in
    let outcome = after_event schemas false m.world e in
    let after = c.note_taken.new.self in
    let steps = subst (λ r. StepsTo schemas m.world outcome r c.step.new.self) c.in-Ok.is (c.step.ensures.step schemas m.world making.world) in
    let asks : c.asking_client-asking.result ≡ asking_client e = c.asking_client-asking.ensures in
    subst (λ o. IsMaking schemas (with_outcome print m e o) after old (held c.write_all.new.sink)) (sym steps.1)
    (taken_makes print schemas m e steps.0 c.args.self.now after c.deref.result.now old (held c.args.sink.now) (held c.write_all.new.sink) making
    (subst (Stands schemas steps.0.world) (sym c.note_taken.ensures.world) steps.3) c.note_taken.ensures.refused c.note_taken.ensures.taken
    (λ n sessions last. subst (λ o. (after.sessions ≡ (after_asking n o).sessions) × (after.last ≡ (after_asking n o).last)) asks (c.note_taken.ensures.asked n sessions last))
    (c.deref.ensures.value ∙ c.in_ok-line.ensures c.requires.ready.printable) c.in_ok-write_all-in-Ok.ensures.held)

pub returns-in-Ok-clause-place : goal.returns-in-Ok-clause-place
returns-in-Ok-clause-place g c = λ more place.
    c.note_taken.ensures.place more (record { taken = place.taken; refused = place.refused; sessions = place.sessions; last = place.last })

pub returns-in_err-write_all-in-Ok-clause-err : goal.returns-in_err-write_all-in-Ok-clause-err
returns-in_err-write_all-in-Ok-clause-err g c =
    let p = err_from_is_err_and c.from_residual-in_err-write_all-in-Ok.result c.from_residual-in_err-write_all-in-Ok.ensures.1 in
    let held = g.K.Sink.held in
    let print = c.args.print in
    let e = c.args.event in
    let took = c.in_err-write_all-in-Ok.ensures.front in
    rw p.1 (λ schemas m old making.
    let outcome = after_event schemas false m.world e in
    let steps = subst (λ r. StepsTo schemas m.world outcome r c.step.new.self) c.in-Ok.is (c.step.ensures.step schemas m.world making.world) in
    subst (λ o. AddsFront (with_outcome print m e o).text old (held c.write_all.new.sink)) (sym steps.1)
    (taken_front print schemas m e steps.0 c.args.self.now took.0 c.deref.result.now old (held c.args.sink.now) (held c.write_all.new.sink) making
    (c.deref.ensures.value ∙ c.in_ok-line.ensures c.requires.ready.printable) took.1))

pub returns-clause-ok : goal.returns-clause-ok
returns-clause-ok g c = λ schemas m old making.
    let held = g.K.Sink.held c.args.sink.now in
    let print = c.args.print in
    let e = c.args.event in
    let f = c.in-Err.fault in
    let outcome = after_event schemas false m.world e in
    let after = c.leave_out.new.self in
    let left = c.in_ok-leave_out-in-Err.ensures in
    let steps = subst (λ r. StepsTo schemas m.world outcome r c.step.new.self) c.in-Err.is (c.step.ensures.step schemas m.world making.world) in
    let told = refuses schemas m.world outcome f c.step.new.self left.0 steps in
    subst (λ o. IsMaking schemas (with_outcome print m e o) after old held) (sym told.0)
    (subst (λ a. IsMaking schemas (with_outcome print m e (Err f)) a old held) (sym left.1)
    (refused_makes print schemas m e f c.args.self.now _ old held making told.1 refl refl refl refl))

pub returns-in_err-leave_out-in-Err-clause-err : goal.returns-in_err-leave_out-in-Err-clause-err
returns-in_err-leave_out-in-Err-clause-err g c =
    let p = err_from_is_err_and c.from_residual-in_err-leave_out-in-Err.result c.from_residual-in_err-leave_out-in-Err.ensures.1 in
    let held = g.K.Sink.held c.args.sink.now in
    rw p.1 (λ schemas m old making.
    let outcome = after_event schemas false m.world c.args.event in
    adds_whole m.text (with_outcome c.args.print m c.args.event outcome).text old held making.written (outcome_grows c.args.print m c.args.event outcome))
