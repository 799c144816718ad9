use Rattle.std.proofs.Common.{sym, subst}
use Rattle.std.proofs.lemmas.Result.{on_ok_weaker}
use Rattle.room_model.specs.Worlds.{with_pushing}
use Rattle.sync_world.specs.States.{client_state}
use Rattle.sync_world.specs.Standing.{Fits}
use Rattle.sync_world.proofs.PartLemmas.{client_is}
use Rattle.sync_world.proofs.BackLemmas.{more_all, more_none, fits_none}
use Rattle.sync_world.proofs.live.Live.push_more.Goals as goal

pub returns-then-owed-clause-pushed : goal.returns-then-owed-clause-pushed
returns-then-owed-clause-pushed c = on_ok_weaker c.push.result
    (λ pushed schemas world client fits made.
    let kept = client_is schemas world c.args.self.now fits c.args.at client c.index.result.now c.requires made c.index.ensures in
    let owed = c.owed.ensures schemas (client_state schemas world.room.history client) kept.peer in
    subst (λ p. Fits schemas (with_pushing c.args.at p world) c.push.new.self) (sym (more_all c.args.owed c.owed.result client c.if-owed.true owed)) (pushed schemas world client fits made))
    c.push.ensures.pushed

pub returns-clause-pushed : goal.returns-clause-pushed
returns-clause-pushed c = λ schemas world client fits made.
    let kept = client_is schemas world c.args.self.now fits c.args.at client c.index.result.now c.requires made c.index.ensures in
    let owed = c.owed.ensures schemas (client_state schemas world.room.history client) kept.peer in
    subst (λ p. Fits schemas (with_pushing c.args.at p world) c.args.self.now) (sym (more_none c.args.owed c.owed.result client c.if-owed.false owed)) (fits_none schemas world c.args.self.now c.args.at client fits made)
