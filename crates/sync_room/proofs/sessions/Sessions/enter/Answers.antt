use Rattle.std.proofs.Common.{◌≡◌, Some, None, refl, sym, ap, subst, ◌∙◌}
use Rattle.room_model.specs.Rooms.{Room}
use Rattle.sync_room.specs.Sessions.{Holds, IsIn}
use Rattle.sync_room.specs.declared.session.SessionId.{SessionId}
use Rattle.sync_room.specs.declared.sessions.Sessions.{Sessions}
use Rattle.sync_room.proofs.TableLemmas.{added, stays_added, recapped, on_err}
use Rattle.sync_room.proofs.sessions.Sessions.enter.Goals as goal

pub returns-in_err-key-clause-err : goal.returns-in_err-key-clause-err
returns-in_err-key-clause-err c = on_err c.from_residual.result _ (λ state h.
    subst (λ present. Holds state (record c.args.self.now { present = present })) (sym c.in_err-key.ensures.err) (recapped state c.args.self.now c.insert.new.self.capacity h))

pub returns-in_err-key-clause-others : goal.returns-in_err-key-clause-others
returns-in_err-key-clause-others c = λ other there.
    subst (λ present. IsIn other (record c.args.self.now { present = present })) (sym c.in_err-key.ensures.err) there

pub returns-clause-ok : goal.returns-clause-ok
returns-clause-ok c = λ state h own.
    added state c.args.self.now _ h c.in_ok-key.key _ c.in_ok-key.ensures.was_vacant c.in_ok-key.ensures.updates refl
    (record { sent = tt; unended = λ is. (c.args.removal, refl, own); ended = λ is. absurd (cc) }) c.in_ok-key.ensures.len refl

pub returns-clause-others : goal.returns-clause-others
returns-clause-others c = λ other there.
    stays_added c.args.self.now (record { present = c.insert.new.self; entered = c.args.self.now.entered }) c.in_ok-key.key _ c.in_ok-key.ensures.was_vacant c.in_ok-key.ensures.updates other there
