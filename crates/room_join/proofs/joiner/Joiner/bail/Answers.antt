use Rattle.std.proofs.Common.{◌≡◌, Some, Ok, Err, sym, ap, subst, ◌∙◌}
use Rattle.sync_peer.specs.Calls.{bail_done, bailed}
use Rattle.undo_marks.specs.declared.fault.BailFault.TheVariants as bail
use Rattle.room_join.specs.Joiners.{on_bail}
use Rattle.room_join.specs.Standing.{Answers}
use Rattle.room_join.proofs.AnsweringLemmas.{bail_is_done, bail_refused}
use Rattle.room_join.proofs.joiner.Joiner.bail.Goals as goal

pub returns-in-Ok : goal.returns-in-Ok
returns-in-Ok g c = λ schemas joiner stands.
    let mid = record c.args.self.now { peer = c.bail.new.self } in
    subst (λ name. Answers schemas (on_bail schemas name joiner) (Ok c.new.result) mid) c.as_str.ensures.bytes
    (bail_is_done schemas joiner c.args.self.now stands c.bail.new.self c.bail.ensures.views c.new.result c.as_str.result.now
    (bail_done c.as_str.result.now joiner.state.client.marks) (bailed schemas c.as_str.result.now joiner.state)
    (c.in-Ok.ensures.fault schemas joiner.state stands.peer) (c.in-Ok.ensures.ok schemas joiner.state stands.peer) c.new.ensures.items)

pub returns-in_ok-of-in-Err-NoMark : goal.returns-in_ok-of-in-Err-NoMark
returns-in_ok-of-in-Err-NoMark g c = λ schemas joiner stands.
    let mid = record c.args.self.now { peer = c.bail.new.self } in
    let is = c.in-Err-NoMark.field-0-is in
    subst (λ name. Answers schemas (on_bail schemas name joiner) (Err c.in_ok-of-in-Err-NoMark.field-0) mid) c.as_str.ensures.bytes
    (bail_refused schemas joiner mid (bail_done c.as_str.result.now joiner.state.client.marks) (bailed schemas c.as_str.result.now joiner.state) c.in_ok-of-in-Err-NoMark.field-0
    (c.in-Err-NoMark.ensures.fault schemas joiner.state stands.peer (λ oom. absurd (let no : bail.NoMark ≡ bail.OutOfMemory = sym is ∙ oom in cc)) ∙ ap (λ f. Err f) is)
    (ap Some (sym c.in_ok-of-in-Err-NoMark.ensures)))
