use Rattle.std.proofs.lemmas.Result.{IfOk-weaker}
use Rattle.room_join.proofs.AnsweringLemmas.{watch_same, pushed_so}
use Rattle.room_join.proofs.joiner.Joiner.push.Goals as goal

pub returns : goal.returns
returns c = IfOk-weaker c.say_pushes.result _ _
    (λ said is. λ schemas joiner stands.
    let done = is schemas joiner.state stands.peer in
    (done.0, pushed_so schemas joiner c.args.self.now stands c.say_pushes.new.peer done.1 (watch_same _ _ c.say_pushes.ensures.store)))
    c.say_pushes.ensures.pushes
