use Rattle.std.proofs.Common.{Some, ◌++◌, map, ap, subst, ◌∙◌}
use Rattle.std.proofs.lemmas.Result.{IfOk-weaker}
use Rattle.live_views.specs.Watches.{Stand}
use Rattle.sync_peer.specs.Calls.{shown}
use Rattle.sync_peer.specs.Viewing.{watched}
use Rattle.room_join.specs.Joiners.{told_line}
use Rattle.sync_peer.proofs.WatchLemmas.{told_alike}
use Rattle.room_join.proofs.joiner.Joiner.tell.Goals as goal

pub returns : goal.returns
returns g c = IfOk-weaker c.add_told.result _ _
    (λ all is. λ schemas joiner stands.
    let ws = map Some joiner.watched in
    let m = shown schemas joiner.state in
    let news_are = c.in_ok-told.ensures.told schemas joiner.state ws stands.peer stands.closed stands.watched in (
      is ∙ ap (λ told. c.args.lines.items ++ map told_line told) news_are,
      record {
        peer = c.in_ok-told.ensures.stands schemas joiner.state stands.peer;
        watched = subst (Stand (watched c.told.new.self)) (told_alike m joiner.watched) (c.in_ok-told.ensures.ok schemas joiner.state ws stands.peer stands.closed stands.watched);
        closed = c.in_ok-told.ensures.begun ∙ stands.closed;
        waiting = stands.waiting;
        lost = stands.lost;
      },
    ))
    c.add_told.ensures
