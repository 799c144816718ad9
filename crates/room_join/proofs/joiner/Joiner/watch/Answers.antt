use Rattle.std.proofs.Common.{◌≡◌, Some, Ok, Err, [], ◌∷◌, ◌++◌, sym, ap, ◌∙◌}
use Rattle.signal_core.specs.declared.watch.WatchFault.TheVariants as watch_fault
use Rattle.room_model.specs.declared.fault.StepFault.TheVariants.{Limit}
use Rattle.sync_peer.specs.Viewing.{watched}
use Rattle.room_join.specs.Joiners.{with_watch}
use Rattle.sync_peer.proofs.WatchLemmas.{new_watch, some_of, not_full, full_where, least_free, adds_watch}
use Rattle.room_join.proofs.WatchLemmas.{watches_more, watches_no_more}
use Rattle.room_join.proofs.joiner.Joiner.watch.Goals as goal

pub returns-in-Ok : goal.returns-in-Ok
returns-in-Ok c = λ schemas joiner stands.
    let slots = watched c.args.self.now.peer in
    let ws = joiner.watched in
    let view = c.args.view.now in
    let free = not_full slots ws stands.watched (λ full. absurd (let no : Ok c.in-Ok.field-0 ≡ Err watch_fault.Full = c.in-Ok.ensures.full.1 full in cc)) in
    let number = least_free slots ws stands.watched c.in-Ok.field-0.number c.in-Ok.ensures.number in
    let has = c.in-Ok.ensures.ok (some_of ws) (some_of (ws ++ new_watch view ∷ [])) stands.watched (adds_watch ws view c.in-Ok.field-0.number number) in (
      record { joiner = with_watch view joiner; lines = [] },
      watches_more view joiner free,
      c.new.ensures.items,
      record {
        peer = c.in-Ok.ensures.stands schemas joiner.state stands.peer;
        watched = has;
        closed = c.in-Ok.ensures.begun ∙ stands.closed;
        waiting = stands.waiting;
        lost = stands.lost;
      },
    )

pub returns-in_ok-of-in-Err-Full : goal.returns-in_ok-of-in-Err-Full
returns-in_ok-of-in-Err-Full c = λ schemas joiner stands.
    let slots = watched c.args.self.now.peer in
    let full = full_where slots joiner.watched stands.watched (c.in-Err-Full.ensures.full.0 (ap (λ f. Err f) c.in-Err-Full.field-0-is)) in
    (Limit, watches_no_more c.args.view.now joiner full, ap Some (sym c.in_ok-of-in-Err-Full.ensures))
