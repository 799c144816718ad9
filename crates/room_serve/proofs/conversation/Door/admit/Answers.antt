use Rattle.std.proofs.Common.{◌≡◌, None, sym, ◌∙◌}
use Rattle.link_texts.proofs.SendingLemmas.{tells_more}
use Rattle.room_run.specs.Calls.{HasSeenFull}
use Rattle.room_run.specs.Passes.{view_of_gone}
use Rattle.room_run.specs.Rooms.{opening_of}
use Rattle.room_serve.proofs.VisitLemmas.{full_of, turned_away}
use Rattle.room_serve.proofs.conversation.Door.admit.Goals as goal

pub returns-in-Err-clause-visits : goal.returns-in-Err-clause-visits
returns-in-Err-clause-visits g c =
    let room = c.args.self.now.room.now in
    tells_more _ _ c.turn_away.ensures.away (λ x y told. turned_away room c.args.join.readonly c.args.account c.gone_of.result c.turn_away.result x y
    (λ one is. full_of (λ gone. (gone.session ≡ None) × HasSeenFull (opening_of room) (view_of_gone gone)) c.in-Err.fault one c.in-Err.ensures.full (sym c.gone_of.ensures ∙ is))
    c.turn_away.ensures.none c.turn_away.ensures.gone told)
