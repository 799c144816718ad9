use Rattle.std.proofs.Common.{length, refl, rules, inr}
use Rattle.std.proofs.lemmas.Option.{slice_get_read}
use Rattle.link_texts.proofs.SendingLemmas.{tells_then}
use Rattle.room_serve.proofs.VisitLemmas.{joined_then, was_in}
use Rattle.room_serve.proofs.service.serve_link.Goals as goal

pub returns-clause-report : goal.returns-clause-report
returns-clause-report g c =
    let rooms = c.args.rooms.now in
    let there = slice_get_read rooms (length rooms) c.in-Some.join.room c.index-rooms-join.result refl (search rules) c.index-rooms-join.is in
    record {
      own = was_in rooms c.index-rooms-join.result c.in-Some.join.room c.admit.result.room c.admit.result.gone there c.admit.ensures.room c.admit.ensures.gone;
      session = c.admit.ensures.session;
      none = λ nobody. inr (c.admit.ensures.none nobody);
    }

pub returns-clause-served : goal.returns-clause-served
returns-clause-served g c =
    let rooms = c.args.rooms.now in
    let there = slice_get_read rooms (length rooms) c.in-Some.join.room c.index-rooms-join.result refl (search rules) c.index-rooms-join.is in
    tells_then _ _ _ c.in-Some.ensures.joins c.admit.ensures.visits
    (λ x y z joins visits. joined_then rooms c.index-rooms-join.result c.in-Some.join c.wait_for_join.new.account c.admit.result x y z there c.admit.ensures.room joins visits)
