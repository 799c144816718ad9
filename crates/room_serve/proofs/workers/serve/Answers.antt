use Rattle.std.proofs.Common.{◌≡◌, ◌∙◌, Ok, ap, map, length, subst, sym, rules, drop}
use Rattle.std.proofs.lemmas.List.{take_at}
use Rattle.room_serve.specs.Reports.{ServesIn, IsReport}
use Rattle.room_serve.specs.Stations.{tally_of, worker_of}
use Rattle.room_serve.specs.Tallies.{AreTallied}
use Rattle.room_serve.proofs.TallyLemmas.{tallied}
use Rattle.room_serve.proofs.workers.serve.Goals as goal

pub returns-clause-tallied : goal.returns-clause-tallied
returns-clause-tallied g c =
    let rooms = c.args.rooms.now in
    let before = c.deref_mut.result.now in
    let after = c.work_all.new.stations in
    let tallies = c.call_back.new.tallies.items in
    let olds : map worker_of before ≡ c.args.workers.now.items = search rules in
    let whole = take_at after (drop (length after) c.send_out.new.stations.items) c.send_out.new.stations.len (search rules) in
    let news : map worker_of after ≡ c.call_back.new.workers.items = sym (c.call_back.ensures.workers ∙ ap (map worker_of) whole) in
    let same : map Ok tallies ≡ map tally_of after = c.in_ok-call_back.ensures.tallies ∙ ap (map tally_of) whole in
    let all = tallied g.A.Link.Link.faults g.A.Link.Link.told g.A.Accept.faults g.A.Accept.told rooms before after tallies c.work_all.ensures.count
    c.work_all.ensures.worked same in
    subst (λ l. AreTallied g.A.Link.Link.faults g.A.Link.Link.told (ServesIn rooms) (IsReport rooms) g.A.Accept.faults g.A.Accept.told l c.call_back.new.workers.items tallies)
    olds
    (subst (λ l. AreTallied g.A.Link.Link.faults g.A.Link.Link.told (ServesIn rooms) (IsReport rooms) g.A.Accept.faults g.A.Accept.told (map worker_of before) l tallies) news all)
