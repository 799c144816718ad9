use Rattle.std.proofs.Common.{◌≤◌}
use Rattle.room_serve.specs.Reports.{ServesIn, IsReport}
use Rattle.room_serve.specs.Tallies.{IsServing}
use Rattle.room_serve.proofs.workers.serve_worker.Given as goal

-- the worker has served those links that there are reports of
abbrev pub invariant-links : goal.invariant-links
invariant-links g l =
    let rooms = l.rooms in
    (g.A.Accept.faults l.initial.worker ≤ g.A.Accept.faults l.worker)
    × IsServing g.A.Link.Link.faults g.A.Link.Link.told (ServesIn rooms) (IsReport rooms) g.A.Accept.faults g.A.Accept.told
    l.initial.worker l.worker l.reports.items
