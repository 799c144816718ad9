use Rattle.std.proofs.Common.{◌≡◌, All, length, rules, subst, sym}
use Rattle.room_serve.specs.Reports.{ServesIn, IsReport}
use Rattle.room_serve.specs.Tallies.{AreTallied}
use Rattle.room_server.proofs.EndLemmas.{all_closed}
use Rattle.room_server.proofs.GatherLemmas.{all_below, gathered_own}
use Rattle.room_server.proofs.HostingLemmas.{hosted, reported}
use Rattle.room_server.specs.Closing.{IsBelow, reports_of}
use Rattle.room_server.specs.Opened.{IsClosed}
use Rattle.room_server.proofs.job.host.Goals as goal

pub gather-requires : goal.gather-requires
gather-requires g c =
    let rooms = c.in_ok-rooms.rooms.items in
    let reports = reports_of c.in_ok-tallies.tallies.items in
    let before = c.args.workers.now.items in
    let after = c.serve.new.workers.items in
    let tallied = subst (λ l. AreTallied g.A.Link.Link.faults g.A.Link.Link.told (ServesIn l) (IsReport l) g.A.Accept.faults g.A.Accept.told before after c.in_ok-tallies.tallies.items)
    c.deref.ensures.value c.in_ok-tallies.ensures.tallied in
    let long : length rooms ≡ c.len.result = search rules in
    record {
      below = subst (λ n. All (IsBelow n) reports) long (all_below rooms reports
          (reported g.A.Link.Link.faults g.A.Link.Link.told g.A.Accept.faults g.A.Accept.told rooms before after c.in_ok-tallies.tallies.items tallied));
    }

pub close_rooms-requires : goal.close_rooms-requires
close_rooms-requires g c =
    let rooms = c.in_ok-rooms.rooms.items in
    let reports = reports_of c.in_ok-tallies.tallies.items in
    let before = c.args.workers.now.items in
    let after = c.serve.new.workers.items in
    let gones = c.in_ok-tallies-2.field-0.gones.items in
    let tallied = subst (λ l. AreTallied g.A.Link.Link.faults g.A.Link.Link.told (ServesIn l) (IsReport l) g.A.Accept.faults g.A.Accept.told before after c.in_ok-tallies.tallies.items)
    c.deref.ensures.value c.in_ok-tallies.ensures.tallied in
    let long : length gones ≡ length rooms = search rules in
    record {
      own = gathered_own rooms reports gones long
          (reported g.A.Link.Link.faults g.A.Link.Link.told g.A.Accept.faults g.A.Accept.told rooms before after c.in_ok-tallies.tallies.items tallied)
          c.in_ok-tallies-2.ensures.gones;
    }

pub outcome_lines-requires : goal.outcome_lines-requires
outcome_lines-requires g c =
    record {
      closed = subst (All IsClosed) (sym c.deref-3.ensures.value)
          (all_closed c.in_ok-rooms.rooms.items c.in_ok-tallies-2.field-0.gones.items c.in_ok-closed.closed.items c.in_ok-rooms.ensures.opened c.in_ok-closed.ensures);
    }

pub returns-clause-hosted : goal.returns-clause-hosted
returns-clause-hosted g c =
    let rooms = c.in_ok-rooms.rooms.items in
    let before = c.args.workers.now.items in
    let after = c.serve.new.workers.items in
    let gathered = c.in_ok-tallies-2.field-0 in
    let tallied = subst (λ l. AreTallied g.A.Link.Link.faults g.A.Link.Link.told (ServesIn l) (IsReport l) g.A.Accept.faults g.A.Accept.told before after c.in_ok-tallies.tallies.items)
    c.deref.ensures.value c.in_ok-tallies.ensures.tallied in
    let long : length rooms ≡ c.args.rooms = search rules in
    hosted g.A.Link.Link.faults g.A.Link.Link.told g.A.Accept.faults g.A.Accept.told rooms before after c.in_ok-tallies.tallies.items c.args.rooms gathered.tallies.items
    gathered.gones.items c.in_ok-closed.closed.items tallied long c.in_ok-rooms.ensures.opened c.in_ok-tallies-2.ensures.gones c.in_ok-tallies-2.ensures.tallies c.in_ok-closed.ensures
