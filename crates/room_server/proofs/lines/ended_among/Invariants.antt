use Rattle.std.proofs.Common.{◌≡◌, ◌≤◌, count_by, take}
use Rattle.room_server.specs.Lines.{is_ended}
use Rattle.room_server.proofs.lines.ended_among.Given as goal

-- so many of the first reports are so
abbrev pub invariant-reports : goal.invariant-reports
invariant-reports l = (l.count ≡ count_by is_ended (take l.report-index l.reports)) × (l.count ≤ l.report-index)
