use Rattle.std.proofs.Common.{◌≡◌, ◌≤◌, count_by, take}
use Rattle.room_server.proofs.lines.faults_among.Given as goal

-- so many of the first reports are so
abbrev pub invariant-reports : goal.invariant-reports
invariant-reports l = (l.count ≡ count_by (λ report. report.fault) (take l.report-index l.reports)) × (l.count ≤ l.report-index)
