use Rattle.std.proofs.Common.{◌≡◌, take, vec_len}
use Rattle.room_server.specs.Closing.{AddsGone, without_gone}
use Rattle.room_server.proofs.GatherLemmas.{changed}
use Rattle.room_server.proofs.closing.gather_reports.Given as goal

-- who is gone was taken out of the first reports, and added to the lists
abbrev pub invariant-reports : goal.invariant-reports
invariant-reports l = record {
  count : vec_len l.gones ≡ vec_len l.initial.gones;
  adds : AddsGone (take l.report-index l.initial.reports) l.initial.gones.items l.gones.items;
  reports : l.reports ≡ changed without_gone l.report-index l.initial.reports;
}
