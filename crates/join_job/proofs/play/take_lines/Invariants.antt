use Rattle.std.proofs.Common.{◌≡◌, ◌≤◌, ◌+◌}
use Rattle.recording_lines.specs.Lines.{longest_line, most_bytes}
use Rattle.recording_lines.specs.Reading.{budget, to_come, TakesUnread}
use Rattle.room_link.specs.Exchange.{Tells}
use Rattle.join_job.proofs.GoingLemmas.{Goings}
use Rattle.join_job.proofs.play.take_lines.Given as goal

-- what was written and went out so far is what the script makes up to here, and the lines that are left are still to come
abbrev pub invariant-lines : goal.invariant-lines
invariant-lines g l =
    let left = g.S.Source.left in
    let held = g.W.Sink.held in
    let told = g.K.Link.told in
    record {
      going : Tells (Goings l.fn.script.room (left l.fn.source) l.script.joiner l.at (budget l.reader) (to_come l.reader (left l.source)) (held l.fn.sink) (held l.sink)) (told l.fn.link) (told l.link);
      room : l.script.room ≡ l.fn.script.room;
      longest : l.reader.longest ≡ longest_line;
      number : l.at + budget l.reader ≤ 1 + most_bytes;
      taken : TakesUnread most_bytes l.reader.unread (left l.fn.source) (left l.source);
      source_faults : g.S.Source.faults l.fn.source ≤ g.S.Source.faults l.source;
      sink_faults : g.W.Sink.faults l.fn.sink ≤ g.W.Sink.faults l.sink;
      link_faults : g.K.Link.faults l.fn.link ≤ g.K.Link.faults l.link;
    }

abbrev pub decreases-lines : goal.decreases-lines
decreases-lines g l = budget l.reader
