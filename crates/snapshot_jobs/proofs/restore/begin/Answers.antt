use Rattle.std.proofs.Common.{◌≡◌, ◌<◌, length, sym, ap, subst, ◌∙◌, arith, Some}
use Rattle.recording_lines.specs.Reading.{budget, to_come}
use Rattle.recording_lines.proofs.ReadingLemmas.{TakesUnread-trans}
use Rattle.room_snapshot.specs.Readings.{IsLine, RefusesLine}
use Rattle.room_snapshot.specs.Saved.{saved_tree}
use Rattle.room_snapshot.specs.declared.fault.SnapFault.TheVariants as snap
use Rattle.room_snapshot.specs.declared.snapshot.TheConstants as snapshot
use Rattle.rooms_val.proofs.Truths.{if_ok_then}
use Rattle.snapshot_jobs.specs.Beginning.{BeginsSaved, BeginsHeader, line_of}
use Rattle.snapshot_jobs.specs.Seeking.{Seeks}
use Rattle.snapshot_jobs.proofs.BeginLemmas.{line_refused, line_too_long, line_missing, line_taken}
use Rattle.snapshot_jobs.proofs.restore.begin.Goals as goal

pub returns-in-Ok-clause-begins : goal.returns-in-Ok-clause-begins
returns-in-Ok-clause-begins g c =
    let left = g.S.Source.left in
    let first = c.args.reader.now in
    let mid = c.seek.new.reader in
    let last = c.begin_with.new.reader in
    let old = to_come first (left c.args.source.now) in
    let come = to_come mid (left c.seek.new.source) in
    let further = to_come last (left c.begin_with.new.source) in
    let at = c.in-Line.at in
    let read = c.in-Ok.snapshot in
    let seeks = subst (λ s. Seeks snapshot.LONGEST_LINE first.longest 1 (budget first) old (budget mid) come mid.line s) c.in-Line.is c.in_ok-sought.ensures.found in
    let is : IsLine mid.line (saved_tree read.saved) read.held = subst (λ b. IsLine b (saved_tree read.saved) read.held) c.line.ensures.line c.in-Ok.ensures.found in
    if_ok_then c.begin_with.result (λ begun. BeginsHeader (line_of at read) mid.longest (budget mid) come (budget last) further begun)
    (λ begun. BeginsSaved first.longest (budget first) old (budget last) further begun) c.begin_with.ensures.begins
    (λ begun later. line_taken first.longest (budget first) (budget mid) (budget last) come further mid.line old at read begun seeks is
    (subst (λ l. BeginsHeader (line_of at read) l (budget mid) come (budget last) further begun) c.in_ok-sought.ensures.longest later))

pub returns-in-Ok-clause-taken : goal.returns-in-Ok-clause-taken
returns-in-Ok-clause-taken g c =
    let left = g.S.Source.left in
    TakesUnread-trans c.args.reader.now.unread c.seek.new.reader.unread c.begin_with.new.reader.unread (left c.args.source.now) (left c.seek.new.source) (left c.begin_with.new.source)
    c.in_ok-sought.ensures.taken c.begin_with.ensures.taken

pub returns-in_ok-snap_fault_text-in-Err-clause-begins : goal.returns-in_ok-snap_fault_text-in-Err-clause-begins
returns-in_ok-snap_fault_text-in-Err-clause-begins g c =
    let left = g.S.Source.left in
    let first = c.args.reader.now in
    let mid = c.seek.new.reader in
    let old = to_come first (left c.args.source.now) in
    let come = to_come mid (left c.seek.new.source) in
    let at = c.in-Line.at in
    let fault = c.in-Err.fault in
    let seeks = subst (λ s. Seeks snapshot.LONGEST_LINE first.longest 1 (budget first) old (budget mid) come mid.line s) c.in-Line.is c.in_ok-sought.ensures.found in
    let refused : RefusesLine mid.line fault = subst (λ b. RefusesLine b fault) c.line.ensures.line c.in-Err.ensures.refused in
    line_refused first.longest (budget first) (budget mid) (budget mid) come come mid.line old at fault c.in_ok-snap_fault_text-in-Err.field-0 seeks refused c.in_ok-snap_fault_text-in-Err.ensures

pub returns-in_ok-too_long-in-TooLong-clause-begins : goal.returns-in_ok-too_long-in-TooLong-clause-begins
returns-in_ok-too_long-in-TooLong-clause-begins g c =
    let left = g.S.Source.left in
    let first = c.args.reader.now in
    let mid = c.seek.new.reader in
    let old = to_come first (left c.args.source.now) in
    let come = to_come mid (left c.seek.new.source) in
    let seeks = subst (λ s. Seeks snapshot.LONGEST_LINE first.longest 1 (budget first) old (budget mid) come mid.line s) c.in-TooLong.is c.in_ok-sought.ensures.found in
    line_too_long first.longest (budget first) (budget mid) (budget mid) come come mid.line old c.in-TooLong.at snap.LineTooLong c.in_ok-too_long-in-TooLong.field-0 seeks
    (λ long more. subst (λ l. l < length long) c.requires.longest more) (ap Some (sym c.in_ok-too_long-in-TooLong.ensures))

pub returns-in_ok-no_end_text-in-End-clause-begins : goal.returns-in_ok-no_end_text-in-End-clause-begins
returns-in_ok-no_end_text-in-End-clause-begins g c =
    let left = g.S.Source.left in
    let first = c.args.reader.now in
    let mid = c.seek.new.reader in
    let old = to_come first (left c.args.source.now) in
    let come = to_come mid (left c.seek.new.source) in
    let seeks = subst (λ s. Seeks snapshot.LONGEST_LINE first.longest 1 (budget first) old (budget mid) come mid.line s) c.in-End.is c.in_ok-sought.ensures.found in
    line_missing first.longest (budget first) (budget mid) (budget mid) come come mid.line old c.in-End.at c.in-End.whole c.in_ok-no_end_text-in-End.field-0 seeks c.in_ok-no_end_text-in-End.ensures
