use Rattle.std.proofs.Common.{◌≡◌, ◌<◌, ◌+◌, length, sym, ap, subst, ◌∙◌, arith, Some}
use Rattle.recording_lines.specs.Reading.{budget, to_come}
use Rattle.rec_format.specs.Lines.{IsHeader, RefusesHeader}
use Rattle.rec_format.specs.declared.fault.LineFault.TheVariants as of_line
use Rattle.rec_format.specs.declared.read.TheConstants as format
use Rattle.schema_core.specs.Tree.{SchemaTree}
use Rattle.tl_tables.specs.Tables.{IsSchemaAt}
use Rattle.rooms_val.proofs.Truths.{if_ok_then}
use Rattle.snapshot_jobs.specs.Beginning.{BeginsAt, BeginsHeader, line_of}
use Rattle.snapshot_jobs.specs.Seeking.{Seeks}
use Rattle.snapshot_jobs.proofs.BeginLemmas.{header_read, header_refused, header_too_long, header_missing}
use Rattle.snapshot_jobs.proofs.restore.begin_with.Goals as goal

pub returns-in-Ok-clause-begins : goal.returns-in-Ok-clause-begins
returns-in-Ok-clause-begins g c =
    let left = g.S.Source.left in
    let first = c.args.reader.now in
    let mid = c.seek.new.reader in
    let old = to_come first (left c.args.source.now) in
    let come = to_come mid (left c.seek.new.source) in
    let from = line_of c.args.from c.args.snapshot in
    let at = c.in-Line.at in
    let header = c.in-Ok.header in
    let seeks = subst (λ s. Seeks format.LONGEST_LINE first.longest (c.args.from + 1) (budget first) old (budget mid) come mid.line s) c.in-Line.is c.in_ok-sought.ensures.found in
    let is : IsHeader mid.line header = subst (λ b. IsHeader b header) c.line.ensures.line c.in-Ok.ensures.found in
    if_ok_then c.begin_at.result (λ begun. (schema : SchemaTree) × IsSchemaAt header.version schema × BeginsAt schema from (at + 1) begun)
    (λ begun. BeginsHeader from first.longest (budget first) old (budget mid) come begun) c.begin_at.ensures.begins
    (λ begun h. header_read from first.longest (budget first) (budget mid) come mid.line old at header begun seeks is c.in-Ok.ensures.found.1 h)

pub returns-in_ok-line_fault_text-in-Err-clause-begins : goal.returns-in_ok-line_fault_text-in-Err-clause-begins
returns-in_ok-line_fault_text-in-Err-clause-begins g c =
    let left = g.S.Source.left in
    let first = c.args.reader.now in
    let mid = c.seek.new.reader in
    let old = to_come first (left c.args.source.now) in
    let come = to_come mid (left c.seek.new.source) in
    let fault = c.in-Err.fault in
    let seeks = subst (λ s. Seeks format.LONGEST_LINE first.longest (c.args.from + 1) (budget first) old (budget mid) come mid.line s) c.in-Line.is c.in_ok-sought.ensures.found in
    let refused : RefusesHeader mid.line fault = subst (λ b. RefusesHeader b fault) c.line.ensures.line c.in-Err.ensures.refused in
    header_refused (line_of c.args.from c.args.snapshot) first.longest (budget first) (budget mid) come mid.line old c.in-Line.at c.in_ok-line_fault_text-in-Err.field-0 seeks (fault, refused, c.in_ok-line_fault_text-in-Err.ensures)

pub returns-in_ok-too_long-in-TooLong-clause-begins : goal.returns-in_ok-too_long-in-TooLong-clause-begins
returns-in_ok-too_long-in-TooLong-clause-begins g c =
    let left = g.S.Source.left in
    let first = c.args.reader.now in
    let mid = c.seek.new.reader in
    let old = to_come first (left c.args.source.now) in
    let come = to_come mid (left c.seek.new.source) in
    let seeks = subst (λ s. Seeks format.LONGEST_LINE first.longest (c.args.from + 1) (budget first) old (budget mid) come mid.line s) c.in-TooLong.is c.in_ok-sought.ensures.found in
    header_too_long (line_of c.args.from c.args.snapshot) first.longest (budget first) (budget mid) come mid.line old c.in-TooLong.at c.in_ok-too_long-in-TooLong.field-0 seeks
    (λ long more. (of_line.LineTooLong, omega (arith, c.requires.wide, more), ap Some (sym c.in_ok-too_long-in-TooLong.ensures)))

pub returns-in_ok-no_end_text-in-End-clause-begins : goal.returns-in_ok-no_end_text-in-End-clause-begins
returns-in_ok-no_end_text-in-End-clause-begins g c =
    let left = g.S.Source.left in
    let first = c.args.reader.now in
    let mid = c.seek.new.reader in
    let old = to_come first (left c.args.source.now) in
    let come = to_come mid (left c.seek.new.source) in
    let seeks = subst (λ s. Seeks format.LONGEST_LINE first.longest (c.args.from + 1) (budget first) old (budget mid) come mid.line s) c.in-End.is c.in_ok-sought.ensures.found in
    header_missing (line_of c.args.from c.args.snapshot) first.longest (budget first) (budget mid) come mid.line old c.in-End.at c.in-End.whole c.in_ok-no_end_text-in-End.field-0 seeks c.in_ok-no_end_text-in-End.ensures
