use Rattle.std.proofs.Common.{◌≡◌, ◌<◌, false, [], ap, sym, subst, ◌∙◌, arith}
use Rattle.std.proofs.lemmas.List.{nil_from_length}
use Rattle.recording_lines.specs.Lines.{has_newline}
use Rattle.recording_lines.specs.Reading.{Reading, budget, to_come, TakesUnread}
use Rattle.recording_lines.specs.Gathering.{Gathers, Fills}
use Rattle.recording_lines.specs.declared.line_reader.Gathered.TheVariants as piece
use Rattle.recording_lines.proofs.AwaitsLemmas.{loses_gathered, begins_gathered, ends_gathered, Awaits-gathered, Awaits-filled, loses_closed, TakesUnread-filled, Closes-unread, OnLine-Closes}
use Rattle.recording_lines.proofs.line_reader.LineReader.next_line.Goals as goal

pub returns-in-Whole-clause-line : goal.returns-in-Whole-clause-line
returns-in-Whole-clause-line g c =
    let gathers : Gathers piece.Whole c.pieces.self c.gather.new.self = subst (λ k. Gathers k c.pieces.self c.gather.new.self) c.in-Whole.is c.in_ok-gather.ensures.ok in
    loses_gathered _ _ _ c.pieces.self c.gather.new.self _ c.pieces.invariant.awaits gathers

pub returns-in-TooLong-clause-too_long : goal.returns-in-TooLong-clause-too_long
returns-in-TooLong-clause-too_long g c =
    let gathers : Gathers piece.TooLong c.pieces.self c.gather.new.self = subst (λ k. Gathers k c.pieces.self c.gather.new.self) c.in-TooLong.is c.in_ok-gather.ensures.ok in
    begins_gathered _ _ _ c.pieces.self c.gather.new.self _ c.pieces.invariant.awaits gathers

pub returns-then-self-eq0-clause-end : goal.returns-then-self-eq0-clause-end
returns-then-self-eq0-clause-end g c =
    let gathers : Gathers piece.Part c.pieces.self c.gather.new.self = subst (λ k. Gathers k c.pieces.self c.gather.new.self) c.in-Part.is c.in_ok-gather.ensures.ok in
    let used : c.gather.new.self.unread ≡ 0 = sym (ap (λ (v : Reading). v.unread) c.self.view_is) ∙ c.if-self-eq0.true in
    ends_gathered _ _ _ c.pieces.self c.gather.new.self _ c.pieces.invariant.awaits gathers used

pub returns-then-branch-eq0-clause-line : goal.returns-then-branch-eq0-clause-line
returns-then-branch-eq0-clause-line g c =
    let told = to_come c.args.self.now (g.S.Source.left c.args.source.now) in
    let most = budget c.args.self.now in
    let left = g.S.Source.left c.pieces.source in
    let rest = g.S.Source.left c.fill.new.source in
    let n = c.in_ok-fill.field-0 in
    let gathers : Gathers piece.Part c.pieces.self c.gather.new.self = subst (λ k. Gathers k c.pieces.self c.gather.new.self) c.in-Part.is c.in_ok-gather.ensures.ok in
    let fills : Fills n c.gather.new.self c.fill.new.self left rest = c.in_ok-fill.ensures.ok in
    let none : n ≡ 0 = c.if-branch-eq0.true in
    let gathered = Awaits-gathered c.args.self.now.longest told most c.pieces.self c.gather.new.self left c.pieces.invariant.awaits gathers in
    let filled = Awaits-filled c.args.self.now.longest told most c.gather.new.self c.fill.new.self left gathered n rest (ap (λ (v : Reading). v.buffered) gathers.0) fills in
    let empty : c.fill.new.self.buffered ≡ [] = nil_from_length _ (fills.1 ∙ none) in
    let line : c.fill.new.self.line ≡ c.gather.new.self.line = ap (λ (v : Reading). v.line) fills.2 in
    let plain : has_newline c.fill.new.self.line ≡ false = ap has_newline (line ∙ ap (λ (v : Reading). v.line) gathers.0) ∙ gathers.1 in
    let more : 0 < c.fill.new.self.unread = omega (arith, none, ap (λ (v : Reading). v.unread) fills.2, ap (λ (v : Reading). v.unread) c.self.view_is, c.if-self-eq0.false) in
    OnLine-Closes c.close_line.result c.fill.new.self c.close_line.new.self _ c.close_line.ensures
    (loses_closed c.args.self.now.longest told most c.fill.new.self c.close_line.new.self rest filled empty plain (fills.4 none) more)

pub returns-then-branch-eq0-clause-taken : goal.returns-then-branch-eq0-clause-taken
returns-then-branch-eq0-clause-taken g c =
    let old = g.S.Source.left c.args.source.now in
    let left = g.S.Source.left c.pieces.source in
    let rest = g.S.Source.left c.fill.new.source in
    let most = c.args.self.now.unread in
    let gathers : Gathers piece.Part c.pieces.self c.gather.new.self = subst (λ k. Gathers k c.pieces.self c.gather.new.self) c.in-Part.is c.in_ok-gather.ensures.ok in
    let fills : Fills c.in_ok-fill.field-0 c.gather.new.self c.fill.new.self left rest = c.in_ok-fill.ensures.ok in
    let before : TakesUnread most c.gather.new.self.unread old left = subst (λ u. TakesUnread most u old left) (sym (ap (λ (v : Reading). v.unread) gathers.0)) c.pieces.invariant.taken in
    subst (λ u. TakesUnread most u old rest) (sym (Closes-unread c.close_line.result c.fill.new.self c.close_line.new.self c.close_line.ensures))
    (TakesUnread-filled most c.in_ok-fill.field-0 c.gather.new.self c.fill.new.self old left rest before fills)

pub pieces-preserved : goal.pieces-preserved
pieces-preserved g c =
    let told = to_come c.args.self.now (g.S.Source.left c.args.source.now) in
    let old = g.S.Source.left c.args.source.now in
    let left = g.S.Source.left c.pieces.source in
    let rest = g.S.Source.left c.fill.new.source in
    let n = c.in_ok-fill.field-0 in
    let most = c.args.self.now.unread in
    let gathers : Gathers piece.Part c.pieces.self c.gather.new.self = subst (λ k. Gathers k c.pieces.self c.gather.new.self) c.in-Part.is c.in_ok-gather.ensures.ok in
    let fills : Fills n c.gather.new.self c.fill.new.self left rest = c.in_ok-fill.ensures.ok in
    let gathered = Awaits-gathered c.args.self.now.longest told (budget c.args.self.now) c.pieces.self c.gather.new.self left c.pieces.invariant.awaits gathers in
    let before : TakesUnread most c.gather.new.self.unread old left = subst (λ u. TakesUnread most u old left) (sym (ap (λ (v : Reading). v.unread) gathers.0)) c.pieces.invariant.taken in
    record {
      awaits = Awaits-filled c.args.self.now.longest told (budget c.args.self.now) c.gather.new.self c.fill.new.self left gathered n rest (ap (λ (v : Reading). v.buffered) gathers.0) fills;
      faults_stay = omega (arith, c.pieces.invariant.faults_stay, c.in_ok-fill.ensures.faults_stay);
      taken = TakesUnread-filled most n c.gather.new.self c.fill.new.self old left rest before fills;
    }
