use Rattle.std.proofs.Common.{◌≡◌, ◌<◌, ◌+◌, [], ◌∷◌, ◌++◌, true, false, take, drop, length, refl, ap, sym, subst, ◌∙◌, append_assoc, append-nil, length-append, arith}
use Rattle.recording_lines.specs.Lines.{newline, has_newline, IsFirstPiece}
use Rattle.recording_lines.specs.Reading.{Reading, held}
use Rattle.recording_lines.proofs.LinesLemmas.{has_newline-append}
use Rattle.recording_lines.proofs.GatherLemmas.{held-view, buffered-slice, holds_too_long, buffered-taken, buffered-passed}
use Rattle.recording_lines.proofs.line_reader.LineReader.gather.Goals as goal

pub returns-then-len-taken-clause-ok : goal.returns-then-len-taken-clause-ok
returns-then-len-taken-clause-ok c =
    let r = c.self.inside in
    let buffered = drop r.start (take r.end r.buffer.items) in
    let piece = c.first_piece-is_whole.result.0.now in
    let is_whole = c.first_piece-is_whole.result.1 in
    let slice = buffered-slice r.buffer.items _ r.start r.end c.deref.ensures.value c.self.invariant.ordered in
    let first : IsFirstPiece buffered piece is_whole = subst (λ b. IsFirstPiece b piece is_whole) (sym slice) c.first_piece-is_whole.ensures in
    let long : c.args.self.now.longest < length r.line.items + length piece = omega (arith, r.line.ok.0, c.len.ensures, c.if-len-taken.true, ap (λ (v : Reading). v.longest) c.self.view_is) in
    (holds_too_long c.args.self.now r.line.items buffered piece is_whole (held-view _ _ c.self.view_is c.requires) c.self.invariant.plain first long, refl)

pub returns-then-not-is_whole-clause-ok : goal.returns-then-not-is_whole-clause-ok
returns-then-not-is_whole-clause-ok c =
    let r = c.self.inside in
    let buffered = drop r.start (take r.end r.buffer.items) in
    let line = r.line.items in
    let piece = c.first_piece-is_whole.result.0.now in
    let slice = buffered-slice r.buffer.items _ r.start r.end c.deref.ensures.value c.self.invariant.ordered in
    let first : IsFirstPiece buffered piece false = subst (IsFirstPiece buffered piece) c.if-not-is_whole.true (subst (λ b. IsFirstPiece b piece c.first_piece-is_whole.result.1) (sym slice) c.first_piece-is_whole.ensures) in
    let holds : held c.args.self.now ≡ line ++ buffered = held-view _ _ c.self.view_is c.requires in
    let grown : c.extend_from_slice.new.self.items ≡ line ++ piece = c.in_ok-extend_from_slice.ensures.items in
    let is_held : c.extend_from_slice.new.self.items ≡ held c.args.self.now = grown ∙ ap (λ b. line ++ b) (sym first.1) ∙ sym holds in
    let emptied = buffered-taken r.buffer.items piece [] r.start r.end (first.1 ∙ sym (append-nil piece)) in
    let is_open = ap (λ (v : Reading). v.is_open) c.self.view_is in
    let unread = ap (λ (v : Reading). v.unread) c.self.view_is in
    let longest = ap (λ (v : Reading). v.longest) c.self.view_is in (
      (λ i. record { line = is_held i; is_open = is_open i; buffered = emptied i; unread = unread i; longest = longest i }),
      ap has_newline (sym is_held ∙ grown) ∙ has_newline-append line piece c.self.invariant.plain first.0,
      omega (arith, ap length (sym is_held ∙ grown), length-append line piece, r.line.ok.0, c.len.ensures, c.if-len-taken.false, longest),
    )

pub returns-clause-ok : goal.returns-clause-ok
returns-clause-ok c =
    let r = c.self.inside in
    let buffered = drop r.start (take r.end r.buffer.items) in
    let line = r.line.items in
    let piece = c.first_piece-is_whole.result.0.now in
    let slice = buffered-slice r.buffer.items _ r.start r.end c.deref.ensures.value c.self.invariant.ordered in
    let first : IsFirstPiece buffered piece true = subst (IsFirstPiece buffered piece) c.if-not-is_whole.false (subst (λ b. IsFirstPiece b piece c.first_piece-is_whole.result.1) (sym slice) c.first_piece-is_whole.ensures) in
    let rest = first.1.0 in
    let holds : held c.args.self.now ≡ line ++ buffered = held-view _ _ c.self.view_is c.requires in
    let grown : c.extend_from_slice.new.self.items ≡ line ++ piece = c.in_ok-extend_from_slice.ensures.items in
    let passed = buffered-passed r.buffer.items piece rest r.start r.end first.1.1 in (
      holds ∙ ap (λ b. line ++ b) first.1.1 ∙ sym (append_assoc line piece (newline ∷ rest)) ∙ (λ i. sym grown i ++ newline ∷ sym passed i),
      ap has_newline grown ∙ has_newline-append line piece c.self.invariant.plain first.0,
      omega (arith, ap length grown, length-append line piece, r.line.ok.0, c.len.ensures, c.if-len-taken.false, ap (λ (v : Reading). v.longest) c.self.view_is),
      refl,
      ap (λ (v : Reading). v.unread) c.self.view_is,
      ap (λ (v : Reading). v.longest) c.self.view_is,
    )
