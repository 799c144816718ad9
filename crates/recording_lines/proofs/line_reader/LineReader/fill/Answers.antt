use Rattle.std.proofs.Common.{◌≡◌, ◌<◌, ◌≤◌, ◌-◌, [], ◌++◌, take, drop, length, ap, sym, subst, ◌∙◌, arith}
use Rattle.std.proofs.lemmas.List.{length-take-le, take-take}
use Rattle.std.proofs.lemmas.Result.{err_from_is_err_and}
use Rattle.std.specs.Io.KnownBytes.{Consumes}
use Rattle.recording_lines.specs.Reading.{Reading}
use Rattle.recording_lines.proofs.FillLemmas.{buffered-nil, written-whole}
use Rattle.recording_lines.proofs.line_reader.LineReader.fill.Goals as goal

pub returns-in_err-n-clause-err : goal.returns-in_err-n-clause-err
returns-in_err-n-clause-err g c =
    let r = c.self.inside in
    let within : r.end ≤ length r.buffer.items = omega (arith, r.buffer.ok.0, c.self.invariant.within, c.self.invariant.piece) in
    let empty : drop r.start (take r.end r.buffer.items) ≡ [] = ap (λ (v : Reading). v.buffered) c.self.view_is ∙ c.requires.empty in
    let same = buffered-nil r.buffer.items (take r.buffer.len (c.read_front.new.buffer ++ drop (length c.read_front.new.buffer) r.buffer.items)) r.start r.end within empty ∙ sym c.requires.empty in
    let p = err_from_is_err_and c.from_residual.result c.from_residual.ensures.1 in
    rw p.1 (
      (λ i. record { line = (c.self.view_is i).line; is_open = (c.self.view_is i).is_open; buffered = same i; unread = (c.self.view_is i).unread; longest = (c.self.view_is i).longest }),
      c.in_err-n.ensures.bytes,
    )

pub returns-clause-ok : goal.returns-clause-ok
returns-clause-ok g c =
    let r = c.self.inside in
    let n = c.in_ok-n.n in
    let given = c.read_front.new.buffer in
    let len : length given ≡ 65536 = omega (arith, c.read_front.auto.buffer, c.deref_mut.ensures.len, c.self.invariant.piece) in
    let room : n ≤ c.min.result = c.in_ok-n.ensures.bound in
    let unread : r.unread ≡ c.args.self.now.unread = ap (λ (v : Reading). v.unread) c.self.view_is in
    let whole : take r.buffer.len (given ++ drop (length given) r.buffer.items) ≡ given = written-whole given _ r.buffer.len (omega (arith, len, c.self.invariant.piece)) in
    let within : n ≤ length given = omega (arith, len, room, c.min.ensures) in
    let front : take n (take c.min.result given) ≡ take n (take r.buffer.len (given ++ drop (length given) r.buffer.items)) =
    take-take n c.min.result given room ∙ ap (take n) (sym whole) in
    let some : 0 < length (take c.min.result given) = omega (arith, length-take-le c.min.result given (omega (arith, len, c.min.ensures)), c.min.ensures, c.requires.unread, unread) in (
      omega (arith, room, c.min.ensures, unread),
      ap length (sym front ∙ take-take n c.min.result given room) ∙ length-take-le n given within,
      (λ i. record { line = (c.self.view_is i).line; is_open = (c.self.view_is i).is_open; buffered = take n (take r.buffer.len (given ++ drop (length given) r.buffer.items)); unread = unread i - n; longest = (c.self.view_is i).longest }),
      subst (Consumes _ _) front c.in_ok-n.ensures.bytes.0,
      λ none. c.in_ok-n.ensures.bytes.1 none some,
    )
