use Rattle.std.proofs.Common.{w64, ◌≡◌, Some, refl, sym, ap, ◌∙◌}
use Rattle.std.proofs.lemmas.Int.{to_z-of_z}
use Rattle.sync_room.specs.Sessions.{reached}
use Rattle.sync_room.specs.declared.session.Session.{Session}
use Rattle.sync_room.proofs.sessions.Sessions.reach.Goals as goal

pub returns : goal.returns
returns c = λ s at.
    let read = c.index_mut-session.result.now in
    let same : read ≡ s = let here = c.index_mut-session.ensures.value in cc in
    let phase : c.phase_once_sent.result ≡ reached c.args.clock s.phase =
    c.phase_once_sent.ensures ∙ ap (λ k. reached k c.replace-phase.result) (to_z-of_z w64 c.args.clock c.ranges.clock)
    ∙ ap (reached c.args.clock) (c.replace-phase.ensures.value ∙ ap (λ s. s.phase) same) in
    let after : Session = record read { phase = c.phase_once_sent.result; pushed = c.clear.new.self } in (
      after,
      record {
        same = ap (λ p. record read { phase = p; pushed = c.clear.new.self }) phase ∙ ap (λ (r : Session). record r { phase = reached c.args.clock s.phase; pushed = c.clear.new.self }) same;
        clocks = c.clear.ensures.items;
      },
      refl,
    )
