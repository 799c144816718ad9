use Rattle.std.proofs.Common.{[], refl}
use Rattle.doc_model.specs.Marks.{after_mark}
use Rattle.sync_peer.specs.Calls.{with_marks}
use Rattle.room_join.proofs.AnsweringLemmas.{watch_same, changed}
use Rattle.room_join.proofs.joiner.Joiner.mark.Goals as goal

pub returns : goal.returns
returns c = λ schemas joiner stands.
    let state = with_marks (after_mark c.args.name joiner.state.client.marks) joiner.state in (
      record { joiner = record joiner { state = state }; lines = [] },
      refl,
      c.new.ensures.items,
      changed schemas joiner c.args.self.now stands c.mark.new.self state (c.in_ok-mark.ensures.ok schemas joiner.state stands.peer) (watch_same _ _ c.mark.ensures.store),
    )
