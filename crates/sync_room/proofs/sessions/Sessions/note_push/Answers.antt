use Rattle.std.proofs.Common.{◌≡◌, [], ◌∷◌, ◌++◌, refl, ap, ◌∙◌, w64}
use Rattle.std.proofs.lemmas.Int.{to_z-of_z}
use Rattle.sync_room.specs.declared.session.Session.{Session}
use Rattle.sync_room.proofs.sessions.Sessions.note_push.Goals as goal

pub returns : goal.returns
returns c = λ s at.
    let is : c.index_mut.result.now ≡ s = let value = c.index_mut.ensures.value in cc in (
      record c.index_mut.result.now { pushed = c.push_reserved.new.self },
      record {
        same = ap (λ (s : Session). record s { pushed = c.push_reserved.new.self }) is;
        clocks = c.push_reserved.ensures.items ∙ ap (λ clock. c.index_mut.result.now.pushed.items ++ clock ∷ []) (to_z-of_z w64 c.args.client_clock c.ranges.client_clock) ∙ ap (λ (s : Session). s.pushed.items ++ c.args.client_clock ∷ []) is;
      },
      refl,
    )
