use Rattle.std.proofs.Common.{refl, rules, ◌∙◌}
use Rattle.link_texts.proofs.SendingLemmas.{tells_then}
use Rattle.room_serve.proofs.CourseLemmas.{blamed_then, converses_then, tells_same}
use Rattle.room_serve.proofs.TurnLemmas.{stays}
use Rattle.room_serve.specs.Turns.{Converses}
use Rattle.room_serve.proofs.conversation.Door.converse.Goals as goal

pub turns-init : goal.turns-init
turns-init g c =
    let begun = c.args.conversation.now in
    (refl, refl, c.requires.open, search rules, tells_same (Converses begun begun) _ (λ x. stays begun begun x refl refl c.requires.open.wire refl refl))

pub returns-then-not-turn-clause-talk : goal.returns-then-not-turn-clause-talk
returns-then-not-turn-clause-talk g c =
    let i = c.turns.invariant in
    tells_then _ _ _ i.4 c.turn.ensures.talk (λ x y z first second. converses_then c.args.conversation.now c.turns.conversation c.turn.new.conversation i.2 i.1 x y z first second)

pub returns-then-not-is_open-clause-talk : goal.returns-then-not-is_open-clause-talk
returns-then-not-is_open-clause-talk g c =
    let i = c.turns.invariant in
    tells_then _ _ _ i.4 c.turn.ensures.talk (λ x y z first second. converses_then c.args.conversation.now c.turns.conversation c.turn.new.conversation i.2 i.1 x y z first second)

pub turns-preserved : goal.turns-preserved
turns-preserved g c =
    let i = c.turns.invariant in (
      c.turn.ensures.own ∙ i.0,
      c.turn.ensures.session ∙ i.1,
      search rules,
      blamed_then i.3 c.turn.ensures.blamed,
      tells_then _ _ _ i.4 c.turn.ensures.talk
          (λ x y z first second. converses_then c.args.conversation.now c.turns.conversation c.turn.new.conversation i.2 i.1 x y z first second),
    )
