use Rattle.std.proofs.Common.{w64, ◌≡◌, pos, length, map, [], ◌∷◌, ◌++◌, ◌∙◌, rules}
use Rattle.std.proofs.lemmas.Int.{to_z-of_z}
use mir.Val.{SFits}
use Rattle.schema_core.specs.SchemaOf.{schema_tree}
use Rattle.sync_msgs.specs.declared.data_event.DataEvent.TheVariants.{Patch}
use Rattle.room_model.specs.Histories.{above}
use Rattle.room_schemas.specs.Decided.{decided}
use Rattle.room_accept.specs.Pushes.{member_of}
use Rattle.room_messages.specs.Results.{bare}
use Rattle.room_messages.proofs.ResultLemmas.{bare_of_clocks}
use Rattle.room_messages.proofs.updates_message.catch_up.Goals as goal

pub returns-clause-events : goal.returns-clause-events
returns-clause-events g c = λ first history told keeps is from pushed.
    let schemas = decided (schema_tree c.args.room.now.kept.schema) in
    let low = c.clock.ensures.low in
    let high = c.clock.ensures.high in
    let fits : SFits w64 c.clock.result = search rules in
    let clock = to_z-of_z w64 c.clock.result fits ∙ c.clock.ensures.clock ∙ keeps.clock in
    let low_2 = c.clock-2.ensures.low in
    let high_2 = c.clock-2.ensures.high in
    let fits_2 : SFits w64 c.clock-2.result = search rules in
    let clock_2 = to_z-of_z w64 c.clock-2.result fits_2 ∙ c.clock-2.ensures.clock ∙ keeps.clock in
    let results =
    c.in_ok-events.ensures
    ∙ (λ i. map (bare (clock i)) (pushed i))
    ∙ bare_of_clocks schemas (member_of c.args.member) (length history) (above told history) in
    let sent = to_z-of_z w64 c.args.sent c.ranges.sent ∙ is in
    c.in_ok-push.ensures.ok ∙ (λ i. results i ++ Patch (c.in_ok-diff.ensures.diff first history told keeps sent from i) (clock_2 i) ∷ [])
