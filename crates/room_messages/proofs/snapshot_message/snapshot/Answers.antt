use Rattle.std.proofs.Common.{w64, ◌≡◌, pos, length, option_map, ap, ◌∙◌, rules}
use Rattle.std.proofs.lemmas.Int.{to_z-of_z}
use mir.Val.{SFits}
use Rattle.migrate_seq.specs.Plans.{newest_versions}
use Rattle.schema_core.specs.SchemaOf.{schema_tree}
use Rattle.sync_msgs.specs.declared.server_message.ServerMessage.TheVariants.{Connect}
use Rattle.room_model.specs.Histories.{start_of}
use Rattle.room_model.specs.Messages.{known_clock}
use Rattle.room_model.specs.declared.limits.TheConstants.{PROTOCOL}
use Rattle.room_messages.proofs.SnapshotLemmas.{from_start}
use Rattle.room_messages.proofs.snapshot_message.snapshot.Goals as goal

pub returns-clause-message : goal.returns-clause-message
returns-clause-message g c = λ first history keeps are.
    let start = start_of first history in
    let reached_fits : SFits w64 c.args.request.reached = search rules in
    let reached = to_z-of_z w64 c.args.request.reached reached_fits in
    let known = known_clock c.args.request.reached start (length history) in
    let is = c.known_clock-known.ensures first history keeps ∙ ap (λ z. option_map pos (known_clock z start (length history))) reached in
    let low = c.clock.ensures.low in
    let high = c.clock.ensures.high in
    let fits : SFits w64 c.clock.result = search rules in
    let clock = to_z-of_z w64 c.clock.result fits ∙ c.clock.ensures.clock ∙ keeps.clock in
    let hydration = c.hydration.ensures known is in
    let diff = c.in_ok-diff.ensures.diff first history known keeps are is (from_start c.args.request.reached start (length history)) in
    let versions = c.in_ok-serialized.ensures ∙ ap newest_versions c.sequences.ensures ∙ ap (λ s. newest_versions (schema_tree s).sequences) c.schema.ensures.schema in
    λ i. Connect (hydration i) (c.in_ok-copy.ensures i) PROTOCOL (versions i) (diff i) (clock i) c.args.member.readonly
