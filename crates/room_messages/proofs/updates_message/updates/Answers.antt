use Rattle.std.proofs.Common.{w64, ◌≡◌, ℕ, ◌-◌, ◌≤◌, pos, ◌-ℤ◌, cond, length, map, filter, sym, ap, ◌∙◌, arith, rules}
use Rattle.std.specs.Prelude.{int_lt}
use Rattle.std.proofs.lemmas.Int.{to_z-of_z, ints}
use mir.Val.{SFits}
use Rattle.schema_core.specs.SchemaOf.{schema_tree}
use Rattle.sync_msgs.specs.declared.server_message.ServerMessage.TheVariants.{Data}
use Rattle.room_model.specs.Messages.{events_after, catch_up}
use Rattle.room_schemas.specs.Decided.{decided}
use Rattle.room_accept.specs.Pushes.{member_of}
use Rattle.room_history.specs.Entries.{recent_tree}
use Rattle.room_messages.specs.Told.{told_entry}
use Rattle.room_messages.proofs.EventLemmas.{events_of_items}
use Rattle.room_messages.proofs.UpdatesLemmas.{few, told_each}
use Rattle.room_messages.proofs.updates_message.updates.Goals as goal

pub returns-in_ok-events-2-clause-message : goal.returns-in_ok-events-2-clause-message
returns-in_ok-events-2-clause-message g c = λ first history told keeps own is within near pushed.
    let schemas = decided (schema_tree c.args.room.now.kept.schema) in
    let member = member_of c.args.member in
    let items = c.args.room.now.kept.recent.items in
    let low = c.clock.ensures.low in
    let high = c.clock.ensures.high in
    let fits : SFits w64 c.clock.result = search rules in
    let fits_less : SFits w64 (c.clock.result -ℤ pos 32) = search rules in
    let sent = to_z-of_z w64 c.args.sent c.ranges.sent in
    let test = rw (sent, to_z-of_z w64 c.clock.result fits, to_z-of_z w64 (c.clock.result -ℤ pos 32) fits_less) at c.if-sent-clock.false in
    let near = few c.clock.result c.args.sent (length history) told (c.clock.ensures.clock ∙ keeps.clock) is test in
    let events =
    c.in_ok-events-2.ensures
    ∙ ap (λ z. map (λ r. told_entry schemas member (recent_tree r)) (filter (λ r. int_lt z r.clock) items)) (sent ∙ is)
    ∙ events_of_items schemas member told history items keeps.recent near own in
    ap Data events ∙ ap (λ b. Data (cond b (events_after schemas member told history) (catch_up schemas member told history))) (sym (told_each (length history) told near))
