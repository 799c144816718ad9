use Rattle.std.proofs.Common.{w64, ◌≡◌, Bool, List, [], ◌∷◌, ◌++◌, map, filter, ap, ◌∙◌, rules}
use Rattle.std.specs.Prelude.{int_lt}
use Rattle.std.proofs.lemmas.Int.{to_z-of_z}
use mir.Val.{to_z, of_z, SFits}
use Rattle.schema_core.specs.SchemaOf.{schema_tree}
use Rattle.sync_msgs.specs.declared.data_event.DataEvent.{DataEvent}
use Rattle.room_schemas.specs.Decided.{decided}
use Rattle.room_accept.specs.Pushes.{member_of}
use Rattle.room_history.specs.Entries.{recent_tree}
use Rattle.room_history.specs.declared.recent_entry.RecentEntry.{RecentEntry}
use Rattle.room_messages.specs.Told.{decided_by, told_entry}
use Rattle.room_messages.proofs.ListLemmas.{made_further}
use Rattle.room_messages.proofs.updates_message.tell_entries.Goals as goal

pub entries-preserved-in_ok-push : goal.entries-preserved-in_ok-push
entries-preserved-in_ok-push c =
    let member = member_of c.args.member in
    let tell : RecentEntry → DataEvent = λ r. told_entry (decided_by c.args.room.now.kept) member (recent_tree r) in
    let test : RecentEntry → Bool = λ r. int_lt (to_z w64 (of_z w64 c.args.sent)) r.clock in
    let fits : SFits w64 c.in-Some.recent.now.clock = search rules in
    let passes = rw (to_z-of_z w64 c.in-Some.recent.now.clock fits) at c.if-sent-recent.true in
    let event = c.in_ok-told_entry.ensures ∙ ap (λ s. told_entry (decided (schema_tree s)) member (recent_tree c.in-Some.recent.now)) c.schema.ensures.schema in
    ap (λ (events : List DataEvent). events ++ map tell (filter test c.next.new.self)) (c.in_ok-push.ensures.ok ∙ ap (λ e. c.entries.events ++ e ∷ []) event)
    ∙ made_further tell test c.entries.events _ c.entries.recent-iterator c.next.new.self c.in-Some.recent.now c.in-Some.ensures.steps passes c.entries.invariant
