use Rattle.std.proofs.Common.{◌≡◌, ◌++◌, map, filter}
use Rattle.std.specs.Prelude.{int_lt}
use Rattle.room_accept.specs.Pushes.{member_of}
use Rattle.room_history.specs.Entries.{recent_tree}
use Rattle.room_messages.specs.Told.{decided_by, told_entry}
use Rattle.room_history.specs.declared.recent_entry.RecentEntry.{RecentEntry}
use Rattle.sync_msgs.specs.declared.data_event.DataEvent.{DataEvent}
use Rattle.room_messages.proofs.updates_message.tell_entries.Given as goal

-- the events so far and those of the entries that are left come to all
abbrev pub invariant-entries : goal.invariant-entries
invariant-entries l =
    let tell : RecentEntry → DataEvent = λ r. told_entry (decided_by l.room.kept) (member_of l.member) (recent_tree r) in
    l.events ++ map tell (filter (λ r. int_lt l.sent r.clock) l.recent-iterator) ≡ map tell (filter (λ r. int_lt l.sent r.clock) l.room.kept.recent.items)
