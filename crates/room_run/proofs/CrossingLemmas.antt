-- Threads may share a running room, and what it hands out may go to another thread.
use denote.Param.Send.{IsSend, IsSync}
use Rattle.atomic_table.proofs.badge.Badge.TheSendSync as Badge
use Rattle.atomic_table.proofs.send_lease.SendLease.TheSendSync as SendLease
use Rattle.atomic_table.proofs.shared.Shared.TheSendSync as Shared
use Rattle.room_run.specs.contracts.close.Closed as Closed
use Rattle.room_run.specs.contracts.held.Held as Held
use Rattle.room_run.specs.contracts.running.RunningRoom as RunningRoom
use Rattle.room_run.proofs.CrossingValueLemmas.{plain}
use Rattle.room_run.proofs.CrossingMessageLemmas.{ClientMessage-send, ClientMessage-sync, Out-send, Out-sync, RoomEvent-send, RoomEvent-sync, RoomEvents-send}
use Rattle.room_run.proofs.CrossingRoomLemmas.{Room-send, Room-field-send}

-- what is in the slot
Held-send : IsSend Held.the_row
Held-send = search (Room-field-send, RoomEvent-send, plain) depth 20

pub RunningRoom-send : IsSend RunningRoom.the_row
RunningRoom-send = search (Held-send, Shared.the_send, SendLease.the_send, plain) depth 20

pub RunningRoom-sync : IsSync RunningRoom.the_row
RunningRoom-sync = search (Held-send, Shared.the_sync, SendLease.the_sync, plain) depth 20

-- what a room was
pub Closed-send : IsSend Closed.the_row
Closed-send = search (Room-field-send, RoomEvents-send, plain) depth 20

-- for a `search` at a call that starts threads, with what they share, take and give back
pub ruleset crosses = (RunningRoom-send, RunningRoom-sync, Closed-send, Room-send, ClientMessage-send, ClientMessage-sync, Out-send, Out-sync, RoomEvent-send, RoomEvent-sync, Badge.the_send, plain)
