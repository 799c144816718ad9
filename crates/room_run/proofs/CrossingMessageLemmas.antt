-- Messages and events may go to another thread, and threads may share them.
use denote.Param.Send.{IsSend, IsSync}
use Rattle.room_events.specs.contracts.events.RoomEvents as RoomEvents
use Rattle.room_events.specs.contracts.room_event.RoomEvent as RoomEvent
use Rattle.room_model.proofs.handled.Handled.TheSendSync as Handled
use Rattle.sync_msgs.specs.contracts.client_message.ClientMessage as ClientMessage
use Rattle.sync_msgs.specs.contracts.data_event.DataEvent as DataEvent
use Rattle.sync_msgs.specs.contracts.events.Events as Events
use Rattle.sync_msgs.specs.contracts.out.Out as Out
use Rattle.sync_msgs.specs.contracts.server_message.ServerMessage as ServerMessage
use Rattle.room_run.proofs.CrossingValueLemmas.{of_diffs}

-- what a client sends
pub ClientMessage-send : IsSend ClientMessage.the_row
ClientMessage-send = search of_diffs depth 20

pub ClientMessage-sync : IsSync ClientMessage.the_row
ClientMessage-sync = search of_diffs depth 20

ClientMessage-field-send : IsSend ClientMessage.the_field.row
ClientMessage-field-send = search of_diffs depth 20

ClientMessage-field-sync : IsSync ClientMessage.the_field.row
ClientMessage-field-sync = search of_diffs depth 20

-- what a room sends
DataEvent-send : IsSend DataEvent.the_row
DataEvent-send = search of_diffs depth 20

DataEvent-sync : IsSync DataEvent.the_row
DataEvent-sync = search of_diffs depth 20

Events-send : IsSend Events.the_field.row
Events-send = search (DataEvent-send, of_diffs) depth 20

Events-sync : IsSync Events.the_field.row
Events-sync = search (DataEvent-sync, of_diffs) depth 20

ServerMessage-send : IsSend ServerMessage.the_field.row
ServerMessage-send = search (Events-send, of_diffs) depth 20

ServerMessage-sync : IsSync ServerMessage.the_field.row
ServerMessage-sync = search (Events-sync, of_diffs) depth 20

pub Out-send : IsSend Out.the_row
Out-send = search (ServerMessage-send, of_diffs) depth 20

pub Out-sync : IsSync Out.the_row
Out-sync = search (ServerMessage-sync, of_diffs) depth 20

-- what happens in a room
pub RoomEvent-send : IsSend RoomEvent.the_row
RoomEvent-send = search (ClientMessage-field-send, Handled.the_field_send, Out-send, of_diffs) depth 20

pub RoomEvent-sync : IsSync RoomEvent.the_row
RoomEvent-sync = search (ClientMessage-field-sync, Handled.the_field_sync, Out-sync, of_diffs) depth 20

pub RoomEvents-send : IsSend RoomEvents.the_field.row
RoomEvents-send = search (RoomEvent-send, of_diffs) depth 20
