-- A client on a link to a room: what the events of a script make of it, and what it prints and says then.
use Rattle.std.specs.Prelude.{ℕ, nat_le, List, [], ◌∷◌, ◌++◌, length, map, Bool, true, false, if◌then◌else◌, Option, Some, None, is_some, Result, Ok, Err}
use Rattle.std.specs.Option.{option_map_or}
use Rattle.rooms_val.specs.Data.{Data}
use Rattle.rooms_val.specs.View.{data_of, val_of}
use Rattle.field_ops.specs.RecordOps.{RecordOps}
use Rattle.doc_model.specs.Marks.{after_mark, undo_diff, redo_diff}
use Rattle.client_link.specs.declared.hearing.TheConstants.{LONGEST_REPLY}
use Rattle.client_link.specs.declared.saying.Saying.{Saying}
use Rattle.client_link.specs.declared.saying.Saying.TheVariants as say
use Rattle.client_link.specs.declared.waiting.Heard.{Heard}
use Rattle.client_link.specs.declared.waiting.Heard.TheVariants as heard
use Rattle.live_views.specs.Watches.{Watched, news, told_now}
use Rattle.room_model.specs.Replicas.{new_client, schema_of, after_cut, push_all}
use Rattle.room_model.specs.Schemas.{WorldSchemas, records_with}
use Rattle.room_model.specs.Worlds.{map_val}
use Rattle.room_model.specs.declared.fault.StepFault.{StepFault}
use Rattle.room_model.specs.declared.fault.StepFault.TheVariants.{Edit, NoMark, Limit}
use Rattle.room_model.specs.declared.line.OutLine.{OutLine}
use Rattle.room_model.specs.declared.line.OutLine.TheVariants as out
use Rattle.rec_format.specs.declared.printed.PrintedLine.TheVariants as printed
use Rattle.shape_tree.specs.Queries.{ids_meeting}
use Rattle.shape_tree.specs.declared.query.Query.{Query}
use Rattle.shape_tree.specs.declared.view.View.{View}
use Rattle.side_effects.specs.declared.fault.EditFault.{EditFault}
use Rattle.signal_core.specs.declared.watch.TheConstants.{MOST_WATCHES}
use Rattle.sync_client.specs.Calls.{ClientState, asking, asks, after_message}
use Rattle.sync_client.specs.Faults.{take_fault}
use Rattle.sync_client.specs.Presences.{with_presence}
use Rattle.sync_msgs.specs.declared.server_message.ServerMessage.{ServerMessage}
use Rattle.sync_peer.specs.Calls.{shown, others_shown, completion, refusal, with_marks, edited, undone, redone, bailed, bail_done}
use Rattle.undo_marks.specs.declared.fault.BailFault.{BailFault}
use Rattle.wire_text.specs.Feeding.{Assembly, empty}
use Rattle.room_join.specs.Texts.{wire_fault_text, take_fault_text}
use Rattle.room_join.specs.declared.join_line.JoinLine.{JoinLine}
use Rattle.room_join.specs.declared.join_line.JoinLine.TheVariants as line
use Rattle.room_join.specs.declared.act.Act.{Act}
use Rattle.room_join.specs.declared.act.Act.TheVariants as act

-- a client that has joined
pub record Joiner : Type 0 where
  -- the client, with its base
  pub state : ClientState
  -- the views that it watches by number, each with what was last told of it
  pub watched : List Watched
  -- what came of a message that isn't whole
  pub waiting : Assembly
  -- whether it was told that its link has ended
  pub is_lost : Bool

-- a client of a version that has asked to be connected, in its request of number 0, and did nothing else
abbrev pub new_joiner : ℕ → Joiner
new_joiner version = record {
  state = record { base = []; client = asking 0 (new_client version) };
  watched = [];
  waiting = empty LONGEST_REPLY;
  is_lost = false;
}

-- what an event makes: the client after it, and the lines that are its own
pub record Acted : Type 0 where
  pub joiner : Joiner
  pub lines : List JoinLine

-- what an event makes, or why it can't happen
abbrev pub Outcome : Type 0
Outcome = Result Acted (StepFault EditFault)

-- the event happens, prints these lines, and makes this of the client with its base
abbrev pub happens : List JoinLine → ClientState → Joiner → Outcome
happens lines state joiner = Ok (record { joiner = record joiner { state = state }; lines = lines })

-- a bail finds its mark, and makes this of the client with its base; or it doesn't
abbrev pub bail_with : Result (Unit {0}) BailFault → ClientState → Joiner → Outcome
bail_with (Ok done) state joiner = happens [] state joiner
bail_with (Err fault) state joiner = Err NoMark

-- a line that recordings print too
abbrev pub out_line : OutLine → JoinLine
out_line l = line.Printed (printed.World l)

-- the line at the end of a script: the clock that was reached, and how many works are pending
abbrev pub end_line : Joiner → JoinLine
end_line joiner = line.End joiner.state.client.reached (length joiner.state.client.pending)

-- a client that watches a further view, of which nothing was told
abbrev pub with_watch : View → Joiner → Joiner
with_watch view joiner = record joiner { watched = joiner.watched ++ record { view = view; told = None } ∷ [] }

-- a client watches a further view; Limit if it watches 64
abbrev pub on_watch : View → Joiner → Outcome
on_watch view joiner =
    if nat_le MOST_WATCHES (length joiner.watched) then Err Limit
    else Ok (record { joiner = with_watch view joiner; lines = [] })

-- the line by which it tells a watch, by its number
abbrev pub told_line : ℕ × Data → JoinLine
told_line told = line.Printed (printed.Told 0 (val_of told.1) told.0)

-- a client makes a mark
abbrev pub on_mark : List ℕ → Joiner → Outcome
on_mark name joiner = happens [] (with_marks (after_mark name joiner.state.client.marks) joiner.state) joiner

module _ (schemas : WorldSchemas EditFault) where
  -- an edit of what the client shows is done as it was completed, or refused
  abbrev pub on_completed : Result RecordOps EditFault → Joiner → Outcome
  on_completed (Ok diff) joiner = happens [] (edited schemas diff joiner.state) joiner
  on_completed (Err fault) joiner = Err (Edit fault)

  -- a client edits what it shows
  abbrev pub on_edit : RecordOps → Joiner → Outcome
  on_edit wanted joiner = on_completed (completion schemas joiner.state wanted) joiner

  -- a client sets its presence
  abbrev pub on_presence : Data → Joiner → Outcome
  on_presence d joiner =
      option_map_or (λ fault. Err (Edit fault)) (refusal schemas joiner.state d)
      (happens [] (record joiner.state { client = with_presence d joiner.state.client }) joiner)

  -- a client takes its edits back to its last mark
  abbrev pub on_undo : Joiner → Outcome
  on_undo joiner = happens (out_line (out.Undo 0 (is_some (undo_diff joiner.state.client.marks))) ∷ []) (undone schemas joiner.state) joiner

  -- a client does again what it took back last
  abbrev pub on_redo : Joiner → Outcome
  on_redo joiner = happens (out_line (out.Redo 0 (is_some (redo_diff joiner.state.client.marks))) ∷ []) (redone schemas joiner.state) joiner

  -- a client takes its edits back to a mark, and forgets them
  abbrev pub on_bail : List ℕ → Joiner → Outcome
  on_bail name joiner = bail_with (bail_done name joiner.state.client.marks) (bailed schemas name joiner.state) joiner

  -- a client asks for the ids of the records of a type, among those that it shows, that meet a query
  abbrev pub on_query : List ℕ → Query → Joiner → Outcome
  on_query type query joiner = happens (line.Printed (printed.Ids 0 (ids_meeting (shown schemas joiner.state) type query)) ∷ []) joiner.state joiner

  -- the line by which a client shows what it has
  abbrev pub show_line : ClientState → JoinLine
  show_line state = out_line (out.Show 0 state.client.reached (map_val (shown schemas state)) (map_val (others_shown schemas state)) (length state.client.pending))

  -- a client shows what it has
  abbrev pub on_show : Joiner → Outcome
  on_show joiner = happens (show_line joiner.state ∷ []) joiner.state joiner

  -- what it makes that a client does something by itself
  abbrev pub acts : Act → Joiner → Outcome
  acts (act.Edit diff) joiner = on_edit diff joiner
  acts (act.Presence val) joiner = on_presence (data_of val) joiner
  acts (act.Mark name) joiner = on_mark name joiner
  acts act.Undo joiner = on_undo joiner
  acts act.Redo joiner = on_redo joiner
  acts (act.Bail name) joiner = on_bail name joiner
  acts (act.Watch view) joiner = on_watch view joiner
  acts (act.Query type query) joiner = on_query type query joiner
  acts act.Show joiner = on_show joiner

  -- a client that took a message of the room
  abbrev pub with_message : ServerMessage → Joiner → Joiner
  with_message message joiner = record joiner {
    state = after_message (schema_of schemas joiner.state.client).admits schemas.room.is_document joiner.state message;
  }

  -- a client whose link has ended: of its base the document stays, and its edits stay pending
  abbrev pub with_end : Joiner → Joiner
  with_end joiner = record joiner {
    state = record {
      base = records_with schemas.room.is_document joiner.state.base;
      client = after_cut joiner.state.client;
    };
    is_lost = true;
  }

  -- what a client makes of a message, or the text of why it doesn't take it
  abbrev pub taken_of : Joiner → ServerMessage → Result Acted (Option (List ℕ))
  taken_of joiner message =
      option_map_or (λ fault. Err (take_fault_text fault)) (take_fault joiner.state.client message)
      (Ok (record { joiner = with_message message joiner; lines = [] }))

  -- what a client makes of what it waited for, or the text of why that is refused
  abbrev pub heard_of : Joiner → Heard → Result Acted (Option (List ℕ))
  heard_of joiner (heard.Message message) = taken_of joiner message
  heard_of joiner (heard.Refused fault) = Err (wire_fault_text fault)
  heard_of joiner heard.Lost = Ok (record { joiner = with_end joiner; lines = line.Lost ∷ [] })
  heard_of joiner heard.Idle = Ok (record { joiner = joiner; lines = line.Idle ∷ [] })

  -- what a client says first: that it joins a room, not to read only, and that it wants to be connected
  abbrev pub hello : ℕ → ℕ → List Saying
  hello room version =
      let client = new_client version in
      say.Join (record { readonly = false; room = room }) ∷ say.Message (asks (schema_of schemas client).versions 0 client) ∷ []

  -- what a client says after an event: each push that it can make
  abbrev pub pushes : Joiner → List Saying
  pushes joiner = map say.Message (push_all joiner.state.client).messages

  -- a client that said so
  abbrev pub after_pushes : Joiner → Joiner
  after_pushes joiner = record joiner { state = record joiner.state { client = (push_all joiner.state.client).client } }

  -- the lines by which a client tells the views that it watches, as far as they changed
  abbrev pub told_lines : Joiner → List JoinLine
  told_lines joiner = map told_line (news (shown schemas joiner.state) (map Some joiner.watched))

  -- a client that told them
  abbrev pub after_told : Joiner → Joiner
  after_told joiner = record joiner { watched = map (told_now (shown schemas joiner.state)) joiner.watched }
