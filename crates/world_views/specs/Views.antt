-- What the clients of a world watch, and what an event prints. An event makes of a world with its watches the next one, or it can't
-- happen.
use Rattle.std.specs.Prelude.{ℕ, ◌+◌, nat_le, List, [], ◌∷◌, ◌++◌, length, map, Bool, if◌then◌else◌, None, Some, slice_get, slice_set, Result, Ok, Err}
use Rattle.std.specs.Option.{option_map_or}
use Rattle.rooms_val.specs.Data.{Data, Pairs}
use Rattle.rooms_val.specs.View.{val_of}
use Rattle.room_model.specs.Schemas.{WorldSchemas}
use Rattle.room_model.specs.Worlds as model
use Rattle.room_model.specs.Worlds.{World, new_world, shown_in}
use Rattle.room_model.specs.declared.event.Event.{Event}
use Rattle.room_model.specs.declared.event.Event.TheVariants as event
use Rattle.room_model.specs.declared.fault.StepFault.{StepFault}
use Rattle.room_model.specs.declared.fault.StepFault.TheVariants.{NoSuchClient, Limit}
use Rattle.signal_core.specs.declared.watch.TheConstants.{MOST_WATCHES}
use Rattle.shape_tree.specs.Queries.{ids_meeting}
use Rattle.shape_tree.specs.declared.query.Query.{Query}
use Rattle.shape_tree.specs.declared.view.View.{View}
use Rattle.live_views.specs.Watches.{Watched, news, told_now}
use Rattle.rec_format.specs.declared.recorded.RecordedEvent.{RecordedEvent}
use Rattle.rec_format.specs.declared.recorded.RecordedEvent.TheVariants as recorded
use Rattle.rec_format.specs.declared.printed.PrintedLine.{PrintedLine}
use Rattle.rec_format.specs.declared.printed.PrintedLine.TheVariants as printed

-- a world, and what its clients watch
pub record Viewed : Type 0 where
  pub world : World
  -- by the numbers of the clients, as many as those: each view, with what was last told of it
  pub watched : List (List Watched)

-- the same where there is no client, so that nobody watches
abbrev pub nobody_viewing : World → Viewed
nobody_viewing world = record { world = world; watched = [] }

-- a world in which nothing happened
abbrev pub nothing_viewed : Viewed
nothing_viewed = nobody_viewing new_world

-- what an event that can happen makes: the next world with its watches, and what is printed
pub record Stepped : Type 0 where
  pub viewed : Viewed
  pub lines : List PrintedLine

-- what the event makes, or why it can't happen. The fault of an edit is an F
abbrev pub Outcome : Type 0 → Type 0
Outcome F = Result Stepped (StepFault F)

-- the line by which a client tells the value of a watch
abbrev pub told_line : ℕ → ℕ × Data → PrintedLine
told_line number told = printed.Told number (val_of told.1) told.0

-- the lines of a client that shows a map: one for each watch whose view now tells something else than was last told
abbrev pub lines_of : Pairs → ℕ → List Watched → List PrintedLine
lines_of m number ws = map (told_line number) (news m (map Some ws))

-- the lines of some clients, by the maps that they show. The first of them has this number
abbrev pub told_lines : ℕ → List Pairs → List (List Watched) → List PrintedLine
told_lines number (m ∷ maps) (ws ∷ watched) = lines_of m number ws ++ told_lines (number + 1) maps watched
told_lines number maps watched = []

-- what they watch, once each view was told
abbrev pub clients_told : List Pairs → List (List Watched) → List (List Watched)
clients_told (m ∷ maps) (ws ∷ watched) = map (told_now m) ws ∷ clients_told maps watched
clients_told maps watched = []

-- a client that joins watches nothing yet
abbrev pub with_joined : Event → List (List Watched) → List (List Watched)
with_joined (event.Client version) watched = watched ++ [] ∷ []
with_joined other watched = watched

module _ {F : Type 0} (schemas : WorldSchemas F) where
  -- what each client shows
  abbrev pub shown_by : World → List Pairs
  shown_by world = map (shown_in schemas world) world.clients

  -- these lines are printed, and then what each client has to tell. From then on that counts as told
  abbrev pub tells : List PrintedLine → Viewed → Stepped
  tells lines viewed =
      let maps = shown_by viewed.world in record {
        viewed = record viewed { watched = clients_told maps viewed.watched };
        lines = lines ++ told_lines 0 maps viewed.watched;
      }

  -- what the world's own outcome makes of it with its watches
  abbrev pub with_made : Event → Viewed → model.Outcome F → Outcome F
  with_made e viewed (Ok made) = Ok (tells (map printed.World made.lines) (record { world = made.world; watched = with_joined e viewed.watched }))
  with_made e viewed (Err fault) = Err fault

  -- an event happens in the world
  abbrev pub on_event : Bool → Event → Viewed → Outcome F
  on_event trace e viewed = with_made e viewed (model.after_event schemas trace viewed.world e)

  -- a client watches a view, of which nothing was told
  abbrev pub with_watch : ℕ → View → List Watched → Viewed → Viewed
  with_watch number view ws viewed = record viewed { watched = slice_set viewed.watched number (ws ++ record { view = view; told = None } ∷ []) }

  -- a client watches a further view; Limit where it watches 64
  abbrev pub on_watch : ℕ → View → Viewed → Outcome F
  on_watch number view viewed =
      option_map_or (λ ws. if nat_le MOST_WATCHES (length ws) then Err Limit else Ok (tells [] (with_watch number view ws viewed)))
      (slice_get viewed.watched number) (Err NoSuchClient)

  -- a client asks for the ids of the records of a type, among those that it shows, that meet a query
  abbrev pub on_query : ℕ → List ℕ → Query → Viewed → Outcome F
  on_query number type query viewed =
      option_map_or (λ client. Ok (tells (printed.Ids number (ids_meeting (shown_in schemas viewed.world client) type query) ∷ []) viewed))
      (slice_get viewed.world.clients number) (Err NoSuchClient)

  -- what an event of a recording makes
  abbrev pub after_recorded : Bool → Viewed → RecordedEvent → Outcome F
  after_recorded trace viewed (recorded.World e) = on_event trace e viewed
  after_recorded trace viewed (recorded.Watch client view) = on_watch client view viewed
  after_recorded trace viewed (recorded.Query client type query) = on_query client type query viewed
