-- What is written of a made recording.
use Rattle.std.specs.Prelude.{◌≡◌, ℕ, zero, suc, ◌+◌, List, [], ◌∷◌, ◌++◌, length, slice_set, codes, decimal, Bool, false, if◌then◌else◌, Option, None, Some, Ok, Err, ◌⊎◌}
use Rattle.rooms_val.specs.Json.{text_of}
use Rattle.rand_pcg.specs.Lcg.{Lcg}
use Rattle.room_model.specs.Schemas.{WorldSchemas, doc}
use Rattle.room_model.specs.Histories.{records_of}
use Rattle.room_model.specs.Worlds.{World, Outcome, new_world, after_event}
use Rattle.room_model.specs.declared.event.Event.{Event}
use Rattle.room_model.specs.declared.event.Event.TheVariants as event
use Rattle.rec_format.specs.Events.{event_val}
use Rattle.side_effects.specs.declared.fault.EditFault.{EditFault}
use Rattle.load_maker.specs.Draws.{generator_of, draw_of}
use Rattle.load_maker.specs.Made.{first_events, events_of}
use Rattle.sync_world.specs.Standing.{IsAtVersion}
use Rattle.replay_job.specs.Replay.{IsFront}
use Rattle.replay_job.specs.Texts.{written_line}

-- a recording in the making
pub record Making : Type 0 where
  -- what is written of it so far
  pub text : List ℕ
  -- the world that the events make
  pub world : World
  -- how many sessions the clients asked for; these are numbered from 0
  pub sessions : ℕ
  -- the last session of each client, by the clients' numbers
  pub last : List ℕ
  -- how many events were taken, and how many were left out
  pub taken : ℕ
  pub refused : ℕ

-- what is printed, if it is
abbrev pub if_printed : Bool → List ℕ → List ℕ
if_printed print text = if print then text else []

-- the line of an event
abbrev pub event_line : Event → List ℕ
event_line e = written_line (text_of (event_val e))

-- the line of the header
abbrev pub header_line : List ℕ
header_line = written_line (codes "{\"recording\":1,\"version\":3}")

-- the client that asks for a session by an event, if one does
abbrev pub asking_client : Event → Option ℕ
asking_client (event.Connect client readonly) = Some client
asking_client other = None

-- a client has asked for a session, which has the next number
abbrev pub after_asking : Making → Option ℕ → Making
after_asking m None = m
after_asking m (Some client) = record m { sessions = m.sessions + 1; last = slice_set m.last client m.sessions }

module _ (print : Bool) where
  -- nothing happened
  abbrev pub nothing_made : Making
  nothing_made = record { text = if_printed print header_line; world = new_world; sessions = 0; last = 0 ∷ 0 ∷ 0 ∷ 0 ∷ []; taken = 0; refused = 0 }

  -- an event is taken; or it is left out where the world refuses it
  abbrev pub with_outcome : Making → Event → Outcome EditFault → Making
  with_outcome m e (Ok made) =
      after_asking (record m { text = m.text ++ if_printed print (event_line e); world = made.world; taken = m.taken + 1 }) (asking_client e)
  with_outcome m e (Err fault) = record m { refused = m.refused + 1 }

  module _ (schemas : WorldSchemas EditFault) where
    -- events come one after another
    abbrev pub with_events : Making → List Event → Making
    with_events m [] = m
    with_events m (e ∷ events) = with_events (with_outcome m e (after_event schemas false m.world e)) events

    -- so many draws come, each over the last session of each client
    abbrev pub with_draws : ℕ → Lcg → Making → Making
    with_draws zero generator m = m
    with_draws (suc draws) generator m =
        let drawn = draw_of generator in with_draws draws drawn.1 (with_events m (events_of drawn.0 m.last))

    -- the first events come, which aren't counted, and then the draws
    abbrev pub making_of : ℕ → ℕ → Making
    making_of seed size = with_draws size (generator_of seed) (record (with_events nothing_made first_events) { taken = 0; refused = 0 })

-- what came of so many draws: `{"clock":C,"draws":SIZE,"records":R,"refused":F,"taken":T}`
abbrev pub summary_of : ℕ → ℕ → ℕ → ℕ → ℕ → List ℕ
summary_of clock size records refused taken =
    codes "{\"clock\":" ++ decimal clock ++ codes ",\"draws\":" ++ decimal size ++ codes ",\"records\":" ++ decimal records
    ++ codes ",\"refused\":" ++ decimal refused ++ codes ",\"taken\":" ++ decimal taken ++ codes "}"

-- the last line: that of the end where the recording is printed, and else what came of it
abbrev pub last_line_of : Bool → ℕ → ℕ → ℕ → ℕ → ℕ → List ℕ
last_line_of print clock size records refused taken = if print then event_line event.End else written_line (summary_of clock size records refused taken)

-- the same of a recording in the making, by its room's clock and how many records the document has
abbrev pub last_line : WorldSchemas EditFault → ℕ → Bool → Making → List ℕ
last_line schemas size print m =
    let history = m.world.room.history in
    last_line_of print (length history) size (length (doc schemas.room (records_of history))) m.refused m.taken

-- what is written by a seed of so many draws
abbrev pub made_text : WorldSchemas EditFault → ℕ → ℕ → Bool → List ℕ
made_text schemas seed size print = let m = making_of print schemas seed size in m.text ++ last_line schemas size print m

-- the same, where the room's schema is that of version 3
abbrev pub IsMade : ℕ → ℕ → Bool → List ℕ → Type 0
IsMade seed size print text = (schemas : WorldSchemas EditFault) × IsAtVersion 3 schemas × (text ≡ made_text schemas seed size print)

-- a front of it
abbrev pub IsMadeFront : ℕ → ℕ → Bool → List ℕ → Type 0
IsMadeFront seed size print front = (front ≡ []) ⊎ ((text : List ℕ) × IsMade seed size print text × IsFront front text)
