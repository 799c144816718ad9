-- What a world answers to a step, from what its parts answer.
use Rattle.std.proofs.Common.{◌≡◌, ℕ, List, Bool, slice_get, Some, Ok, Err, OnOk, Result, refl, ap, subst}
use Rattle.std.specs.Global.{Vec}
use Rattle.rooms_val.specs.Data.{Pairs}
use Rattle.room_model.specs.Schemas.{WorldSchemas}
use Rattle.room_model.specs.Replicas.{Client}
use Rattle.room_model.specs.Worlds as model
use Rattle.room_model.specs.Worlds.{Outcome, shown_in, after_event}
use Rattle.room_model.specs.declared.event.Event.{Event}
use Rattle.room_model.specs.declared.event.Event.TheVariants as event
use Rattle.room_model.specs.declared.fault.StepFault.{StepFault}
use Rattle.room_model.specs.declared.fault.StepFault.TheVariants.{NoSuchClient, NoSuchSession, NothingThere, Edit, Connect, NoMark, Limit, Clip, NoClip, Paste, OutOfMemory}
use Rattle.room_model.specs.declared.line.OutLine.{OutLine}
use Rattle.side_effects.specs.declared.fault.EditFault.{EditFault}
use Rattle.peer_schemas.specs.Clients.{AreOfTables}
use Rattle.world_laws.specs.Restoring as law
use Rattle.world_laws.specs.Restoring.{ShowsSound}
use Rattle.world_laws.proofs.BackLemmas.{bail_brings, undo_brings, ever_since}
use Rattle.world_laws.proofs.RemovalLemmas.{goes_on_by_closing}
use Rattle.sync_world.specs.Standing.{Keeps, Stands}
use Rattle.sync_world.specs.Answers.{Answers, StepsTo, is_spent}
use Rattle.sync_world.specs.Restoring.{IsSinceMark, marked, went_on, GoesBack, Shows}
use Rattle.sync_world.specs.Entries.{ClosesSince}
use Rattle.sync_world.specs.declared.live.Live.{Live}
use Rattle.sync_world.specs.declared.world.World.{World}
use Rattle.peer_schemas.proofs.ClientLemmas.{lawful}

-- a world is spent exactly by the answer that memory ran out
pub steps_to : (schemas : WorldSchemas EditFault) (w : model.World) (outcome : Outcome EditFault) (answer : Result (Vec OutLine) (StepFault EditFault)) (live : Live)
    → ((n : ℕ) → ShowsSound schemas w n) → ((v : model.World) → Keeps schemas v live → (n : ℕ) → ShowsSound schemas v n)
    → Answers schemas w outcome answer live → StepsTo schemas w outcome answer (record { live = live; spent = is_spent answer })
steps_to schemas w outcome (Ok lines) live was sound h = (h.0, h.1, h.2, record { going = refl; keeps = h.3; sound = sound h.0.world h.3 })
steps_to schemas w outcome (Err NoSuchClient) live was sound h = (h.0, record { going = refl; keeps = h.1; sound = was })
steps_to schemas w outcome (Err NoSuchSession) live was sound h = (h.0, record { going = refl; keeps = h.1; sound = was })
steps_to schemas w outcome (Err NothingThere) live was sound h = (h.0, record { going = refl; keeps = h.1; sound = was })
steps_to schemas w outcome (Err (Edit fault)) live was sound h = (h.0, record { going = refl; keeps = h.1; sound = was })
steps_to schemas w outcome (Err (Connect fault)) live was sound h = (h.0, record { going = refl; keeps = h.1; sound = was })
steps_to schemas w outcome (Err NoMark) live was sound h = (h.0, record { going = refl; keeps = h.1; sound = was })
steps_to schemas w outcome (Err Limit) live was sound h = (h.0, record { going = refl; keeps = h.1; sound = was })
steps_to schemas w outcome (Err (Clip fault)) live was sound h = (h.0, record { going = refl; keeps = h.1; sound = was })
steps_to schemas w outcome (Err NoClip) live was sound h = (h.0, record { going = refl; keeps = h.1; sound = was })
steps_to schemas w outcome (Err (Paste fault)) live was sound h = (h.0, record { going = refl; keeps = h.1; sound = was })
steps_to schemas w outcome (Err OutOfMemory) live was sound h = refl

-- the worlds of the code since a mark are worlds since the mark in which its client shows what is sound
since_of : (schemas : WorldSchemas EditFault) (number : ℕ) (name : List ℕ) (before : Pairs) (w : model.World) → IsSinceMark schemas number name before w
    → law.IsSinceMark schemas number name before w
since_of schemas number name before _ (marked trace w client made code after stands there shows is then) =
    law.marked trace w client made stands.keeps.reachable there shows is (then.sound number)
since_of schemas number name before _ (went_on trace w e made after since spares is then) =
    law.went_on trace w e made (since_of schemas number name before w since) spares is (then.sound number)

-- what goes back to a mark shows again what the client showed when it made it
pub shows_again : (schemas : WorldSchemas EditFault) → AreOfTables schemas → (trace : Bool) (w : model.World) (number : ℕ) (name : List ℕ) (before : Pairs) (made : model.Stepped) (after : Client) (e : Event)
    → IsSinceMark schemas number name before w → GoesBack schemas w number name before e → after_event schemas trace w e ≡ Ok made → slice_get made.world.clients number ≡ Some after
    → shown_in schemas made.world after ≡ before
shows_again schemas tables trace w number name before made after (event.Bail client other) since goes is there =
    let at = goes.2 in
    let same : event.Bail client other ≡ event.Bail number name = λ i. event.Bail (goes.0 i) (goes.1 i) in
    bail_brings schemas trace w number name at.client after before at.diff made (ever_since schemas (lawful schemas tables) number name before w (since_of schemas number name before w since)) at.there at.bails at.admitted
    (subst (λ e. after_event schemas trace w e ≡ Ok made) same is) there
shows_again schemas tables trace w number name before made after (event.Undo client) since goes is there =
    let at = goes.1 in
    undo_brings schemas trace w number name at.client after before at.diff at.earlier at.first at.more made (ever_since schemas (lawful schemas tables) number name before w (since_of schemas number name before w since)) at.there at.last at.undoes at.admitted
    (subst (λ e. after_event schemas trace w e ≡ Ok made) (ap (λ n. event.Undo n) goes.0) is) there
shows_again schemas tables trace w number name before made after other since goes is there = absurd goes

module _ (trace : Bool) (e : Event) (old new : World) where
  -- a step leads from a world for which the code stands to the next
  abbrev pub Leads : Result (Vec OutLine) (StepFault EditFault) → Type 0
  Leads answer = (schemas : WorldSchemas EditFault) (w : model.World) → Stands schemas w old → StepsTo schemas w (after_event schemas trace w e) answer new

  pub goes_back : (answer : Result (Vec OutLine) (StepFault EditFault)) → Leads answer
      → OnOk answer ((schemas : WorldSchemas EditFault) (w : model.World) (number : ℕ) (name : List ℕ) (before : Pairs) → Stands schemas w old → IsSinceMark schemas number name before w
      → GoesBack schemas w number name before e → Shows schemas number before new)
  goes_back (Err fault) leads = tt
  goes_back (Ok lines) leads = λ schemas w number name before stands since goes.
      let answered = leads schemas w stands in
      record {
        world = answered.0.world;
        stands = answered.3;
        shows = λ after there. shows_again schemas stands.keeps.fits.tables trace w number name before answered.0 after e since goes answered.1 there;
      }

  -- of what it appends each entry without author removes the presence of a session that it closes
  pub closing : (answer : Result (Vec OutLine) (StepFault EditFault)) → Leads answer
      → OnOk answer ((schemas : WorldSchemas EditFault) (w : model.World) → Stands schemas w old → ClosesSince schemas w.room new)
  closing (Err fault) leads = tt
  closing (Ok lines) leads = λ schemas w stands.
      let answered = leads schemas w stands in
      record { world = answered.0.world; stands = answered.3; closes = goes_on_by_closing schemas w trace e answered.0 stands.keeps.reachable answered.1 }
