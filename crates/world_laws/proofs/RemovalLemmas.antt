-- What an event appends to the history of a room without an author.
use Rattle.std.proofs.Common.{◌≡◌, ℕ, ◌++◌, Bool, true, false, ◌&&◌, List, [], ◌∷◌, Ok, refl, ap, subst, ◌∙◌}
use Rattle.std.specs.List.{list_all}
use Rattle.room_model.specs.Schemas.{Schemas, WorldSchemas}
use Rattle.room_model.specs.Histories.{History}
use Rattle.room_model.specs.Closing.{with_removals, was_open, is_closed, Appends}
use Rattle.room_model.specs.Rooms.{Room, removal, after_enter, after_drain}
use Rattle.room_model.specs.Worlds.{World, Stepped, with_channel, after_event}
use Rattle.room_model.specs.declared.event.Event.{Event}
use Rattle.room_model.specs.declared.handled.Handled.{Handled}
use Rattle.room_model.specs.declared.handled.Handled.TheVariants.{Taken, Entered, Pong, Ended}
use Rattle.room_model.specs.declared.history.Entry.{Entry}
use Rattle.room_model.specs.Replicas.{after_notice}
use Rattle.rooms_val.proofs.Truths.{and_left, and_right}
use Rattle.room_model.proofs.ClosingLemmas.{message_appends, leave_closes}
use Rattle.sync_msgs.specs.declared.client_message.ClientMessage.{ClientMessage}
use Rattle.world_laws.specs.Presences.{AreOfClosed, GoesOnByClosing}
use Rattle.world_laws.specs.Reachable.{ReachableWorld}
use Rattle.world_laws.proofs.EventLemmas.{Keeps, Holds, event_keeps}
use Rattle.world_laws.proofs.PushLemmas.{pushing_keeps}
use Rattle.world_laws.proofs.PresenceLemmas.{closed_added, message_closed, leave_closed, drain_closed, not_open}

-- what is appended below some removals stays below them
removals_over : (ks : List ℕ) (fresh history : History) → with_removals ks (fresh ++ history) ≡ with_removals ks fresh ++ history
removals_over [] fresh history = refl
removals_over (k ∷ ks) fresh history = removals_over ks (removal k ∷ fresh) history

-- whoever is closed in a room is still closed in another
abbrev StayClosed : Room → Room → Type 0
StayClosed r after = (k : ℕ) → is_closed r k ≡ true → is_closed after k ≡ true

module _ (before : Room) where
  -- a room that came of another
  record Moved (r : Room) : Type 0 where
    by : GoesOnByClosing before r
    still : StayClosed before r

  of_later : (r after : Room) → StayClosed r after → (fresh : History) → AreOfClosed before r fresh → AreOfClosed before after fresh
  of_later r after more [] h = tt
  of_later r after more (entry ∷ fresh) h =
      ((λ none. let c = h.0 none in (c.0, c.1, c.2, more c.0 c.3)), of_later r after more fresh h.1)

  -- who is open after some time was not closed before
  was_not : (k : ℕ) (r : Room) → StayClosed before r → was_open r k ≡ true → is_closed before k ≡ false
  was_not k r still open_now = elim (is_closed before k) as (λ b. is_closed before k ≡ b → b ≡ false) [
    | true ↦ λ is. absurd (not_open k r open_now (still k is))
    | false ↦ λ is. refl
  ] refl

  removals_close : (r after : Room) → StayClosed before r → (ks : List ℕ) (fresh : History) → list_all (λ k. was_open r k && is_closed after k) ks ≡ true
      → AreOfClosed before after fresh → AreOfClosed before after (with_removals ks fresh)
  removals_close r after still [] fresh all h = h
  removals_close r after still (k ∷ ks) fresh all h =
      let closes : ℕ → Bool = λ j. was_open r j && is_closed after j in
      let this : closes k ≡ true = and_left (closes k) (list_all closes ks) all in
      let was : is_closed before k ≡ false = was_not k r still (and_left (was_open r k) (is_closed after k) this) in
      let now : is_closed after k ≡ true = and_right (was_open r k) (is_closed after k) this in
      removals_close r after still ks (removal k ∷ fresh) (and_right (closes k) (list_all closes ks) all) ((λ none. (k, refl, was, now)), h)

  -- sessions were closed, and their removals stand on top
  closing_moves : (r after : Room) → StayClosed before r → StayClosed r after → (ks : List ℕ) (fresh history : History) → history ≡ fresh ++ before.history
      → AreOfClosed before after fresh → list_all (λ k. was_open r k && is_closed after k) ks ≡ true → after.history ≡ with_removals ks history → Moved after
  closing_moves r after still more ks fresh history parts h ends appended = record {
    by = record {
      fresh = with_removals ks fresh;
      appended = appended ∙ ap (with_removals ks) parts ∙ removals_over ks fresh before.history;
      closes = removals_close r after still ks fresh ends h;
    };
    still = λ k is. more k (still k is);
  }

  appended_moves : (schemas : Schemas) (r : Room) (n : ℕ) (said : ClientMessage) (reply : Handled) (after : Room) (ks : List ℕ) → StayClosed r after
      → Appends schemas r n said reply after ks → Moved r → Moved after
  appended_moves schemas r n said Taken after ks more h m =
      let entry = h.0 in
      let below = of_later r after more m.by.fresh m.by.closes in
      closing_moves r after m.still more ks (entry ∷ m.by.fresh) (entry ∷ r.history) (ap (λ hs. entry ∷ hs) m.by.appended)
      ((λ none. absurd (let some = ap (λ (e : Entry). e.author) h.1.makes in cc)), below) h.2.ends h.2.appended
  appended_moves schemas r n said Entered after ks more h m =
      closing_moves r after m.still more ks m.by.fresh r.history m.by.appended (of_later r after more m.by.fresh m.by.closes) h.ends h.appended
  appended_moves schemas r n said Pong after ks more h m =
      closing_moves r after m.still more ks m.by.fresh r.history m.by.appended (of_later r after more m.by.fresh m.by.closes) h.ends h.appended
  appended_moves schemas r n said (Ended reason) after ks more h m =
      closing_moves r after m.still more ks m.by.fresh r.history m.by.appended (of_later r after more m.by.fresh m.by.closes) h.ends h.appended

  -- nothing was appended
  quiet_moves : (r after : Room) → after.history ≡ r.history → StayClosed r after → Moved r → Moved after
  quiet_moves r after same more m = record {
    by = record { fresh = m.by.fresh; appended = same ∙ m.by.appended; closes = of_later r after more m.by.fresh m.by.closes };
    still = λ k is. more k (m.still k is);
  }

module _ {F : Type 0} (schemas : WorldSchemas F) (w : World) where
  abbrev MovedTo : World → Type 0
  MovedTo v = Moved w.room v.room

  removals_keep : Keeps schemas MovedTo
  removals_keep = record {
    joins = λ v version made h. h;
    rests = λ v n c d made at q h. h;
    cuts = λ v n k c made at is h. h;
    acts = λ v n c p made at acts h. pushing_keeps MovedTo v n p h (λ k channel is there. h);
    asks = λ v n readonly c made at off place h. quiet_moves w.room v.room (after_enter readonly v.room) refl (λ k is. closed_added v.room.sessions _ k is) h;
    loses = λ v k channel room made at is h.
        let on = leave_closes schemas.room v.room k room is in
        let more : StayClosed v.room room = λ j closed. leave_closed j v.room room k is closed in
        closing_moves w.room v.room room h.still more on.0 h.by.fresh v.room.history h.by.appended
        (of_later w.room v.room room more h.by.fresh h.by.closes) on.1.ends on.1.appended;
    handles = λ v k channel said messages replied made at first is h.
        let on = message_appends schemas.room v.room k said replied is in
        appended_moves w.room schemas.room v.room k said replied.reply replied.room on.0 (λ j closed. message_closed schemas.room j v.room k said replied is closed) on.1 h;
    sends = λ v k channel given made at is h.
        quiet_moves w.room v.room (after_drain v.room k given) refl (λ j closed. drain_closed schemas.room j v.room k given is closed) h;
    delivers = λ v n k c channel notice notices made at is there first h.
        pushing_keeps MovedTo (with_channel k (record channel { to_client = notices }) v) n (after_notice v.room.history k c notice) h (λ j other has open_at. h);
  }

  -- by an event a history goes on by what closing removes
  pub goes_on_by_closing : (trace : Bool) (event : Event) (made : Stepped) → ReachableWorld schemas w → after_event schemas trace w event ≡ Ok made → GoesOnByClosing w.room made.world.room
  goes_on_by_closing trace event made reached is =
      let start : MovedTo w = record { by = record { fresh = []; appended = refl; closes = tt }; still = λ k closed. closed } in
      (subst (Holds MovedTo) is (event_keeps schemas MovedTo removals_keep w reached start trace event)).by
