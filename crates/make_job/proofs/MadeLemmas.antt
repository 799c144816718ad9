-- What is written of a recording in the making only grows, and how its events are counted.
use Rattle.std.proofs.Common.{◌≡◌, ℕ, zero, suc, ◌+◌, ◌-◌, ◌<◌, ◌≤◌, ◌^◌, Bool, true, false, List, [], ◌∷◌, ◌++◌, length, take, slice_set, Option, Some, None, Ok, Err, refl, sym, ap, subst, ◌∙◌, append_assoc, append-nil, inl, inr, arith}
use Rattle.std.specs.Prelude.{slice_index}
use Rattle.rand_pcg.specs.Lcg.{Lcg}
use Rattle.room_link.specs.Held.{Extends}
use Rattle.room_link.proofs.HeldLemmas.{Extends-nil, Extends-trans}
use Rattle.room_model.specs.Schemas.{WorldSchemas, doc}
use Rattle.room_model.specs.Histories.{records_of}
use Rattle.room_model.specs.Worlds as model
use Rattle.room_model.specs.Worlds.{Stepped, Outcome, end_line, after_event}
use Rattle.room_model.specs.declared.event.Event.{Event}
use Rattle.room_model.specs.declared.event.Event.TheVariants as event
use Rattle.room_model.specs.declared.fault.StepFault.{StepFault}
use Rattle.room_model.specs.declared.fault.StepFault.TheVariants as fault
use Rattle.room_model.specs.declared.line.OutLine.{OutLine}
use Rattle.side_effects.specs.declared.fault.EditFault.{EditFault}
use Rattle.load_maker.specs.Draws.{draw_of, generator_of}
use Rattle.load_maker.specs.Made.{events_of, first_events}
use Rattle.sync_world.specs.Answers.{Faults, Refuses}
use Rattle.sync_world.specs.Standing.{Stands, IsAtVersion}
use Rattle.sync_world.specs.declared.world.World.{World}
use Rattle.make_job.specs.Made.{Making, header_line, nothing_made, made_text, last_line, last_line_of, if_printed, event_line, asking_client, after_asking, with_outcome, with_events, with_draws}
use Rattle.make_job.specs.Making.{IsMaking, HasPlace, AddsFront, is_refusal}
use Rattle.replay_job.specs.Replay.{IsFront}
use Rattle.make_job.specs.Outcomes.{Makes, MakesFront}
use Rattle.make_job.specs.declared.making.Making as code
use Rattle.replay_job.proofs.WritingLemmas.{first_bytes}

-- fronts

pub whole_front : (text : List ℕ) → IsFront text text
whole_front text = ([], sym (append-nil text))

pub front_of_more : (text more : List ℕ) → IsFront text (text ++ more)
front_of_more text more = (more, refl)

pub front_through : (a b c : List ℕ) → IsFront a b → IsFront b c → IsFront a c
front_through a b c first second = (first.0 ++ second.0, second.1 ∙ ap (λ t. t ++ second.0) first.1 ∙ append_assoc a first.0 second.0)

pub front_behind : (a front text : List ℕ) → IsFront front text → IsFront (a ++ front) (a ++ text)
front_behind a front text is = (is.0, ap (λ t. a ++ t) is.1 ∙ sym (append_assoc a front is.0))

-- a front that was added is one of what begins with the text
pub adds_more : (text whole : List ℕ) (old new : Option (List ℕ)) → IsFront text whole → AddsFront text old new → AddsFront whole old new
adds_more text whole old new is adds = (adds.0, front_through adds.0 text whole adds.1 is, adds.2)

-- what was added, and then a front of a further text
pub adds_behind : (a text front : List ℕ) (old mid new : Option (List ℕ)) → Extends old mid a → IsFront front text → Extends mid new front → AddsFront (a ++ text) old new
adds_behind a text front old mid new first is second = (a ++ front, front_behind a front text is, Extends-trans old mid new a front first second)

-- what was added is a front of what begins with it
pub adds_whole : (a whole : List ℕ) (old new : Option (List ℕ)) → Extends old new a → IsFront a whole → AddsFront whole old new
adds_whole a whole old new added is = (a, is, added)

-- to ask for a session writes nothing

asking_text : (m : Making) (asking : Option ℕ) → (after_asking m asking).text ≡ m.text
asking_text m None = refl
asking_text m (Some client) = refl

module _ (print : Bool) where
  -- what is written after an event that is taken
  pub taken_text : (m : Making) (e : Event) (made : Stepped) → (with_outcome print m e (Ok made)).text ≡ m.text ++ if_printed print (event_line e)
  taken_text m e made =
      asking_text (record m { text = m.text ++ if_printed print (event_line e); world = made.world; taken = m.taken + 1 }) (asking_client e)

  pub outcome_grows : (m : Making) (e : Event) (outcome : Outcome EditFault) → IsFront m.text (with_outcome print m e outcome).text
  outcome_grows m e (Ok made) = (if_printed print (event_line e), taken_text m e made)
  outcome_grows m e (Err f) = whole_front m.text

  module _ (schemas : WorldSchemas EditFault) where
    pub events_grow : (events : List Event) (m : Making) → IsFront m.text (with_events print schemas m events).text
    events_grow [] m = whole_front m.text
    events_grow (e ∷ events) m =
        let outcome = after_event schemas false m.world e in
        let next = with_outcome print m e outcome in
        front_through m.text next.text (with_events print schemas next events).text (outcome_grows m e outcome) (events_grow events next)

    pub draws_grow : (draws : ℕ) (generator : Lcg) (m : Making) → IsFront m.text (with_draws print schemas draws generator m).text
    draws_grow zero generator m = whole_front m.text
    draws_grow (suc draws) generator m =
        let drawn = draw_of generator in
        let next = with_events print schemas m (events_of drawn.0 m.last) in
        front_through m.text next.text (with_draws print schemas draws drawn.1 next).text (events_grow (events_of drawn.0 m.last) m) (draws_grow draws drawn.1 next)

    -- one draw more
    pub draw_more : (left : ℕ) (generator : Lcg) (m : Making) → 0 < left
        → with_draws print schemas left generator m ≡ with_draws print schemas (left - 1) (draw_of generator).1 (with_events print schemas m (events_of (draw_of generator).0 m.last))
    draw_more zero generator m more = absurd (omega arith)
    draw_more (suc left) generator m more =
        let one : suc left - 1 ≡ left = omega arith in
        ap (λ n. with_draws print schemas n (draw_of generator).1 (with_events print schemas m (events_of (draw_of generator).0 m.last))) (sym one)

    -- the code's recording in the making

    -- what an event that is taken makes
    pub taken_makes : (m : Making) (e : Event) (made : Stepped) (before after : code.Making) (line : List ℕ) (old mid new : Option (List ℕ))
        → IsMaking schemas m before old mid → Stands schemas made.world after.world → after.refused ≡ before.refused → after.taken ≡ before.taken + 1
        → ((n : Making) → before.sessions ≡ n.sessions → before.last ≡ n.last
        → (after.sessions ≡ (after_asking n (asking_client e)).sessions) × (after.last ≡ (after_asking n (asking_client e)).last))
        → line ≡ if_printed print (event_line e) → Extends mid new line → IsMaking schemas (with_outcome print m e (Ok made)) after old new
    taken_makes m e made before after line old mid new making stands refused taken asked is added =
        let next : Making = record m { text = m.text ++ if_printed print (event_line e); world = made.world; taken = m.taken + 1 } in
        let written : Extends old new next.text =
        Extends-trans old mid new m.text (if_printed print (event_line e)) making.written (subst (Extends mid new) is added) in
        elim (asking_client e) as
        (λ o. ((after.sessions ≡ (after_asking next o).sessions) × (after.last ≡ (after_asking next o).last)) → IsMaking schemas (after_asking next o) after old new) [
          | None ↦ λ so. record {
            world = stands;
            sessions = so.0;
            last = so.1;
            taken = taken ∙ ap (λ n. n + 1) making.taken;
            refused = refused ∙ making.refused;
            written = written;
          }
          | Some client ↦ λ so. record {
            world = stands;
            sessions = so.0;
            last = so.1;
            taken = taken ∙ ap (λ n. n + 1) making.taken;
            refused = refused ∙ making.refused;
            written = written;
          }
        ] (asked next making.sessions making.last)

    -- what is written where the line of an event that is taken isn't written whole
    pub taken_front : (m : Making) (e : Event) (made : Stepped) (before : code.Making) (n : ℕ) (line : List ℕ) (old mid new : Option (List ℕ))
        → IsMaking schemas m before old mid → line ≡ if_printed print (event_line e) → Extends mid new (take n line) → AddsFront (with_outcome print m e (Ok made)).text old new
    taken_front m e made before n line old mid new making is added =
        subst (λ t. AddsFront t old new) (sym (taken_text m e made))
        (adds_behind m.text (if_printed print (event_line e)) (take n (if_printed print (event_line e))) old mid new making.written
        (first_bytes n (if_printed print (event_line e))) (subst (λ l. Extends mid new (take n l)) is added))

    -- what an event that is left out makes
    pub refused_makes : (m : Making) (e : Event) (f : StepFault EditFault) (before after : code.Making) (old new : Option (List ℕ))
        → IsMaking schemas m before old new → Stands schemas m.world after.world → after.refused ≡ before.refused + 1 → after.taken ≡ before.taken
        → after.sessions ≡ before.sessions → after.last ≡ before.last → IsMaking schemas (with_outcome print m e (Err f)) after old new
    refused_makes m e f before after old new making stands refused taken sessions last = record {
      world = stands;
      sessions = sessions ∙ making.sessions;
      last = last ∙ making.last;
      taken = taken ∙ making.taken;
      refused = refused ∙ ap (λ n. n + 1) making.refused;
      written = making.written;
    }

    -- of some events, what is left makes of what was made so far what all make
    pub record Goes (m : Making) (events : List Event) (self : code.Making) (left : List Event) (old new : Option (List ℕ)) : Type 0 where
      pub so_far : Making
      pub making : IsMaking schemas so_far self old new
      pub same : with_events print schemas m events ≡ with_events print schemas so_far left

    -- the same of draws
    pub record Draws (m : Making) (draws : ℕ) (generator : Lcg) (self : code.Making) (left : ℕ) (next : Lcg) (old new : Option (List ℕ)) : Type 0 where
      pub so_far : Making
      pub making : IsMaking schemas so_far self old new
      pub same : with_draws print schemas draws generator m ≡ with_draws print schemas left next so_far

    pub goes_on : (m : Making) (events left : List Event) (e : Event) (before after : code.Making) (old mid new : Option (List ℕ)) → Goes m events before (e ∷ left) old mid
        → ((n : Making) → IsMaking schemas n before old mid → IsMaking schemas (with_outcome print n e (after_event schemas false n.world e)) after old new)
        → Goes m events after left old new
    goes_on m events left e before after old mid new goes takes = record {
      so_far = with_outcome print goes.so_far e (after_event schemas false goes.so_far.world e);
      making = takes goes.so_far goes.making;
      same = goes.same;
    }

    pub stops_at : (m : Making) (events left : List Event) (e : Event) (before : code.Making) (old mid new : Option (List ℕ)) → Goes m events before (e ∷ left) old mid
        → ((n : Making) → IsMaking schemas n before old mid → AddsFront (with_outcome print n e (after_event schemas false n.world e)).text old new)
        → AddsFront (with_events print schemas m events).text old new
    stops_at m events left e before old mid new goes adds =
        let n = goes.so_far in
        let next = with_outcome print n e (after_event schemas false n.world e) in
        subst (λ (x : Making). AddsFront x.text old new) (sym goes.same)
        (adds_more next.text (with_events print schemas next left).text old new (events_grow left next) (adds n goes.making))

    pub all_gone : (m : Making) (events left : List Event) (self : code.Making) (old new : Option (List ℕ)) → Goes m events self left old new → left ≡ []
        → IsMaking schemas (with_events print schemas m events) self old new
    all_gone m events left self old new goes none =
        subst (λ x. IsMaking schemas x self old new) (sym (goes.same ∙ ap (with_events print schemas goes.so_far) none)) goes.making

    module _ (m : Making) (draws : ℕ) (generator : Lcg) (before : code.Making) where
      -- the next draw is taken
      pub draws_on : (after : code.Making) (left : ℕ) (now next : Lcg) (old mid new : Option (List ℕ)) (events : List Event) → 0 < left → next ≡ (draw_of now).1
          → Draws m draws generator before left now old mid
          → ((n : Making) → IsMaking schemas n before old mid → events ≡ events_of (draw_of now).0 n.last)
          → ((n : Making) → IsMaking schemas n before old mid → IsMaking schemas (with_events print schemas n events) after old new)
          → Draws m draws generator after (left - 1) next old new
      draws_on after left now next old mid new events more is goes drawn takes =
          let n = goes.so_far in
          let made = with_events print schemas n events in
          record {
            so_far = made;
            making = takes n goes.making;
            same =
                goes.same ∙ draw_more left now n more
                ∙ ap (λ es. with_draws print schemas (left - 1) (draw_of now).1 (with_events print schemas n es)) (sym (drawn n goes.making))
                ∙ ap (λ x. with_draws print schemas (left - 1) x made) (sym is);
          }

      -- nothing more is written of the draws
      pub draws_front : (left : ℕ) (now : Lcg) (old new : Option (List ℕ)) → Draws m draws generator before left now old new
          → AddsFront (with_draws print schemas draws generator m).text old new
      draws_front left now old new goes =
          let n = goes.so_far in
          subst (λ (x : Making). AddsFront x.text old new) (sym goes.same)
          (adds_whole n.text (with_draws print schemas left now n).text old new goes.making.written (draws_grow left now n))

      -- the next draw is taken in part
      pub draws_stop : (left : ℕ) (now : Lcg) (old mid new : Option (List ℕ)) (events : List Event) → 0 < left
          → Draws m draws generator before left now old mid
          → ((n : Making) → IsMaking schemas n before old mid → events ≡ events_of (draw_of now).0 n.last)
          → ((n : Making) → IsMaking schemas n before old mid → AddsFront (with_events print schemas n events).text old new)
          → AddsFront (with_draws print schemas draws generator m).text old new
      draws_stop left now old mid new events more goes drawn adds =
          let n = goes.so_far in
          let made = with_events print schemas n events in
          let same : with_draws print schemas draws generator m ≡ with_draws print schemas (left - 1) (draw_of now).1 made =
          goes.same ∙ draw_more left now n more ∙ ap (λ es. with_draws print schemas (left - 1) (draw_of now).1 (with_events print schemas n es)) (sym (drawn n goes.making)) in
          subst (λ (x : Making). AddsFront x.text old new) (sym same)
          (adds_more made.text (with_draws print schemas (left - 1) (draw_of now).1 made).text old new (draws_grow (left - 1) (draw_of now).1 made) (adds n goes.making))

      -- all were taken
      pub draws_done : (left : ℕ) (now : Lcg) (old new : Option (List ℕ)) → left ≡ 0 → Draws m draws generator before left now old new
          → IsMaking schemas (with_draws print schemas draws generator m) before old new
      draws_done left now old new none goes =
          subst (λ x. IsMaking schemas x before old new) (sym (goes.same ∙ ap (λ n. with_draws print schemas n now goes.so_far) none)) goes.making

-- a refusal leaves the world as it was
pub refuses : (schemas : WorldSchemas EditFault) (world : model.World) (outcome : Outcome EditFault) (f : StepFault EditFault) (after : World) → is_refusal f ≡ true
    → Faults schemas world outcome f after → Refuses schemas world outcome f after
refuses schemas world outcome fault.OutOfMemory after is faults = absurd (cc)
refuses schemas world outcome f after is faults = faults

-- places

pub fewer : (more less : ℕ) (c : code.Making) → less ≤ more → HasPlace more c → HasPlace less c
fewer more less c at_most place = record {
  taken = let h = place.taken in omega (arith, h, at_most);
  refused = let h = place.refused in omega (arith, h, at_most);
  sessions = let h = place.sessions in omega (arith, h, at_most);
  last = place.last;
}

-- what is set in a list of small numbers is small
pub set_small : (most : ℕ) (xs : List ℕ) (n x : ℕ) → ((k : ℕ) → slice_index xs k < most) → x < most → (k : ℕ) → slice_index (slice_set xs n x) k < most
set_small most [] n x all small k = all k
set_small most (y ∷ xs) zero x all small zero = small
set_small most (y ∷ xs) zero x all small (suc k) = all (suc k)
set_small most (y ∷ xs) (suc n) x all small zero = all zero
set_small most (y ∷ xs) (suc n) x all small (suc k) = set_small most xs n x (λ j. all (suc j)) small k

-- nothing is in a list of four zeros
pub none_large : (k : ℕ) → slice_index (0 ∷ 0 ∷ 0 ∷ 0 ∷ []) k < 2 ^ 63
none_large zero = omega arith
none_large (suc zero) = omega arith
none_large (suc (suc zero)) = omega arith
none_large (suc (suc (suc zero))) = omega arith
none_large (suc (suc (suc (suc k)))) = omega arith

-- of no event none is left
pub none_left : (events : List Event) → length events ≡ 0 → events ≡ []
none_left [] is = refl
none_left (e ∷ events) is = absurd (omega (arith, is))

-- what is said of an answer

-- what is made by a seed, from the header on

module _ (schemas : WorldSchemas EditFault) (at : IsAtVersion 3 schemas) (seed size : ℕ) (print : Bool) where
  abbrev pub begun : Making
  begun = with_events print schemas (nothing_made print) first_events

  abbrev pub counted : Making
  counted = record begun { taken = 0; refused = 0 }

  abbrev pub drawn : Making
  drawn = with_draws print schemas size (generator_of seed) counted

  pub drawn_front : IsFront drawn.text (made_text schemas seed size print)
  drawn_front = (last_line schemas size print drawn, refl)

  pub begun_front : IsFront begun.text (made_text schemas seed size print)
  begun_front = front_through begun.text drawn.text (made_text schemas seed size print) (draws_grow print schemas size (generator_of seed) counted) drawn_front

  pub header_front : IsFront (if_printed print header_line) (made_text schemas seed size print)
  header_front =
      front_through (if_printed print header_line) begun.text (made_text schemas seed size print) (events_grow print schemas first_events (nothing_made print)) begun_front

  -- a front of a text with which that begins was written
  pub makes_front : (text : List ℕ) (old new : Option (List ℕ)) → AddsFront text old new → IsFront text (made_text schemas seed size print) → MakesFront seed size print old new
  makes_front text old new adds is =
      (adds.0, inr (made_text schemas seed size print, (schemas, at, refl), front_through adds.0 text (made_text schemas seed size print) adds.1 is), adds.2)

  -- all was
  pub makes : (old new : Option (List ℕ)) → Extends old new (made_text schemas seed size print) → Makes seed size print old new
  makes old new added = (made_text schemas seed size print, (schemas, at, refl), added)

-- nothing was written
pub makes_nothing : (seed size : ℕ) (print : Bool) (held : Option (List ℕ)) → MakesFront seed size print held held
makes_nothing seed size print held = ([], inl refl, Extends-nil held)

-- counts that begin anew
pub anew : (schemas : WorldSchemas EditFault) (m : Making) (before : code.Making) (old new : Option (List ℕ)) → IsMaking schemas m before old new
    → IsMaking schemas (record m { taken = 0; refused = 0 }) (record before { taken = 0; refused = 0 }) old new
anew schemas m before old new making =
    record { world = making.world; sessions = making.sessions; last = making.last; taken = refl; refused = refl; written = making.written }

-- what the room says at the end

same_step : (outcome : Outcome EditFault) (a b : Stepped) → outcome ≡ Ok a → outcome ≡ Ok b → a ≡ b
same_step outcome a b one other = cc

pub said_at_end : (schemas : WorldSchemas EditFault) (world : model.World) (lines : List OutLine) (made : Stepped) → lines ≡ made.lines
    → after_event schemas false world event.End ≡ Ok made → lines ≡ end_line schemas world ∷ []
said_at_end schemas world lines made are is =
    are ∙ ap (λ (s : Stepped). s.lines) (same_step (after_event schemas false world event.End) made (record { world = world; lines = end_line schemas world ∷ [] }) is refl)

pub last_is : (schemas : WorldSchemas EditFault) (size : ℕ) (print : Bool) (m : Making) (records refused taken : ℕ)
    → records ≡ length (doc schemas.room (records_of m.world.room.history)) → refused ≡ m.refused → taken ≡ m.taken
    → last_line_of print (length m.world.room.history) size records refused taken ≡ last_line schemas size print m
last_is schemas size print m records refused taken same left took =
    λ i. last_line_of print (length m.world.room.history) size (same i) (left i) (took i)
