-- What reports say of links, by the rooms once they are closed.
use Rattle.std.proofs.Common.{◌≡◌, ◌⊎◌, ◌==◌, if◌then◌else◌, option_to_list, ◌≤◌, ℕ, List, [], ◌∷◌, ◌++◌, All, Contains, count_by, length, map, slice_get, suc, Bool, true, false, Option, Some, None, IfSome, refl, sym, ap, ◌∙◌, subst, arith, inl, inr}
use Rattle.std.proofs.lemmas.List.Elements.{All-cons, All-contains, All-contains_itself, All-append, All-get_or, All-head, All-map, All-nil, All-tail, All-weaker}
use Rattle.std.proofs.lemmas.Bool.{eq-eqb}
use Rattle.std.proofs.lemmas.Option.{get_or_from_slice_get, slice_get_within}
use Rattle.std.specs.Global.{Vec}
use Rattle.std.specs.List.{AllZip}
use Rattle.link_texts.proofs.SendingLemmas.{tells_more}
use Rattle.link_texts.specs.Joins.{IsJoin}
use Rattle.room_events.specs.Events.{number_of}
use Rattle.room_events.specs.Legal.{state_of}
use Rattle.room_events.specs.declared.room_event.RoomEvent.{RoomEvent}
use Rattle.room_link.specs.Exchange.{Exchange, Arrival}
use Rattle.room_link.specs.Worker.{Worker}
use Rattle.room_link.specs.declared.passing.Outgoing.{Outgoing}
use Rattle.room_model.specs.Rooms.{is_full}
use Rattle.room_model.specs.declared.limits.TheConstants.{LAST_CLOCK}
use Rattle.room_run.specs.Calls.{HasSeenFull}
use Rattle.room_run.specs.Openings as opened
use Rattle.room_run.specs.Passes.{EndsBy, view_of_gone}
use Rattle.room_run.specs.Rooms.{opening_of}
use Rattle.room_run.specs.declared.close.Closed.{Closed}
use Rattle.room_run.specs.declared.passes.Gone.{Gone}
use Rattle.room_run.specs.declared.running.RunningRoom.{RunningRoom}
use Rattle.room_serve.specs.Reports.{IsKeptOut, IsReport, IsUnjoined, IsService, IsServed, IsStay, IsVisit, ServesIn, Visit, WasIn, WasThere, account_of, session_of}
use Rattle.room_serve.specs.Tallies.{AreTallied, IsServedLink, IsShift, Service, Shift, shift_of, Works}
use Rattle.room_serve.specs.Accounts.{IsBlamed}
use Rattle.room_serve.specs.declared.account.Account.{Account}
use Rattle.room_serve.specs.declared.report.Report.{Report}
use Rattle.room_serve.specs.declared.tally.Tally.{Tally}
use Rattle.room_server.proofs.ApartLemmas.{all_counts, is_session, none_of_past, number_is, one_at_most}
use Rattle.room_server.proofs.EndLemmas.{all_closed, ended_at, ended_count}
use Rattle.room_server.proofs.GatherLemmas.{all_parts, emptied_reports}
use Rattle.room_server.specs.Closing.{AreEnded, AreGathered, IsEmptied, IsEnd, gone_in, gones_in, has_number, reports_of, without_gone}
use Rattle.room_server.specs.Hosted.{AreHosted, HasEntered, IsSettled, ServesClosed, Visited, WasFull, events_in, is_of}
use Rattle.room_server.specs.Opened.{IsOpened}

-- each at its place is so, so each is
all_at : {X : Type 0} (P : X → Type 0) (xs : List X) → ((place : ℕ) (x : X) → slice_get xs place ≡ Some x → P x) → All P xs
all_at P [] each = All-nil P
all_at P (x ∷ xs) each = All-cons P x xs (each 0 x refl) (all_at P xs (λ place y at. each (suc place) y at))

-- what holds of who is gone of a room holds of who is gone by each of the reports that have that room
abbrev IfGoneIn : (Gone → Type 0) → ℕ → Report → Type 0
IfGoneIn P number report = report.room ≡ Some number → IfSome report.gone P

gone_by : (P : Gone → Type 0) (number : ℕ) (report : Report) → All P (gone_in number report) → IfGoneIn P number report
gone_by P number report all named = go report.gone (subst (λ o. All P (if has_number number o then option_to_list report.gone else [])) named all)
  where
    go : (gone : Option Gone) → All P (if number == number then option_to_list gone else []) → IfSome gone P
    go None all = tt
    go (Some one) all = All-head P one [] (subst (λ b. All P (if b then one ∷ [] else [])) (eq-eqb number number refl) all)

gones_by : (P : Gone → Type 0) (number : ℕ) (reports : List Report) → All P (gones_in number reports) → All (IfGoneIn P number) reports
gones_by P number [] all = All-nil _
gones_by P number (report ∷ reports) all =
    let parts = all_parts P (gone_in number report) (gones_in number reports) all in
    All-cons (IfGoneIn P number) report reports (gone_by P number report parts.0) (gones_by P number reports parts.1)

-- a place of a list that is so at each
at_all : {X : Type 0} (P : X → Type 0) (xs : List X) (place : ℕ) (x : X) → All P xs → slice_get xs place ≡ Some x → P x
at_all P xs place x all at =
    subst P (get_or_from_slice_get xs place x x at) (All-get_or P xs place x (slice_get_within xs place x at) all)

-- a link's stay, by the room's pen in place of what who is gone knew
stay_of : (room : RunningRoom) (gones : List Gone) (one : Closed) (gone : Gone) (session : Option ℕ) (readonly : Bool) (account : Account)
    (arrivals : List Arrival) (put : List Outgoing) → IsOpened room → IsEnd room gones one → EndsBy one.pen gone → gone.session ≡ session
    → IsStay (HasSeenFull (opening_of room) (view_of_gone gone)) (λ number. (view_of_gone gone).mine) session readonly account arrivals put
    → IsStay (WasFull one) (events_in one) session readonly account arrivals put
stay_of room gones one gone None readonly account arrivals put is end ends had away =
    let seen : List RoomEvent = (view_of_gone gone).seen in
    let schemas = opened.schemas_of (opening_of room) in record {
      full = record {
        front = seen;
        begins = ends.begins;
        full = subst (λ s. is_full (state_of s LAST_CLOCK seen) ≡ true) (sym end.schema) (subst (λ n. is_full (state_of schemas n seen) ≡ true) is.last away.full.full);
      };
      nothing = away.nothing;
      wire = away.wire;
      closing = away.closing;
    }
stay_of room gones one gone (Some n) readonly account arrivals put is end ends had served =
    subst (λ l. IsServed n readonly l arrivals put account) (sym (ends.own n had)) served

-- the same of a visit
visit_of : (room : RunningRoom) (gones : List Gone) (one : Closed) (gone : Option Gone) (session : Option ℕ) (readonly : Bool) (account : Account)
    (arrivals : List Arrival) (put : List Outgoing) → IsOpened room → IsEnd room gones one → IfSome gone (EndsBy one.pen) → session ≡ session_of gone
    → IsVisit room gone readonly account arrivals put
    → ((session ≡ None) × IsKeptOut arrivals put account) ⊎ IsStay (WasFull one) (events_in one) session readonly account arrivals put
visit_of room gones one None session readonly account arrivals put is end ends had kept = inl (had, kept)
visit_of room gones one (Some gone) session readonly account arrivals put is end ends had stay =
    inr (subst (λ s. IsStay (WasFull one) (events_in one) s readonly account arrivals put) (sym had)
    (stay_of room gones one gone gone.session readonly account arrivals put is end ends refl stay))

-- what came and went over a link, where each stay in a room is another way to tell it
service_of : (count number : ℕ) (Was Other : ℕ → Visit) (named : Option ℕ) (account : Account) (arrivals : List Arrival) (put : List Outgoing) → number ≡ count
    → ((room : ℕ) → named ≡ Some room → (readonly : Bool) (a : Account) (more : List Arrival) (out : List Outgoing) → Was room readonly a more out → Other room readonly a more out)
    → IsService count Was named account arrivals put → IsService number Other named account arrivals put
service_of count number Was Other None account arrivals put same more s = subst (λ n. IsUnjoined n account arrivals put) (sym same) s
service_of count number Was Other (Some room) account arrivals put same more s = record {
  bytes = s.bytes;
  join = s.join;
  rest = s.rest;
  first = s.first;
  names = subst (λ n. IsJoin n s.bytes s.join) (sym same) s.names;
  is = s.is;
  visit = more room refl s.join.readonly account s.rest put s.visit;
}

-- a service, once who is gone is taken out of its report
abbrev emptied_service : {K : Type 0} → Service K → Service K
emptied_service one = record one { report = without_gone one.report }

emptied_are : {K : Type 0} (services : List (Service K)) → map (λ one. one.report) (map emptied_service services) ≡ map without_gone (map (λ one. one.report) services)
emptied_are [] = refl
emptied_are (one ∷ services) = ap (λ l. without_gone one.report ∷ l) (emptied_are services)

outs_are : {K : Type 0} (services : List (Service K)) → map (λ one. one.out) (map emptied_service services) ≡ map (λ one. one.out) services
outs_are [] = refl
outs_are (one ∷ services) = ap (λ l. one.out ∷ l) (outs_are services)

backs_are : {K : Type 0} (services : List (Service K)) → map (λ one. one.back) (map emptied_service services) ≡ map (λ one. one.back) services
backs_are [] = refl
backs_are (one ∷ services) = ap (λ l. one.back ∷ l) (backs_are services)

works_emptied : {K : Type 0} (services : List (Service K)) (old new : Worker K) → Works services old new → Works (map emptied_service services) old new
works_emptied services old new w = record {
  taken = w.taken ∙ ap (λ l. l ++ new.left) (sym (outs_are services));
  given = w.given ∙ ap (λ l. old.returned ++ l) (sym (backs_are services));
}

-- rooms that were served, and closed
module _ (rooms : List RunningRoom) (reports : List Report) (gones : List (Vec Gone)) (closed : List Closed) where
  pub record Ended : Type 0 where
    pub opened_are : All IsOpened rooms
    pub reported : All (IsReport rooms) reports
    pub gathered : AreGathered reports gones
    pub ended : AreEnded rooms gones closed

  -- who is gone by a report ends at the pen of the room that it has
  pub record HasLeft (report : Report) : Type 0 where
    pub is : IsReport rooms report
    pub left : (number : ℕ) (room : RunningRoom) (one : Closed) → report.room ≡ Some number → slice_get rooms number ≡ Some room
        → slice_get closed number ≡ Some one → IfSome report.gone (EndsBy one.pen)

  has_left : Ended → (report : Report) → Contains reports report → HasLeft report
  has_left e report here = record {
    is = All-contains (IsReport rooms) reports report e.reported here;
    left = λ number room one named at there.
        let end = ended_at rooms gones closed number room e.ended at in
        let each : All (EndsBy end.one.pen) (gones_in number reports) =
        subst (All (EndsBy end.one.pen)) (e.gathered number end.those end.gone_there) (all_at (EndsBy end.one.pen) end.those.items end.end.ends.each) in
        subst (λ o. IfSome o (λ c. IfSome report.gone (EndsBy c.pen))) (sym end.there ∙ there)
        (All-contains (IfGoneIn (EndsBy end.one.pen) number) reports report (gones_by (EndsBy end.one.pen) number reports each) here named);
  }

  pub all_left : Ended → All HasLeft reports
  all_left e = All-weaker (Contains reports) HasLeft (has_left e) reports (All-contains_itself reports)

  -- how a link was in its room, by the room's pen
  visited : Ended → (report : Report) → HasLeft report → (number : ℕ) → report.room ≡ Some number → (readonly : Bool) (account : Account)
      (arrivals : List Arrival) (put : List Outgoing)
      → WasThere rooms report.gone number readonly account arrivals put → Visited closed report.session number readonly account arrivals put
  visited e report left number named readonly account arrivals put was =
      let end = ended_at rooms gones closed number was.0 e.ended was.1 in record {
        room = end.one;
        there = end.there;
        stay = visit_of was.0 end.those.items end.one report.gone report.session readonly account arrivals put (at_all IsOpened rooms number was.0 e.opened_are was.1)
            end.end (left.left number was.0 end.one named was.1 end.there) left.is.session was.2;
      }

  pub serves_of : Ended → (report : Report) (old new : Exchange) → HasLeft report → ServesIn rooms report old new → ServesClosed closed (without_gone report) old new
  serves_of e report old new left s = record {
    idles = s.idles;
    arrivals = s.arrivals;
    put = s.put;
    quiet = s.quiet;
    taken = s.taken;
    out = s.out;
    service = service_of (length rooms) (length closed) (WasThere rooms report.gone) (Visited closed report.session) report.room (account_of report) s.arrivals s.put
        (ended_count rooms gones closed e.ended) (visited e report left) s.service;
    texts = s.texts;
    sent = s.sent;
    whole = s.whole;
  }

  -- a report's session was one of its room
  entered_of : (named : Option ℕ) (one : Closed) (place : ℕ) (gone : Gone) (session : Option ℕ) → named ≡ Some place → slice_get closed place ≡ Some one
      → EndsBy one.pen gone → gone.session ≡ session → IfSome session (HasEntered closed named)
  entered_of named one place gone None is there ends had = tt
  entered_of named one place gone (Some n) is there ends had =
      record { place = place; room = one; named = is; there = there; entered = ap number_of (ends.own n had) ∙ gone.number ∙ had }

  pub settled : Ended → (report : Report) → HasLeft report → IsSettled closed (without_gone report)
  settled e report left = record { nobody = refl; entered = go report.gone report.session left.is.session left.is.own left.left }
    where
      go : (gone : Option Gone) (session : Option ℕ) → session ≡ session_of gone → IfSome gone (WasIn rooms report.room)
          → ((number : ℕ) (room : RunningRoom) (one : Closed) → report.room ≡ Some number → slice_get rooms number ≡ Some room
          → slice_get closed number ≡ Some one → IfSome gone (EndsBy one.pen))
          → IfSome session (HasEntered closed report.room)
      go None session had own ends = subst (λ s. IfSome s (HasEntered closed report.room)) (sym had) tt
      go (Some gone) session had own ends =
          let end = ended_at rooms gones closed own.number own.running e.ended own.there in
          subst (λ s. IfSome s (HasEntered closed report.room)) (sym had)
          (entered_of report.room end.one own.number gone gone.session own.named end.there (ends own.number own.running end.one own.named own.there end.there) refl)

  -- no two reports are of one session of a room
  pub apart_of : Ended → (room session : ℕ) → count_by (is_of room session) (map without_gone reports) ≤ 1
  apart_of e room session =
      let same = all_counts rooms room session reports e.reported in
      let most : count_by (is_session session) (gones_in room reports) ≤ 1 = go (slice_get rooms room) refl in
      omega (arith, same, most)
    where
      go : (found : Option RunningRoom) → slice_get rooms room ≡ found → count_by (is_session session) (gones_in room reports) ≤ 1
      go None none = let empty = ap (count_by (is_session session)) (none_of_past rooms room reports none e.reported) in omega (arith, empty)
      go (Some running) at =
          let end = ended_at rooms gones closed room running e.ended at in
          subst (λ l. count_by (is_session session) l ≤ 1) (e.gathered room end.those end.gone_there)
          (one_at_most (is_session session) end.those.items (λ place other x y at_x at_y is_x is_y.
          end.end.ends.apart place other session x y at_x at_y (number_is session x.session is_x) (number_is session y.session is_y)))

  module _ {K A : Type 0} (link_faults : K → ℕ) (link_told : K → Option Exchange) (worker_faults : A → ℕ) (worker_told : A → Option (Worker K)) where
    served_closed : Ended → (one : Service K) → HasLeft one.report → IsServedLink link_faults link_told (ServesIn rooms) (IsReport rooms) one
        → IsServedLink link_faults link_told (ServesClosed closed) (IsSettled closed) (emptied_service one)
    served_closed e one left s = record {
      served = tells_more (link_told one.out) (link_told one.back) s.served (λ x y so. serves_of e one.report x y left so);
      blamed = s.blamed;
      is = settled e one.report left;
    }

    all_served : Ended → (services : List (Service K)) → All HasLeft (map (λ one. one.report) services)
        → All (IsServedLink link_faults link_told (ServesIn rooms) (IsReport rooms)) services
        → All (IsServedLink link_faults link_told (ServesClosed closed) (IsSettled closed)) (map emptied_service services)
    all_served e [] left all = All-nil _
    all_served e (one ∷ services) left all =
        All-cons (IsServedLink link_faults link_told (ServesClosed closed) (IsSettled closed)) (emptied_service one) (map emptied_service services)
        (served_closed e one (All-head HasLeft one.report (map (λ other. other.report) services) left)
        (All-head (IsServedLink link_faults link_told (ServesIn rooms) (IsReport rooms)) one services all))
        (all_served e services (All-tail HasLeft one.report (map (λ other. other.report) services) left)
        (All-tail (IsServedLink link_faults link_told (ServesIn rooms) (IsReport rooms)) one services all))

    -- a worker's links, by the rooms once they are closed
    shift_of_closed : Ended → (shift : Shift A) (tally : Tally) → IsEmptied shift.tally tally → All HasLeft shift.tally.reports.items
        → IsShift link_faults link_told (ServesIn rooms) (IsReport rooms) worker_faults worker_told shift
        → IsShift link_faults link_told (ServesClosed closed) (IsSettled closed) worker_faults worker_told (shift_of shift.before shift.after tally)
    shift_of_closed e shift tally emptied left s =
        let services = s.serving.services in record {
          serving = record {
            services = map emptied_service services;
            reported = emptied.reports ∙ ap (map without_gone) s.serving.reported ∙ sym (emptied_are services);
            each = all_served e services (subst (All HasLeft) s.serving.reported left) s.serving.each;
            told = tells_more (worker_told shift.before) (worker_told shift.after) s.serving.told (works_emptied services);
          };
          blamed = subst (λ b. IsBlamed false b (worker_faults shift.before) (worker_faults shift.after)) (sym emptied.failed) s.blamed;
          whole = λ well. s.whole (sym emptied.failed ∙ well);
        }

    -- those of all workers
    shifts_of_closed : Ended → (shifts : List (Shift A)) (tallies : List Tally) → AllZip IsEmptied (map (λ shift. shift.tally) shifts) tallies
        → All HasLeft (reports_of (map (λ shift. shift.tally) shifts))
        → All (IsShift link_faults link_told (ServesIn rooms) (IsReport rooms) worker_faults worker_told) shifts
        → AreTallied link_faults link_told (ServesClosed closed) (IsSettled closed) worker_faults worker_told
        (map (λ shift. shift.before) shifts) (map (λ shift. shift.after) shifts) tallies
    shifts_of_closed e [] [] emptied left all = record { shifts = []; old = refl; new = refl; tallied = refl; each = All-nil _ }
    shifts_of_closed e [] (t ∷ ts) emptied left all = absurd emptied
    shifts_of_closed e (shift ∷ shifts) [] emptied left all = absurd emptied
    shifts_of_closed e (shift ∷ shifts) (t ∷ ts) emptied left all =
        let parts = all_parts HasLeft shift.tally.reports.items (reports_of (map (λ s. s.tally) shifts)) left in
        let more = shifts_of_closed e shifts ts emptied.1 parts.1
        (All-tail (IsShift link_faults link_told (ServesIn rooms) (IsReport rooms) worker_faults worker_told) shift shifts all) in
        let one : Shift A = shift_of shift.before shift.after t in record {
          shifts = one ∷ more.shifts;
          old = ap (λ l. shift.before ∷ l) more.old;
          new = ap (λ l. shift.after ∷ l) more.new;
          tallied = ap (λ l. t ∷ l) more.tallied;
          each = All-cons (IsShift link_faults link_told (ServesClosed closed) (IsSettled closed) worker_faults worker_told) one more.shifts
              (shift_of_closed e shift t emptied.0 parts.0
              (All-head (IsShift link_faults link_told (ServesIn rooms) (IsReport rooms) worker_faults worker_told) shift shifts all))
              more.each;
        }

-- the reports that there are of workers' links are such
reports_are : {K A : Type 0} (link_faults : K → ℕ) (link_told : K → Option Exchange) (worker_faults : A → ℕ) (worker_told : A → Option (Worker K))
    (rooms : List RunningRoom) (shifts : List (Shift A)) → All (IsShift link_faults link_told (ServesIn rooms) (IsReport rooms) worker_faults worker_told) shifts
    → All (IsReport rooms) (reports_of (map (λ shift. shift.tally) shifts))
reports_are link_faults link_told worker_faults worker_told rooms [] all = All-nil _
reports_are link_faults link_told worker_faults worker_told rooms (shift ∷ shifts) all =
    let s = All-head (IsShift link_faults link_told (ServesIn rooms) (IsReport rooms) worker_faults worker_told) shift shifts all in
    let each : All (IsReport rooms) (map (λ one. one.report) s.serving.services) =
    All-map (IsReport rooms) (λ one. one.report) s.serving.services
    (All-weaker (IsServedLink link_faults link_told (ServesIn rooms) (IsReport rooms)) (λ one. IsReport rooms one.report) (λ one is. is.is) s.serving.services s.serving.each) in
    All-append (IsReport rooms) shift.tally.reports.items (reports_of (map (λ other. other.tally) shifts)) (subst (All (IsReport rooms)) (sym s.serving.reported) each)
    (reports_are link_faults link_told worker_faults worker_told rooms shifts
    (All-tail (IsShift link_faults link_told (ServesIn rooms) (IsReport rooms) worker_faults worker_told) shift shifts all))

module _ {K A : Type 0} (link_faults : K → ℕ) (link_told : K → Option Exchange) (worker_faults : A → ℕ) (worker_told : A → Option (Worker K))
    (rooms : List RunningRoom) (before after : List A) (tallies : List Tally) where
  -- the reports of workers' tallies are such
  pub reported : AreTallied link_faults link_told (ServesIn rooms) (IsReport rooms) worker_faults worker_told before after tallies
      → All (IsReport rooms) (reports_of tallies)
  reported t = subst (λ l. All (IsReport rooms) (reports_of l)) (sym t.tallied) (reports_are link_faults link_told worker_faults worker_told rooms t.shifts t.each)

  -- workers that served in rooms, which were closed then
  pub hosted : (count : ℕ) (emptied : List Tally) (gones : List (Vec Gone)) (closed : List Closed)
      → AreTallied link_faults link_told (ServesIn rooms) (IsReport rooms) worker_faults worker_told before after tallies
      → length rooms ≡ count → All IsOpened rooms → AreGathered (reports_of tallies) gones → AllZip IsEmptied tallies emptied → AreEnded rooms gones closed
      → AreHosted link_faults link_told worker_faults worker_told count before after emptied closed
  hosted count emptied gones closed t long opened gathered taken ended =
      let reports = reports_of tallies in
      let e : Ended rooms reports gones closed = record { opened_are = opened; reported = reported t; gathered = gathered; ended = ended } in
      let left = all_left rooms reports gones closed e in
      let shifts = shifts_of_closed rooms reports gones closed link_faults link_told worker_faults worker_told e t.shifts emptied
      (subst (λ l. AllZip IsEmptied l emptied) t.tallied taken) (subst (λ l. All (HasLeft rooms reports gones closed) (reports_of l)) t.tallied left) t.each in record {
        count_is = ended_count rooms gones closed ended ∙ long;
        closed_are = all_closed rooms gones closed opened ended;
        tallied = record { shifts = shifts.shifts; old = t.old ∙ shifts.old; new = t.new ∙ shifts.new; tallied = shifts.tallied; each = shifts.each };
        apart = λ room session. subst (λ l. count_by (is_of room session) l ≤ 1) (sym (emptied_reports tallies emptied taken))
            (apart_of rooms reports gones closed e room session);
      }
