-- From what was noted of a link to what its report says.
use Rattle.std.proofs.Common.{◌≡◌, ℕ, List, [], ◌∷◌, ◌++◌, length, IfSome, slice_get, Bool, true, Option, Some, None, refl, sym, ap, ◌∙◌, subst}
use Rattle.std.proofs.lemmas.List.{append_assoc, append-nil}
use Rattle.link_texts.specs.Sending.{counted}
use Rattle.link_texts.specs.declared.join.Join.{Join}
use Rattle.room_events.specs.declared.room_event.RoomEvent.TheVariants.{Enter, Leave}
use Rattle.room_link.specs.Exchange.{Exchange, Arrival}
use Rattle.room_link.specs.declared.passing.Outgoing.{Outgoing}
use Rattle.room_run.specs.Calls.{HasSeenFull}
use Rattle.room_run.specs.Passes.{room_of_gone, view_of, view_of_gone, IfFull}
use Rattle.room_run.specs.Rooms.{id_of, opening_of}
use Rattle.room_run.specs.declared.passes.Gone.{Gone}
use Rattle.room_run.specs.declared.passes.PassFault.{PassFault}
use Rattle.room_run.specs.declared.passes.PassFault.TheVariants.{Full, OutOfMemory}
use Rattle.room_run.specs.declared.running.RunningRoom.{RunningRoom}
use Rattle.room_serve.proofs.CourseLemmas.{texts_append}
use Rattle.room_serve.specs.Accounts.{IsOpen, nothing_sent, texts_after}
use Rattle.room_serve.specs.Courses.{Course}
use Rattle.room_serve.specs.Joining.{Joins}
use Rattle.room_serve.specs.Reports.{account_of, IsService, IsServed, IsStay, IsVisit, ServesIn, WasIn, WasThere}
use Rattle.room_serve.specs.Turns.{Converses, Leaves}
use Rattle.room_serve.specs.Visits.{TurnsAway, Visits, full_gone}
use Rattle.room_serve.specs.declared.account.Account.{Account}
use Rattle.room_serve.specs.declared.conversation.Conversation.{Conversation}
use Rattle.room_serve.specs.declared.report.Report.{Report}
use Rattle.wire_text.specs.Feeding.{empty}

-- how who is gone was in a room
abbrev StayOf : RunningRoom → Gone → Option ℕ → Bool → Account → List Arrival → List Outgoing → Type 0
StayOf room gone = IsStay (HasSeenFull (opening_of room) (view_of_gone gone)) (λ number. (view_of_gone gone).mine)

-- a session entered, was served, and left
pub served : (room : RunningRoom) (readonly : Bool) (before after : Conversation) (gone : Gone) (report : Report) (o e : Exchange)
    → (view_of before.pass).mine ≡ Enter before.pass.session readonly ∷ [] → before.assembler ≡ empty 4194304
    → (view_of_gone gone).mine ≡ (view_of after.pass).mine ++ Leave before.pass.session ∷ [] → gone.session ≡ Some before.pass.session
    → report.gone ≡ Some gone → account_of report ≡ after.account → Converses before after o e → Leaves after.account o e
    → Visits room readonly before.account report o e
served room readonly before after gone report o e entered fresh left own is noted c whole =
    let n : ℕ = before.pass.session in
    let stay : IsServed n readonly (view_of_gone gone).mine c.arrivals c.goes.put after.account = record {
      events = c.goes.events;
      next = after.assembler;
      mine_is = left ∙ ap (λ l. l ++ Leave n ∷ []) (c.goes.mine ∙ ap (λ l. l ++ c.goes.events) entered);
      course = subst (λ a. Course n a after.assembler c.arrivals c.goes.events c.goes.put after.account) fresh c.goes.course;
    } in
    let visit : IsVisit room (Some gone) readonly after.account c.arrivals c.goes.put =
    subst (λ s. StayOf room gone s readonly after.account c.arrivals c.goes.put) (sym own) stay in record {
      arrivals = c.arrivals;
      put = c.goes.put;
      taken = c.goes.taken;
      out = c.goes.out;
      visit = subst (λ g. IsVisit room g readonly (account_of report) c.arrivals c.goes.put) (sym is)
          (subst (λ a. IsVisit room (Some gone) readonly a c.arrivals c.goes.put) (sym noted) visit);
      texts = ap (λ a. a.texts) noted ∙ c.goes.texts;
      sent = ap (λ a. a.sent) noted ∙ c.goes.sent;
      whole = λ still. whole (subst IsOpen noted still);
    }

-- a link was turned away
pub turned_away : (room : RunningRoom) (readonly : Bool) (before : Account) (gone : Option Gone) (report : Report) (o e : Exchange)
    → ((one : Gone) → gone ≡ Some one → (one.session ≡ None) × HasSeenFull (opening_of room) (view_of_gone one))
    → (gone ≡ None → report.memory ≡ true) → report.gone ≡ gone → TurnsAway gone before report o e → Visits room readonly before report o e
turned_away room readonly before gone report o e full none is t =
    record {
      arrivals = [];
      put = t.put;
      taken = ap (λ x. x.left) (sym t.out);
      out = ap (λ x. x.sent) t.out;
      visit = subst (λ g. IsVisit room g readonly (account_of report) [] t.put) (sym is) (by gone refl);
      texts = t.texts;
      sent = t.sent;
      whole = λ still. absurd (t.shut still);
    }
  where
    by : (g : Option Gone) → gone ≡ g → IsVisit room g readonly (account_of report) [] t.put
    by None same = record { refused = none same; wire = t.wire; nothing = refl; silent = t.none same }
    by (Some one) same =
        subst (λ s. StayOf room one s readonly (account_of report) [] t.put) (sym (full one same).0) (record {
          full = (full one same).1;
          nothing = refl;
          wire = t.wire;
          closing = t.full one same;
        })

-- a link named a room, and was there
pub joined_then : (rooms : List RunningRoom) (room : RunningRoom) (join : Join) (account : Account) (report : Report) (o m e : Exchange)
    → slice_get rooms join.room ≡ Some room → report.room ≡ Some join.room
    → Joins (length rooms) (Some join) account o m → Visits room join.readonly account report m e → ServesIn rooms report o e
joined_then rooms room join account report o m e there named j v =
    let arrivals : List Arrival = j.arrivals ++ v.arrivals in
    let service : IsService (length rooms) (WasThere rooms report.gone) (Some join.room) (account_of report) arrivals v.put = record {
      bytes = j.named.0;
      join = join;
      rest = v.arrivals;
      first = ap (λ l. l ++ v.arrivals) j.named.1;
      names = j.named.2;
      is = refl;
      visit = (room, there, v.visit);
    } in record {
      idles = j.idles;
      arrivals = arrivals;
      put = v.put;
      quiet = j.quiet;
      taken = j.taken ∙ ap (λ l. (j.idles ++ j.arrivals) ++ l) v.taken ∙ sym (append_assoc (j.idles ++ j.arrivals) v.arrivals e.left)
          ∙ ap (λ l. l ++ e.left) (append_assoc j.idles j.arrivals v.arrivals);
      out = v.out ∙ ap (λ l. l ++ v.put) (j.out ∙ ap (λ l. o.sent ++ l) j.named.3 ∙ append-nil o.sent);
      service = subst (λ n. IsService (length rooms) (WasThere rooms report.gone) n (account_of report) arrivals v.put) (sym named) service;
      texts = v.texts ∙ ap (λ n. texts_after n v.arrivals) j.texts ∙ sym (texts_append 0 j.arrivals v.arrivals);
      sent = v.sent ∙ ap (λ s. counted s v.put) (j.sent ∙ ap (counted nothing_sent) j.named.3);
      whole = v.whole;
    }

-- a link named no room
pub unjoined_then : (rooms : List RunningRoom) (account : Account) (report : Report) (o e : Exchange) → report.room ≡ None → account_of report ≡ account
    → Joins (length rooms) None account o e → ServesIn rooms report o e
unjoined_then rooms account report o e none noted j = record {
  idles = j.idles;
  arrivals = j.arrivals;
  put = j.put;
  quiet = j.quiet;
  taken = j.taken;
  out = j.out;
  service = subst (λ n. IsService (length rooms) (WasThere rooms report.gone) n (account_of report) j.arrivals j.put) (sym none)
      (subst (λ a. IsService (length rooms) (WasThere rooms report.gone) None a j.arrivals j.put) (sym noted) j.named);
  texts = ap (λ a. a.texts) noted ∙ j.texts;
  sent = ap (λ a. a.sent) noted ∙ j.sent;
  whole = λ still. j.whole refl (subst IsOpen noted still);
}

-- what holds of who is gone of a full room
pub full_of : (P : Gone → Type 0) (fault : PassFault) (one : Gone) → IfFull P fault → full_gone fault ≡ Some one → P one
full_of P (Full gone) one holds is = let same : gone ≡ one = cc in subst P same holds
full_of P OutOfMemory one holds is = absurd (cc)

-- who was in a room that a link has named
pub was_in : (rooms : List RunningRoom) (room : RunningRoom) (number : ℕ) (named : Option ℕ) (gone : Option Gone) → slice_get rooms number ≡ Some room
    → named ≡ Some number → IfSome gone (λ one. room_of_gone one ≡ id_of room) → IfSome gone (WasIn rooms named)
was_in rooms room number named None there is own = own
was_in rooms room number named (Some one) there is own = record { number = number; running = room; named = is; there = there; own = own }
