use Rattle.std.proofs.Common.{w64, ◌≡◌, ◌≤◌, ◌<◌, ℕ, pos, nat_abs, true, false, is_some, length, Option, Some, None, IfSome, refl, sym, ap, subst, ◌∙◌, arith}
use Rattle.std.proofs.lemmas.Int.{ints}
use Rattle.rooms_val.specs.Data.{Pairs}
use Rattle.room_model.specs.Accepting.{is_taken, entry_of}
use Rattle.room_model.specs.Histories.{records_of}
use Rattle.room_model.specs.Schemas.{Schemas, Member}
use Rattle.room_model.specs.Rooms as model
use Rattle.room_model.specs.declared.handled.Handled.TheVariants.{Taken}
use Rattle.room_schemas.specs.Decided.{decided}
use Rattle.room_accept.specs.Plans.{plan_of}
use Rattle.room_accept.specs.Pushes.{member_of, push_of}
use Rattle.room_accept.specs.declared.accepted.Accepted.{Accepted}
use Rattle.sync_room.specs.Sessions.{session_of, phase_of}
use Rattle.sync_room.specs.Standing.{tree_of}
use Rattle.sync_room.proofs.HandleLemmas.{pushes_by, same_member}
use Rattle.sync_room.proofs.PushLemmas.{by_push, push_says}
use Rattle.sync_room.proofs.room.Room.judge.Goals as goal

pub returns-in-Some-clause-judged : goal.returns-in-Some-clause-judged
returns-in-Some-clause-judged c = λ state s h at.
    let same : c.index-session.result.now ≡ s = let here = c.index-session.ensures in cc in
    let phase = ap (λ s. s.phase) (sym same) ∙ c.in-Live.is in
    let push = push_of c.args.push in
    let member : Member = record { session = s.number; readonly = s.readonly; plan = plan_of c.in-Live.plan } in
    let member_is : member_of c.member-member.result ≡ member =
    same_member (c.member-member.ensures.number ∙ ap (λ s. s.number) same) (c.member-member.ensures.readonly ∙ ap (λ s. s.readonly) same) (ap plan_of c.member-member.ensures.plan) in
    let schemas = decided (tree_of c.args.self.now) in
    let is_taken_is : true ≡ is_taken schemas member push =
    ap is_some (sym c.in-Some.is) ∙ c.in_ok-accepted.ensures.taken ∙ ap (λ m. is_taken schemas m push) member_is in
    let entry_is = rw c.in-Some.is at c.in_ok-accepted.ensures.entry in
    let records : c.args.self.now.history.kept.records.0 ≡ records_of state.history = ap (λ r. r.0) h.history.records in
    let made : c.in-Some.accepted.entry ≡ entry_of schemas member (records_of state.history) push =
    entry_is ∙ ap (λ m. entry_of schemas m c.args.self.now.history.kept.records.0 push) member_is ∙ ap (λ r. entry_of schemas member r push) records in
    let early : length state.history < state.last = let a = h.last in let b = h.history.clock in let d = c.clock.ensures.clock in let e = c.if-self-clock.false in omega (arith, ints) in (
      ap (λ phase. model.after_push schemas s.number (session_of s) push state (phase_of phase)) phase
          ∙ pushes_by schemas s.number (session_of s) state push (nat_abs c.in-Live.sent) (plan_of c.in-Live.plan) true early is_taken_is
          ∙ ap (λ e. record { reply = Taken; room = model.after_entry e state }) (sym made),
      by_push schemas member (records_of state.history) push c.in-Some.accepted.entry made,
      push_says (tree_of c.args.self.now) member (records_of state.history) push c.in-Some.accepted.entry c.args.self.now.history.presence c.ids_rise.ensures (sym is_taken_is) made,
    )

pub returns-in-None-clause-judged : goal.returns-in-None-clause-judged
returns-in-None-clause-judged c = λ state s h at.
    let same : c.index-session.result.now ≡ s = let here = c.index-session.ensures in cc in
    let phase = ap (λ s. s.phase) (sym same) ∙ c.in-Live.is in
    let push = push_of c.args.push in
    let member : Member = record { session = s.number; readonly = s.readonly; plan = plan_of c.in-Live.plan } in
    let member_is : member_of c.member-member.result ≡ member =
    same_member (c.member-member.ensures.number ∙ ap (λ s. s.number) same) (c.member-member.ensures.readonly ∙ ap (λ s. s.readonly) same) (ap plan_of c.member-member.ensures.plan) in
    let schemas = decided (tree_of c.args.self.now) in
    let is_taken_is : false ≡ is_taken schemas member push =
    ap is_some (sym c.in-None.is) ∙ c.in_ok-accepted.ensures.taken ∙ ap (λ m. is_taken schemas m push) member_is in
    let early : length state.history < state.last = let a = h.last in let b = h.history.clock in let d = c.clock.ensures.clock in let e = c.if-self-clock.false in omega (arith, ints) in
    ap (λ phase. model.after_push schemas s.number (session_of s) push state (phase_of phase)) phase
    ∙ pushes_by schemas s.number (session_of s) state push (nat_abs c.in-Live.sent) (plan_of c.in-Live.plan) false early is_taken_is
