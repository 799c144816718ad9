use Rattle.std.proofs.Common.{w64, ◌≡◌, ◌≤◌, ◌<◌, ◌+◌, ℕ, pos, nat_abs, nat_lt, true, cond, length, Option, Some, None, rules, refl, sym, ap, subst, ◌∙◌, arith}
use Rattle.std.proofs.lemmas.Int.{to_z-of_z, ints}
use Rattle.std.proofs.lemmas.Bool.Decides.{nat_tests}
use Rattle.std.proofs.lemmas.Option.{same_Some}
use mir.Val.{SFits, to_z, of_z}
use Rattle.room_model.specs.Messages.{snapshot, updates}
use Rattle.room_model.specs.Schemas.{Member}
use Rattle.room_model.specs.Rooms as model
use Rattle.room_model.specs.Histories.{above, changed_after}
use Rattle.room_messages.specs.Results.{own_clocks}
use Rattle.room_schemas.specs.Decided.{decided}
use Rattle.room_accept.specs.Plans.{plan_of}
use Rattle.room_accept.specs.Pushes.{member_of}
use Rattle.sync_room.specs.Sending.{message_in, member_in, told_since}
use Rattle.sync_room.specs.Sessions.{session_of, phase_of}
use Rattle.sync_room.specs.Standing.{tree_of}
use Rattle.sync_room.proofs.HandleLemmas.{same_member}
use Rattle.sync_room.proofs.PresentLemmas.{presences_of}
use Rattle.sync_room.proofs.SentLemmas.{sent_kept, sent_near}
use Rattle.sync_room.proofs.room.Room.message.Goals as goal

pub returns-in_ok-said-in-Asked-clause-said : goal.returns-in_ok-said-in-Asked-clause-said
returns-in_ok-said-in-Asked-clause-said g c = λ state s h at.
    let same : c.index-session.result.now ≡ s = let here = c.index-session.ensures in cc in
    let phase = ap (λ s. s.phase) (sym same) ∙ c.in-Asked.is in
    let schemas = decided (tree_of c.args.self.now) in
    let member : Member = member_in s.number (session_of s) (plan_of c.in-Asked.plan) in
    let member_is : member_of c.member-member.result ≡ member =
    same_member (c.member-member.ensures.number ∙ ap (λ s. s.number) same) (c.member-member.ensures.readonly ∙ ap (λ s. s.readonly) same) (ap plan_of c.member-member.ensures.plan) in
    let fits : SFits w64 c.in-Asked.reached = search rules in
    let present = presences_of state c.args.self.now c.as_slice.result.now h (c.as_slice.ensures.value ∙ c.in_ok-present-in-Asked.ensures) in
    let said = c.in_ok-said-in-Asked.ensures.message state.first state.history h.agrees.history present in
    ap Some (said ∙ ap (λ m. snapshot schemas m c.in-Asked.request (to_z w64 (of_z w64 c.in-Asked.reached)) state.first state.history) member_is
    ∙ ap (λ reached. snapshot schemas member c.in-Asked.request reached state.first state.history) (to_z-of_z w64 c.in-Asked.reached fits))
    ∙ sym (ap (λ phase. message_in schemas state s.number (session_of s) (phase_of phase)) phase)

pub returns-in_ok-said-in-Live-clause-said : goal.returns-in_ok-said-in-Live-clause-said
returns-in_ok-said-in-Live-clause-said g c = λ state s h at.
    let same : c.index-session.result.now ≡ s = let here = c.index-session.ensures in cc in
    let phase = ap (λ s. s.phase) (sym same) ∙ c.in-Live.is in
    let schemas = decided (tree_of c.args.self.now) in
    let k = nat_abs c.in-Live.sent in
    let member : Member = member_in s.number (session_of s) (plan_of c.in-Live.plan) in
    let number = c.member-member-in-Live.ensures.number ∙ ap (λ s. s.number) same in
    let member_is : member_of c.member-member-in-Live.result ≡ member =
    same_member number (c.member-member-in-Live.ensures.readonly ∙ ap (λ s. s.readonly) same) (ap plan_of c.member-member-in-Live.ensures.plan) in
    let kept = sent_kept state c.args.self.now c.args.key s _ h at phase in
    let near = sent_near state c.args.self.now c.args.key s _ h at phase in
    let fits : SFits w64 c.in-Live.sent = search rules in
    let sent = to_z-of_z w64 c.in-Live.sent fits ∙ kept.natural in
    let pushed = c.deref.ensures.value ∙ ap (λ s. s.pushed.items) same ∙ kept.pushes ∙ ap (λ n. own_clocks n (above k state.history)) (sym number) in
    let said = c.in_ok-said-in-Live.ensures.message state.first state.history k h.agrees.history h.agrees.says sent near.0 near.1 pushed in
    let less : k < length state.history =
    let a = kept.natural in let b = h.agrees.history.clock in let d = c.clock.ensures.clock in let e = c.if-clock-sent.false in omega (arith, ints) in
    let behind : nat_lt k (length state.history) ≡ true = grind (arith, nat_tests) in
    ap Some (said ∙ ap (λ m. updates schemas m k state.history) member_is)
    ∙ sym (ap (λ b. cond b (Some (updates schemas member k state.history)) None) behind)
    ∙ sym (ap (λ phase. message_in schemas state s.number (session_of s) (phase_of phase)) phase)

pub returns-in_ok-said-in-Live-clause-ticks : goal.returns-in_ok-said-in-Live-clause-ticks
returns-in_ok-said-in-Live-clause-ticks g c = λ state s clock h at told.
    let same : c.index-session.result.now ≡ s = let here = c.index-session.ensures in cc in
    let phase = ap (λ s. s.phase) (sym same) ∙ c.in-Live.is in
    let k = nat_abs c.in-Live.sent in
    let kept = sent_kept state c.args.self.now c.args.key s _ h at phase in
    let near = sent_near state c.args.self.now c.args.key s _ h at phase in
    let fits : SFits w64 c.in-Live.sent = search rules in
    let sent = to_z-of_z w64 c.in-Live.sent fits ∙ kept.natural in
    let since : k ≡ clock = same_Some k clock (sym (ap (λ phase. told_since state (phase_of phase)) phase) ∙ told) in
    let ticks = c.in_ok-said-in-Live.ensures.ticks state.first state.history k h.agrees.history sent near.0 near.1 in
    subst (λ n. c.updates.new.steps ≤ c.args.steps.now + (length (changed_after n state.history) + 1)) since ticks
