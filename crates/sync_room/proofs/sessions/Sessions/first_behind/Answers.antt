use Rattle.std.proofs.Common.{w64, ◌≡◌, [], Some, sym, subst, ◌∙◌}
use Rattle.std.proofs.lemmas.Int.{to_z-of_z}
use mir.Val.{to_z, of_z}
use Rattle.sync_room.proofs.FirstLemmas.{IsSoFar, nothing_yet, one_behind, one_level, first_found}
use Rattle.sync_room.proofs.sessions.Sessions.first_behind.Goals as goal

pub loop-key-init : goal.loop-key-init
loop-key-init c = (tt, tt, nothing_yet _ c.args.self.now _ (c.into_iter-key-iterator.ensures.into_iter_gives ∙ c.iter-key-items.ensures.rest))

pub loop-key-preserved-then-is_behind : goal.loop-key-preserved-then-is_behind
loop-key-preserved-then-is_behind c =
    let before = subst (IsSoFar (to_z w64 (of_z w64 c.args.clock)) c.args.self.now c.loop-key.first) c.in-Some.ensures.steps c.loop-key.invariant.2 in
    let after = one_behind _ c.args.self.now c.loop-key.first c.in-Some.key c.in-Some.session.now c.next.new.self before (sym c.is_behind.ensures ∙ c.if-is_behind.true) in
    (tt, tt, subst (λ first. IsSoFar (to_z w64 (of_z w64 c.args.clock)) c.args.self.now first c.next.new.self) (sym c.lesser-first.ensures) after)

pub loop-key-preserved : goal.loop-key-preserved
loop-key-preserved c =
    let before = subst (IsSoFar (to_z w64 (of_z w64 c.args.clock)) c.args.self.now c.loop-key.first) c.in-Some.ensures.steps c.loop-key.invariant.2 in
    (tt, tt, one_level _ c.args.self.now c.loop-key.first c.in-Some.key c.in-Some.session.now c.next.new.self before (sym c.is_behind.ensures ∙ c.if-is_behind.false))

pub returns-clause-found : goal.returns-clause-found
returns-clause-found c =
    let clock = to_z-of_z w64 c.args.clock c.ranges.clock in
    let left = subst (IsSoFar (to_z w64 (of_z w64 c.args.clock)) c.args.self.now c.loop-key.first) c.in-None.ensures.steps.0 c.loop-key.invariant.2 in
    let found = subst (λ first. IsSoFar (to_z w64 (of_z w64 c.args.clock)) c.args.self.now first []) c.in_ok-key.was left in
    first_found c.args.clock c.args.self.now (c.in_ok-key.key, c.in_ok-key.field-0-1) (subst (λ clock. IsSoFar clock c.args.self.now (Some (c.in_ok-key.key, c.in_ok-key.field-0-1)) []) clock found)
