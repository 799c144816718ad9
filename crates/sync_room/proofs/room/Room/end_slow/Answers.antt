use Rattle.std.proofs.Common.{◌≡◌, sym, subst, refl, ◌∙◌}
use Rattle.room_model.specs.Rooms as model
use Rattle.sync_msgs.specs.declared.end_reason.EndReason.TheVariants.{Slow}
use Rattle.sync_room.specs.Sessions.{session_of}
use Rattle.sync_room.specs.Standing.{Agrees}
use Rattle.sync_room.proofs.SlowLemmas.{slowing_begins, slowing_goes_on, slowing_ends, fewer_live}
use Rattle.sync_room.proofs.room.Room.end_slow.Goals as goal

pub ends-init : goal.ends-init
ends-init c = record { agrees = λ state h. (state, slowing_begins state, h); others = λ other there. there; schema = refl }

pub ends-smaller : goal.ends-smaller
ends-smaller c =
    let live = c.in-Some.ensures.live in
    fewer_live c.ends.self.sessions c.end.new.self.sessions c.in-Some.key live.0 Slow live.1 live.2 (c.end.ensures.table live.0 live.1)

pub ends-preserved : goal.ends-preserved
ends-preserved c = record {
  agrees = λ state h.
      let now = c.ends.invariant.agrees state h in
      let first = c.in-Some.ensures.first now.0 now.2 in
      let s = first.session in
      let closed = c.end.ensures.ended now.0 s now.2 first.at in
      (_, slowing_goes_on state now.0 s.number (session_of s) now.1 first.first (now.2.sessions.here c.in-Some.key s first.at.here), closed.1);
  others = λ other there. c.end.ensures.others other (c.ends.invariant.others other there);
  schema = c.end.ensures.schema ∙ c.ends.invariant.schema;
}

pub returns-clause-ended : goal.returns-clause-ended
returns-clause-ended c = λ state h.
    let now = c.ends.invariant.agrees state h in
    subst (λ r. Agrees r c.ends.self) (sym (slowing_ends state now.0 now.1 (c.in_default.ensures.none now.0 now.2))) now.2
