use Rattle.std.proofs.Common.{◌≡◌, ℕ, suc, ◌<◌, nat_lt, if◌then◌else◌, refl, sym, ap, subst, ◌∙◌, arith}
use Rattle.room_model.specs.declared.limits.TheConstants.{MOST_PINGS}
use Rattle.sync_room.specs.Sessions.{with_at}
use Rattle.sync_room.proofs.HandleLemmas.{next_pings, pings_kept}
use Rattle.sync_room.proofs.RoomLemmas.{changes}
use Rattle.sync_room.proofs.TableLemmas.{stays_in}
use Rattle.rooms_val.proofs.Truths.{some_there}
use Rattle.sync_room.proofs.room.Room.ping.Goals as goal

pub returns-clause-step : goal.returns-clause-step
returns-clause-step c = λ state s h at.
    let same : c.index.result.now ≡ s = let here = c.index.ensures in let found = at.here in cc in
    let fits : c.index.result.now.pings < 4294967296 = omega arith in
    let next : ℕ → ℕ = λ n. if nat_lt n MOST_PINGS then suc n else n in
    let pings : c.saturating_add.result ≡ next s.pings = c.saturating_add.ensures ∙ next_pings c.index.result.now.pings fits ∙ ap (λ s. next s.pings) same in
    let after = subst (λ n. c.set_pings.new.self ≡ with_at c.args.key (record s { pings = n }) c.args.self.now.sessions) pings (c.set_pings.ensures s at.here) in
    record {
      reply = refl;
      room = changes state c.args.self.now _ c.args.key s (record s { pings = next s.pings }) h at.here refl
          (pings_kept state.history s (next s.pings) (h.sessions.kept c.args.key s at.here)) (record { last = refl; history = refl; sessions = after });
    }

pub returns-clause-others : goal.returns-clause-others
returns-clause-others c =
    let s = some_there _ c.requires in
    stays_in c.args.self.now.sessions c.set_pings.new.self c.args.key s.0 _ s.1 refl (c.set_pings.ensures s.0 s.1)
