use Rattle.std.proofs.Common.{w64, ◌≡◌, ℤ, Option, Some, None, IfSome, IfNone, rules, sym, ap, subst, ◌∙◌}
use Rattle.std.proofs.lemmas.Int.{to_z-of_z}
use mir.Val.{SFits, to_z, of_z}
use Rattle.sync_room.specs.Sessions.{is_behind, IsFirstBehind}
use Rattle.sync_room.proofs.SlowLemmas.{if_some, if_none, first_of_slow, none_of_slow, behind_is_live, behind_unended}
use Rattle.sync_room.proofs.room.Room.first_slow.Goals as goal

pub returns-clause-live : goal.returns-clause-live
returns-clause-live c = if_some c.first_behind.result _ _ c.first_behind.ensures.found (λ key first. (first.session, first.here, behind_is_live _ first.session.phase first.behind))

pub returns-clause-first : goal.returns-clause-first
returns-clause-first c =
    let range = c.starts_at.type_inv in
    let fits : SFits w64 c.starts_at.result = search rules in
    let low = c.clock.ensures.low in
    let high = c.clock.ensures.high in
    let clock_fits : SFits w64 c.clock.result = search rules in
    let least_range = c.least_sent-least.type_inv in
    let least_fits : SFits w64 c.least_sent-least.result = search rules in
    let found = subst (λ z. IfSome c.first_behind.result (IsFirstBehind z c.args.self.now.sessions)) (to_z-of_z w64 c.least_sent-least.result least_fits) c.first_behind.ensures.found in
    if_some c.first_behind.result _ _ found (λ key first state h. record {
      session = first.session;
      at = record { here = first.here; unended = behind_unended _ first.session.phase first.behind };
      first = first_of_slow state c.args.self.now.sessions h.sessions _ _ c.least_sent-least.result c.least_sent-least.ensures
          (to_z-of_z w64 c.starts_at.result fits ∙ c.starts_at.ensures ∙ h.history.start) (to_z-of_z w64 c.clock.result clock_fits ∙ c.clock.ensures.clock ∙ h.history.clock) key first;
    })

pub returns-clause-none : goal.returns-clause-none
returns-clause-none c =
    let range = c.starts_at.type_inv in
    let fits : SFits w64 c.starts_at.result = search rules in
    let low = c.clock.ensures.low in
    let high = c.clock.ensures.high in
    let clock_fits : SFits w64 c.clock.result = search rules in
    let least_range = c.least_sent-least.type_inv in
    let least_fits : SFits w64 c.least_sent-least.result = search rules in
    if_none c.first_behind.result _ _ c.first_behind.ensures.none (λ none state h.
    none_of_slow state c.args.self.now.sessions h.sessions _ _ _ c.least_sent-least.ensures
    (to_z-of_z w64 c.starts_at.result fits ∙ c.starts_at.ensures ∙ h.history.start) (to_z-of_z w64 c.clock.result clock_fits ∙ c.clock.ensures.clock ∙ h.history.clock)
    (λ key s at. ap (λ z. is_behind z s.phase) (sym (to_z-of_z w64 c.least_sent-least.result least_fits)) ∙ none key s at))
