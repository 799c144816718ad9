use Rattle.std.proofs.Common.{◌≡◌, ◌∷◌, [], ◌++◌, List, ap, subst, ◌∙◌, Ok, Err}
use Rattle.rec_format.specs.declared.printed.PrintedLine.{PrintedLine}
use Rattle.record_store.specs.Seen.{watches}
use Rattle.signal_core.specs.declared.watch.WatchFault.TheVariants as watch_fault
use Rattle.world_views.specs.Views.{tells, with_watch}
use Rattle.world_views.specs.Standing.{Keeps}
use Rattle.sync_peer.proofs.WatchLemmas.{some_of, new_watch, least_free, not_full, full_where, adds_watch}
use Rattle.world_views.proofs.TellLemmas.{is_made, has_watches, stand_there, watch_may, watch_stays, watches_more, watches_no_more}
use Rattle.world_views.proofs.viewed.ViewedWorld.watch.Goals as goal

pub returns-in_ok-tell-in-Ok-clause-steps : goal.returns-in_ok-tell-in-Ok-clause-steps
returns-in_ok-tell-in-Ok-clause-steps g c = λ schemas viewed stands.
    let old = c.args.self.now.world in
    let new = c.watch.new.self in
    let client = c.args.client in
    let view = c.args.view.now in
    let made = is_made schemas client viewed old stands.world stands.watched (c.has_client.ensures.0 c.if-not-has_client.false) in
    let slots = watches made.store in
    let stand = stand_there schemas client viewed old stands.watched made in
    let ws = made.ws ++ new_watch view ∷ [] in
    let free = not_full slots made.ws stand (λ full. absurd (let no : Ok c.in-Ok.field-0 ≡ Err watch_fault.Full = (c.in-Ok.ensures.full made.store made.stored).1 full in cc)) in
    let number = least_free slots made.ws stand c.in-Ok.field-0.number (c.in-Ok.ensures.number made.store made.stored) in
    let has = c.in-Ok.ensures.ok (some_of made.ws) (some_of ws) (has_watches schemas client viewed old stands.watched made) (adds_watch made.ws view c.in-Ok.field-0.number number) in
    let after = with_watch schemas client view made.ws viewed in
    let may = watch_may schemas client viewed old new stands made (c.in-Ok.ensures.stands schemas viewed.world stands.world) c.in-Ok.ensures.stores view has in
    let told = c.in_ok-tell-in-Ok.ensures schemas after may in
    let none = c.new.ensures.items in (
      tells schemas [] after,
      watches_more schemas client view viewed made.ws made.watched free,
      told.0 ∙ ap (λ (ls : List PrintedLine). (tells schemas ls after).lines) none,
      subst (λ (ls : List PrintedLine). Keeps schemas (tells schemas ls after).viewed c.tell.new.self.world) none told.1,
    )

pub returns-in-Err-Full-clause-steps : goal.returns-in-Err-Full-clause-steps
returns-in-Err-Full-clause-steps g c = λ schemas viewed stands other.
    let old = c.args.self.now.world in
    let client = c.args.client in
    let made = is_made schemas client viewed old stands.world stands.watched (c.has_client.ensures.0 c.if-not-has_client.false) in
    let stand = stand_there schemas client viewed old stands.watched made in
    let full = full_where (watches made.store) made.ws stand ((c.in-Err-Full.ensures.full made.store made.stored).0 (ap (λ f. Err f) c.in-Err-Full.field-0-is)) in
    let has = c.in-Err-Full.ensures.err (some_of made.ws) (has_watches schemas client viewed old stands.watched made) in (
      watches_no_more schemas client c.args.view.now viewed made.ws made.watched full,
      watch_stays schemas client viewed old c.watch.new.self stands made (c.in-Err-Full.ensures.stands schemas viewed.world stands.world) c.in-Err-Full.ensures.stores has,
    )
