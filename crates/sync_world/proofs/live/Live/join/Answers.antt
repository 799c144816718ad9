use Rattle.std.proofs.Common.{◌≡◌, nat_le, false, ◌++◌, ◌∷◌, [], length, refl, sym, subst, arith}
use Rattle.std.proofs.lemmas.Bool.Decides.{nat_tests}
use Rattle.room_model.specs.Replicas.{new_client}
use Rattle.room_model.specs.declared.event.Event.TheVariants as event
use Rattle.room_model.specs.declared.limits.TheConstants.{MOST_CLIENTS}
use Rattle.sync_world.specs.Keeping.{AreKept}
use Rattle.sync_world.specs.Standing.{IsClient}
use Rattle.sync_world.proofs.KeepingLemmas.{kept_added}
use Rattle.sync_world.proofs.OutcomeLemmas.{joins}
use Rattle.sync_world.proofs.PartLemmas.{happened, fits_with, new_kept}
use Rattle.sync_world.proofs.live.Live.join.Goals as goal

pub returns-clause-step : goal.returns-clause-step
returns-clause-step c schemas world keeps =
    let long = keeps.fits.clients.long in
    let is = c.args.self.now.clients.ok.0 in
    let place : nat_le MOST_CLIENTS (length world.clients) ≡ false = grind (arith, nat_tests, c.len.ensures, c.if-len-ge-MOST_CLIENTS.false) in
    let v = record world { clients = world.clients ++ new_client c.args.version ∷ [] } in
    let new = record c.args.self.now { clients = c.push.new.self } in
    let kept = kept_added (IsClient schemas world.room.history) world.clients c.args.self.now.clients.items _ _ keeps.fits.clients
    (new_kept schemas world.room.history c.args.version c.in_ok-peer.peer (c.in_ok-peer.ensures.stands schemas keeps.fits.tables)) in
    happened schemas world v false (event.Client c.args.version) c.args.self.now new [] c.new.result keeps (joins world c.args.version place) c.new.ensures.items
    (fits_with schemas world c.args.self.now keeps.fits v new keeps.fits.room refl
    (subst (λ ks. AreKept (IsClient schemas world.room.history) v.clients ks) (sym c.in_ok-push.ensures.items) kept) keeps.fits.sent)
    refl
