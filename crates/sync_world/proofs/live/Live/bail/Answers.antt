use Rattle.std.proofs.Common.{◌≡◌, refl, sym, ap, subst, ◌∙◌, Ok, Err, slice_set}
use Rattle.std.specs.Vec.{with_item}
use Rattle.room_model.specs.Worlds.{on_bail}
use Rattle.room_model.specs.declared.fault.StepFault.TheVariants.{NoMark}
use Rattle.undo_marks.specs.declared.fault.BailFault.TheVariants as bail
use Rattle.sync_world.specs.Answers.{Answers}
use Rattle.sync_world.specs.declared.live.Live.{Live}
use Rattle.sync_world.proofs.BackLemmas.{bail_is_done, bail_refused}
use Rattle.sync_peer.specs.Viewing.{WatchAlike}
use Rattle.sync_world.specs.Viewing.{stores_in, stores_kept, ChangesOne}
use Rattle.sync_world.proofs.ViewingLemmas.{one_changes}
use Rattle.sync_world.proofs.live.Live.bail.Goals as goal

pub returns-in_ok-push_more-in-Ok-clause-step : goal.returns-in_ok-push_more-in-Ok-clause-step
returns-in_ok-push_more-in-Ok-clause-step g c = λ schemas world keeps.
    subst (λ name. Answers schemas world (on_bail schemas c.args.number name world) (Ok c.new.result) c.push_more.new.self) c.as_str.ensures.bytes
    (subst (λ n. Answers schemas world (on_bail schemas n c.as_str.result.now world) (Ok c.new.result) c.push_more.new.self) c.in-Some.ensures.found.0
    (bail_is_done schemas world c.args.self.now keeps c.in-Some.at c.index_mut.result.now c.in-Some.ensures.found.1 c.index_mut.ensures.value c.bail.new.self _ refl refl refl
    c.as_str.result.now c.in-Ok.ensures.fault c.in-Ok.ensures.ok c.owed-owed.result c.owed-owed.ensures c.push_more.new.self
    c.in_ok-push_more-in-Ok.ensures.pushed c.in_ok-push_more-in-Ok.ensures.given c.new.result c.new.ensures.items))

pub returns-in-Err-NoMark-clause-step : goal.returns-in-Err-NoMark-clause-step
returns-in-Err-NoMark-clause-step g c = λ schemas world keeps.
    let mid : Live = record c.args.self.now { clients = with_item c.args.self.now.clients c.in-Some.at (record c.index_mut.result.now { peer = c.bail.new.self }) } in
    let is = c.in-Err-NoMark.field-0-is in
    subst (λ name. Answers schemas world (on_bail schemas c.args.number name world) (Err NoMark) mid) c.as_str.ensures.bytes
    (subst (λ n. Answers schemas world (on_bail schemas n c.as_str.result.now world) (Err NoMark) mid) c.in-Some.ensures.found.0
    (bail_refused schemas world c.args.self.now keeps c.in-Some.at c.index_mut.result.now c.in-Some.ensures.found.1 c.index_mut.ensures.value c.bail.new.self mid refl refl refl
    c.as_str.result.now
    (λ s state stands. c.in-Err-NoMark.ensures.fault s state stands (λ oom. absurd (let no : bail.NoMark ≡ bail.OutOfMemory = sym is ∙ oom in cc)) ∙ ap (λ f. Err f) is)
    c.in-Err-NoMark.ensures.err))

pub returns-in_ok-push_more-in-Ok-clause-stores : goal.returns-in_ok-push_more-in-Ok-clause-stores
returns-in_ok-push_more-in-Ok-clause-stores g c =
    subst (λ n. ChangesOne n (stores_in c.args.self.now) (stores_in c.push_more.new.self)) c.in-Some.ensures.found.0
    (subst (ChangesOne c.in-Some.at (stores_in c.args.self.now)) (sym c.in_ok-push_more-in-Ok.ensures.stores)
    (one_changes c.args.self.now c.in-Some.at c.index_mut.result.now (record c.index_mut.result.now { peer = c.bail.new.self })
    c.in-Some.ensures.found.1 c.index_mut.ensures.value WatchAlike c.bail.ensures.views))

pub returns-in-Err-NoMark-clause-stores : goal.returns-in-Err-NoMark-clause-stores
returns-in-Err-NoMark-clause-stores g c =
    subst (λ n. ChangesOne n (stores_in c.args.self.now)
    (stores_kept (slice_set c.args.self.now.clients.items c.in-Some.at (record c.index_mut.result.now { peer = c.bail.new.self })))) c.in-Some.ensures.found.0
    (one_changes c.args.self.now c.in-Some.at c.index_mut.result.now (record c.index_mut.result.now { peer = c.bail.new.self })
    c.in-Some.ensures.found.1 c.index_mut.ensures.value WatchAlike c.bail.ensures.views)
