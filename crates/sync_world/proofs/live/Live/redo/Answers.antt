use Rattle.std.proofs.Common.{true, false, [], ◌∷◌, refl, sym, ap, subst, ◌∙◌, Ok, slice_set}
use Rattle.std.specs.Vec.{with_item}
use Rattle.room_model.specs.Worlds.{on_redo}
use Rattle.room_model.specs.declared.line.OutLine.TheVariants as line
use Rattle.sync_world.specs.Answers.{Answers}
use Rattle.sync_world.specs.declared.live.Live.{Live}
use Rattle.sync_world.proofs.BackLemmas.{redo_done, redo_not_done}
use Rattle.sync_peer.specs.Viewing.{WatchAlike}
use Rattle.sync_world.specs.Viewing.{stores_in, stores_kept, ChangesOne}
use Rattle.sync_world.proofs.ViewingLemmas.{one_changes}
use Rattle.sync_world.proofs.live.Live.redo.Goals as goal

pub returns-then-branch-clause-step : goal.returns-then-branch-clause-step
returns-then-branch-clause-step g c = λ schemas world keeps.
    subst (λ n. Answers schemas world (on_redo schemas n world) (Ok c.in_ok-one_line.field-0) c.push_more.new.self) c.in-Some.ensures.found.0
    (redo_done schemas world c.args.self.now keeps c.in-Some.at c.index_mut.result.now c.in-Some.ensures.found.1 c.index_mut.ensures.value c.redo.new.self _ refl refl refl
    (λ s state stands. sym c.if-branch.true ∙ c.in_ok-redo.ensures.answer s state stands) c.in_ok-redo.ensures.ok c.owed-owed.result c.owed-owed.ensures c.push_more.new.self
    c.in_ok-push_more.ensures.pushed c.in_ok-push_more.ensures.given c.in_ok-one_line.field-0
    (c.in_ok-one_line.ensures ∙ ap (λ n. line.Redo n true ∷ []) (sym c.in-Some.ensures.found.0)))

pub returns-clause-step : goal.returns-clause-step
returns-clause-step g c = λ schemas world keeps.
    let mid : Live = record c.args.self.now { clients = with_item c.args.self.now.clients c.in-Some.at (record c.index_mut.result.now { peer = c.redo.new.self }) } in
    subst (λ n. Answers schemas world (on_redo schemas n world) (Ok c.in_ok-one_line-2.field-0) mid) c.in-Some.ensures.found.0
    (redo_not_done schemas world c.args.self.now keeps c.in-Some.at c.index_mut.result.now c.in-Some.ensures.found.1 c.index_mut.ensures.value c.redo.new.self mid refl refl refl
    (λ s state stands. sym c.if-branch.false ∙ c.in_ok-redo.ensures.answer s state stands) c.in_ok-redo.ensures.ok c.in_ok-one_line-2.field-0
    (c.in_ok-one_line-2.ensures ∙ ap (λ n. line.Redo n false ∷ []) (sym c.in-Some.ensures.found.0)))

pub returns-then-branch-clause-stores : goal.returns-then-branch-clause-stores
returns-then-branch-clause-stores g c =
    subst (λ n. ChangesOne n (stores_in c.args.self.now) (stores_in c.push_more.new.self)) c.in-Some.ensures.found.0
    (subst (ChangesOne c.in-Some.at (stores_in c.args.self.now)) (sym c.in_ok-push_more.ensures.stores)
    (one_changes c.args.self.now c.in-Some.at c.index_mut.result.now (record c.index_mut.result.now { peer = c.redo.new.self })
    c.in-Some.ensures.found.1 c.index_mut.ensures.value WatchAlike c.redo.ensures.views))

pub returns-clause-stores : goal.returns-clause-stores
returns-clause-stores g c =
    subst (λ n. ChangesOne n (stores_in c.args.self.now)
    (stores_kept (slice_set c.args.self.now.clients.items c.in-Some.at (record c.index_mut.result.now { peer = c.redo.new.self })))) c.in-Some.ensures.found.0
    (one_changes c.args.self.now c.in-Some.at c.index_mut.result.now (record c.index_mut.result.now { peer = c.redo.new.self })
    c.in-Some.ensures.found.1 c.index_mut.ensures.value WatchAlike c.redo.ensures.views)
