use Rattle.std.proofs.Common.{refl, subst, Ok}
use Rattle.std.specs.Vec.{with_item}
use Rattle.room_model.specs.Worlds.{on_mark}
use Rattle.sync_world.specs.Answers.{Answers}
use Rattle.sync_world.specs.declared.live.Live.{Live}
use Rattle.sync_world.proofs.BackLemmas.{mark_done}
use Rattle.sync_world.proofs.ViewingLemmas.{same_stores}
use Rattle.sync_world.proofs.live.Live.mark.Goals as goal

pub returns-clause-step : goal.returns-clause-step
returns-clause-step c = λ schemas world keeps.
    let mid : Live = record c.args.self.now { clients = with_item c.args.self.now.clients c.in-Some.at (record c.index_mut.result.now { peer = c.mark.new.self }) } in
    subst (λ n. Answers schemas world (on_mark n c.args.name world) (Ok c.new.result) mid) c.in-Some.ensures.found.0
    (mark_done schemas world c.args.self.now keeps c.in-Some.at c.index_mut.result.now c.in-Some.ensures.found.1 c.index_mut.ensures.value c.mark.new.self mid refl refl refl
    c.args.name c.in_ok-mark.ensures.ok c.new.result c.new.ensures.items)

pub returns-clause-stores : goal.returns-clause-stores
returns-clause-stores c = same_stores c.args.self.now c.in-Some.at c.index_mut.result.now (record c.index_mut.result.now { peer = c.mark.new.self })
    c.in-Some.ensures.found.1 c.index_mut.ensures.value c.mark.ensures.store
