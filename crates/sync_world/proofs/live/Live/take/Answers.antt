use Rattle.std.proofs.Common.{◌∙◌, ap, sym, refl, subst}
use Rattle.std.proofs.lemmas.Result.{on_ok_weaker}
use Rattle.sync_msgs.specs.declared.out.Out.TheVariants.{Message}
use Rattle.sync_world.proofs.DeliverLemmas.{answer_pushes, data_rests, pong_rests, taken_answer, taken_data}
use Rattle.sync_peer.specs.Viewing.{WatchAlike}
use Rattle.sync_world.specs.Viewing.{stores_in, ChangesOne}
use Rattle.sync_world.proofs.ViewingLemmas.{one_changes}
use Rattle.sync_world.proofs.live.Live.take.Goals as goal

pub returns-in-Connect-clause-taken : goal.returns-in-Connect-clause-taken
returns-in-Connect-clause-taken g c = on_ok_weaker c.push.result
    (λ pushes schemas world client k notice fits made delivery.
    taken_answer schemas world c.args.self.now fits c.args.at client c.index_mut.result.now c.requires made c.index_mut.ensures.value k c.args.message.now notice delivery
    c.take.new.self _ refl refl refl c.in-Ok.ensures.ok
    (answer_pushes schemas world client k world.room.history notice c.in-Connect.hydration_type c.in-Connect.connect_request_id c.in-Connect.protocol_version c.in-Connect.schema
    c.in-Connect.diff c.in-Connect.server_clock c.in-Connect.is_readonly (sym (ap Message c.in-Connect.is) ∙ delivery.told))
    c.push.new.self pushes)
    c.push.ensures.pushed

pub returns-in-Data-clause-taken : goal.returns-in-Data-clause-taken
returns-in-Data-clause-taken g c = λ schemas world client k notice fits made delivery.
    taken_data schemas world c.args.self.now fits c.args.at client c.index_mut.result.now c.requires made c.index_mut.ensures.value k c.args.message.now notice delivery
    c.take.new.self _ refl refl refl c.in-Ok.ensures.ok
    (data_rests schemas world client k world.room.history notice c.in-Data.events (sym (ap Message c.in-Data.is) ∙ delivery.told))

pub returns-in-Pong-clause-taken : goal.returns-in-Pong-clause-taken
returns-in-Pong-clause-taken g c = λ schemas world client k notice fits made delivery.
    taken_data schemas world c.args.self.now fits c.args.at client c.index_mut.result.now c.requires made c.index_mut.ensures.value k c.args.message.now notice delivery
    c.take.new.self _ refl refl refl c.in-Ok.ensures.ok
    (pong_rests schemas world client k world.room.history notice (sym (ap Message c.in-Pong.is) ∙ delivery.told))

pub returns-in-Connect-clause-stores : goal.returns-in-Connect-clause-stores
returns-in-Connect-clause-stores g c = on_ok_weaker c.push.result
    (λ same. subst (ChangesOne c.args.at (stores_in c.args.self.now)) (sym same)
    (one_changes c.args.self.now c.args.at c.index_mut.result.now (record c.index_mut.result.now { peer = c.take.new.self })
    c.requires c.index_mut.ensures.value WatchAlike c.take.ensures.views))
    c.push.ensures.stores

pub returns-in-Data-clause-stores : goal.returns-in-Data-clause-stores
returns-in-Data-clause-stores g c = one_changes c.args.self.now c.args.at c.index_mut.result.now (record c.index_mut.result.now { peer = c.take.new.self })
    c.requires c.index_mut.ensures.value WatchAlike c.take.ensures.views

pub returns-in-Pong-clause-stores : goal.returns-in-Pong-clause-stores
returns-in-Pong-clause-stores g c = one_changes c.args.self.now c.args.at c.index_mut.result.now (record c.index_mut.result.now { peer = c.take.new.self })
    c.requires c.index_mut.ensures.value WatchAlike c.take.ensures.views
