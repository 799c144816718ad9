use Rattle.std.proofs.Common.{◌≡◌, ◌∙◌, refl, ap, subst, true, false, not, ◌<◌, None}
use Rattle.std.specs.Prelude.{is_none}
use Rattle.sync_world.specs.declared.live.WorldClient.{WorldClient}
use Rattle.sync_world.proofs.EventLemmas.{cut_refused, cut_done, same_item}
use Rattle.sync_world.proofs.ViewingLemmas.{same_stores}
use Rattle.sync_world.proofs.live.Live.cut.Goals as goal

pub returns-then-is_none-clause-step : goal.returns-then-is_none-clause-step
returns-then-is_none-clause-step c schemas world keeps =
    let none : is_none c.index.result.now.session ≡ true = ap not c.is_none.ensures ∙ ap (λ b. not (not b)) c.if-is_none.true in
    cut_refused schemas world c.args.self.now keeps c.args.number c.in-Some.at c.index.result.now c.in-Some.ensures.found.0 c.in-Some.ensures.found.1 c.index.ensures none

pub returns-clause-step : goal.returns-clause-step
returns-clause-step c schemas world keeps =
    let one : c.index_mut-client.result.now ≡ c.index.result.now = let is = c.args.self.now.clients.ok.0 in same_item c.args.self.now.clients.items c.in-Some.at _ _ (subst (λ n. c.in-Some.at < n) is c.in-Some.ensures.found.1) c.index_mut-client.ensures.value c.index.ensures in
    let some : is_none c.index.result.now.session ≡ false = ap not c.is_none.ensures ∙ ap (λ b. not (not b)) c.if-is_none.false in
    cut_done schemas world c.args.self.now keeps c.args.number c.in-Some.at c.index_mut-client.result.now c.in-Some.ensures.found.0 c.in-Some.ensures.found.1
    c.index_mut-client.ensures.value (ap (λ (k : WorldClient). is_none k.session) one ∙ some) c.lost.new.self c.lost.ensures.stands c.new.result c.new.ensures.items _ refl refl refl

pub returns-clause-stores : goal.returns-clause-stores
returns-clause-stores c = same_stores c.args.self.now c.in-Some.at c.index_mut-client.result.now (record c.index_mut-client.result.now { peer = c.lost.new.self; session = None })
    c.in-Some.ensures.found.1 c.index_mut-client.ensures.value c.lost.ensures.store
