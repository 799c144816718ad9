use Rattle.std.proofs.Common.{◌≡◌, ◌+◌, suc, ◌∷◌, [], option_map, sym, ap, subst, ◌∙◌, arith}
use Rattle.std.specs.Prelude.{nat_lt}
use Rattle.room_model.specs.declared.limits.TheConstants.{MOST_PUSHES}
use Rattle.room_model.specs.Replicas.{is_open, push_of}
use Rattle.client_replica.specs.Works.{work_of}
use Rattle.client_replica.proofs.WorkLemmas.{at-map}
use Rattle.sync_client.specs.Standing.{Stands}
use Rattle.sync_client.proofs.ClientLemmas.{sent_pushes, pushes_one, after_push, not_le}
use Rattle.sync_client.proofs.client.SyncClient.next_push.Goals as goal

pub returns-in_default-clause-push : goal.returns-in_default-clause-push
returns-in_default-clause-push g c = λ state stands.
    let old = c.args.self.now in
    let items = old.replica.works.items in
    let none = at-map work_of items old.counts.sent ∙ ap (option_map work_of) (sym c.in_default.ensures) in
    sym (ap (λ p. p.messages) (sent_pushes g.D.DocStore.records state old stands none))

pub returns-in_default-clause-ok : goal.returns-in_default-clause-ok
returns-in_default-clause-ok g c = λ state stands.
    let old = c.args.self.now in
    let records = g.D.DocStore.records in
    let items = old.replica.works.items in
    let none = at-map work_of items old.counts.sent ∙ ap (option_map work_of) (sym c.in_default.ensures) in
    subst (λ p. Stands records (record state { client = p.client }) old) (sym (sent_pushes records state old stands none)) stands

pub returns-clause-push : goal.returns-clause-push
returns-clause-push g c = λ state stands.
    let old = c.args.self.now in
    let records = g.D.DocStore.records in
    let work = work_of c.in-Some.work.now in
    let joined = ap is_open (sym stands.connection) ∙ sym c.is_open.ensures ∙ c.if-not-is_open.false in
    let few = ap (λ n. nat_lt n MOST_PUSHES) (sym stands.pushes) ∙ not_le MOST_PUSHES old.counts.pushes (sym c.are_spent.ensures ∙ c.if-are_spent.false) in
    let there = at-map work_of old.replica.works.items old.counts.sent ∙ ap (option_map work_of) (sym c.in-Some.ensures) in
    let number : old.counts.pushes + 1 ≡ suc state.client.pushes = let same = stands.pushes in omega arith in
    ap (λ m. m ∷ []) (c.in_ok-push.ensures ∙ ap (λ n. push_of n work) number) ∙ sym (ap (λ p. p.messages) (pushes_one records state old work stands joined few there))

pub returns-clause-ok : goal.returns-clause-ok
returns-clause-ok g c = λ state stands.
    let old = c.args.self.now in
    let records = g.D.DocStore.records in
    let work = work_of c.in-Some.work.now in
    let joined = ap is_open (sym stands.connection) ∙ sym c.is_open.ensures ∙ c.if-not-is_open.false in
    let few = ap (λ n. nat_lt n MOST_PUSHES) (sym stands.pushes) ∙ not_le MOST_PUSHES old.counts.pushes (sym c.are_spent.ensures ∙ c.if-are_spent.false) in
    let there = at-map work_of old.replica.works.items old.counts.sent ∙ ap (option_map work_of) (sym c.in-Some.ensures) in
    subst (λ p. Stands records (record state { client = p.client }) (record old { counts = c.push.new.self })) (sym (pushes_one records state old work stands joined few there))
    (after_push records state old c.push.new.self work stands joined there c.push.ensures.pushes c.push.ensures.sent)
