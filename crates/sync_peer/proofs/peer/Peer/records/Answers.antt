use Rattle.std.proofs.Common.{sym, ap, subst, ◌∙◌}
use Rattle.record_store.specs.Seen.{Seen}
use Rattle.rooms_val.specs.Maps.{AreRising, added, value_at}
use Rattle.sync_peer.specs.Calls.{records_of}
use Rattle.sync_peer.proofs.CopyLemmas.{IsCopied, none_copied, one_copied, all_copied, nothing_left}
use Rattle.sync_peer.proofs.PeerLemmas.{shown_is}
use Rattle.sync_peer.proofs.peer.Peer.records.Goals as goal

pub ids-init : goal.ids-init
ids-init c =
    subst (λ (store : Seen). IsCopied (records_of store) c.new-fields.result c.into_iter-id-iterator.result.rest.items) c.store-store.ensures.store
    (none_copied (records_of c.store-store.result.now) c.new-fields.result c.into_iter-id-iterator.result.rest.items c.new-fields.ensures
    (c.into_iter-id-iterator.ensures.into_iter_gives.0 ∙ c.in_ok-id-items.ensures))

pub ids-preserved : goal.ids-preserved
ids-preserved c =
    let all = records_of c.args.self.now.client.replica.store in
    let same = ap records_of c.store-store.ensures.store in
    one_copied all c.ids.fields (subst AreRising same c.in_ok-copy_record.ensures.sound) c.in-Some.id c.next.new.self.rest.items c.copy_record.new.fields
    (c.in_ok-copy_record.ensures.copied ∙ ap (λ ps. added c.ids.fields c.in-Some.id (value_at ps c.in-Some.id)) same)
    (subst (IsCopied all c.ids.fields) c.in-Some.ensures.steps.0 c.ids.invariant)

pub returns : goal.returns
returns c = λ schemas state stands.
    let so_far = c.ids.invariant in
    let none = nothing_left c.ids.id-iterator.rest.items (sym c.ids.id-iterator.rest.ok.0 ∙ c.in-None.ensures.steps.0) in
    (all_copied (records_of c.args.self.now.client.replica.store) c.ids.fields (subst (IsCopied (records_of c.args.self.now.client.replica.store) c.ids.fields) none so_far) ∙ sym (shown_is schemas state c.args.self.now stands))
