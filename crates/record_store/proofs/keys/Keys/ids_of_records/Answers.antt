use Rattle.std.proofs.Common.{◌≡◌, ◌++◌, Option, T, ap, sym, subst, ◌∙◌}
use Rattle.std.proofs.lemmas.List.{append-nil}
use Rattle.rooms_val.specs.Maps.{seen}
use Rattle.rooms_val.proofs.MapsLemmas.{rising-seen}
use Rattle.doc_store.proofs.Ids.{full_ids, ids-present}
use Rattle.tl_rules.specs.Answers.{record_in}
use Rattle.rooms_val.specs.Data.{Data}
use Rattle.tl_rules.specs.declared.key.TlKey.{TlKey}
use Rattle.record_store.specs.Lists.{atoms_of}
use Rattle.record_store.specs.Seen.{AreKeys}
use Rattle.record_store.specs.Tree.{keys_view}
use Rattle.record_store.proofs.TreeLemmas.{AreOfRecords, of_records}
use Rattle.record_store.proofs.keys.Keys.ids_of_records.Goals as goal

pub loop-id-init : goal.loop-id-init
loop-id-init c =
    let g : TlKey → Option Data = λ k. record_in (atoms_of c.args.graph.now k) in
    let start : c.into_iter-id-iterator.result ≡ c.self.inside.tree.entries = c.into_iter-id-iterator.ensures.into_iter_gives.0 in
    record {
      ids = ap (λ xs. xs ++ full_ids (seen g (keys_view c.into_iter-id-iterator.result))) c.new-ids.ensures.items ∙ ap (λ es. full_ids (seen g (keys_view es))) start ∙ ap (λ ks. full_ids (seen g ks)) c.self.view_is;
      keys = subst (λ es. AreOfRecords (keys_view es)) (sym start) (of_records (keys_view c.self.inside.tree.entries) c.self.invariant);
    }

pub returns : goal.returns
returns c =
    let g : TlKey → Option Data = λ k. record_in (atoms_of c.args.graph.now k) in
    sym (append-nil c.loop-id.ids.items) ∙ ap (λ es. c.loop-id.ids.items ++ full_ids (seen g (keys_view es))) (sym c.in-None.ensures.steps.0)
    ∙ c.loop-id.invariant.ids ∙ sym (ids-present (seen g c.args.self.now) (subst T (sym (rising-seen g c.args.self.now)) (subst AreKeys c.self.view_is c.self.invariant).rising))
