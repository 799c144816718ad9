use Rattle.std.proofs.Common.{◌≡◌, ◌+◌, [], ◌∷◌, ◌++◌, map, sym, ap, subst, ◌∙◌, arith}
use Rattle.std.proofs.lemmas.List.{map-append}
use Rattle.field_ops.specs.RecordOps.{IsSoundDiff}
use Rattle.schema_core.specs.SchemaOf.{schema_tree}
use Rattle.room_model.specs.Replicas.{edit}
use Rattle.edit_names.specs.Names.{count_at, once}
use Rattle.doc_store.proofs.Checked.{checked_step, checked_inverse}
use Rattle.client_replica.specs.declared.work.Work.TheVariants.{Edit}
use Rattle.client_replica.specs.Works.{work_of, diffs_in}
use Rattle.client_replica.specs.Stashes.{times, AreCounted}
use Rattle.client_replica.specs.Standing.{IsReplica, with_work}
use Rattle.client_replica.proofs.WorkLemmas.{diffs-append}
use Rattle.client_replica.proofs.CountLemmas.{times-more}
use Rattle.client_replica.proofs.ReplicaLemmas.{edited, rising-shown, moved}
use Rattle.client_replica.proofs.replica.Replica.edit.Goals as goal

pub returns-in-Ok-clause-ok : goal.returns-in-Ok-clause-ok
returns-in-Ok-clause-ok g c = λ replica stands is.
    let r = c.args.self.now in
    let s = schema_tree r.schema in
    let diff = c.args.diff in
    let works = map work_of r.works.items in
    let records = g.D.DocStore.records r.store in
    let after = g.D.DocStore.records c.write_edit.new.store in
    let names = c.add.new.self in
    let sound : IsSoundDiff diff = subst IsSoundDiff c.diff.view_is c.diff.invariant in
    let told = c.in-Ok.ensures in
    let counted : AreCounted (diffs_in (works ++ edit diff ∷ [])) names = λ id. c.in_ok-add.ensures.ok id ∙ ap (λ n. n + once diff id) (stands.1 id) ∙ sym (times-more (diffs_in works) diff id) ∙ ap (λ ds. times ds id) (sym (diffs-append works (edit diff ∷ []))) in
    subst (λ ws. IsReplica s after ws c.write_edit.new.stash r.others (with_work (edit diff) replica) × AreCounted (diffs_in ws) names)
    (sym (ap (map work_of) (c.push_back_reserved.ensures.items ∙ ap (λ xs. xs ++ Edit diff ∷ []) c.in_ok-reserve.ensures.items) ∙ map-append work_of r.works.items (Edit diff ∷ []))) (
      edited s records after works r.stash c.write_edit.new.stash r.others replica diff sound.0 stands.0 told.base told.exact told.rising told.few
          (told.shown ∙ checked_step s c.args.checked records diff is (rising-shown s records works r.stash r.others replica stands.0) sound.0),
      counted,
    )

pub returns-in-Ok-clause-back : goal.returns-in-Ok-clause-back
returns-in-Ok-clause-back g c = λ is.
    let r = c.args.self.now in
    c.in-Ok.ensures.back ∙ checked_inverse (schema_tree r.schema) c.args.checked (g.D.DocStore.records r.store) c.args.diff is
