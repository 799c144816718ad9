use Rattle.std.proofs.Common.{rules, map, sym, ap, subst, ◌∙◌}
use Rattle.std.specs.Prelude.{is_some, filter}
use Rattle.std.proofs.lemmas.Fn.{filter_same}
use Rattle.schema_core.specs.SchemaOf.{schema_tree}
use Rattle.schema_core.specs.Admits.{is_document}
use Rattle.room_model.specs.Replicas.{diff_in}
use Rattle.client_replica.specs.Works.{work_of, diffs_in}
use Rattle.client_replica.specs.Stashes.{AreCounted}
use Rattle.client_replica.specs.Standing.{IsReplica, alone}
use Rattle.client_replica.proofs.WorkLemmas.{map-filter, edits_left, diffs-edits}
use Rattle.client_replica.proofs.ReplicaLemmas.{parted}
use Rattle.client_replica.proofs.replica.Replica.part.Goals as goal

pub returns-clause-ok : goal.returns-clause-ok
returns-clause-ok g c = λ replica stands.
    let r = c.args.self.now in
    let s = schema_tree r.schema in
    let records = g.D.DocStore.records r.store in
    let left = filter_same _ (λ w. is_some (diff_in (work_of w))) _ (λ x b f k. search rules) _ _ c.retain.ensures.filtered in
    let works = map work_of r.works.items in
    let edits = filter (λ w. is_some (diff_in w)) works in
    subst (λ ws. IsReplica s records ws r.stash c.new.result (alone (is_document s) replica) × AreCounted (diffs_in ws) r.names)
    (sym (ap (map work_of) left ∙ map-filter work_of (λ w. is_some (diff_in w)) r.works.items)) (
      subst (λ os. IsReplica s records edits r.stash os (alone (is_document s) replica)) (sym c.new.ensures)
          (parted s records works r.stash r.others replica stands.0),
      subst (λ ds. AreCounted ds r.names) (sym (ap diffs_in (edits_left works) ∙ diffs-edits (diffs_in works))) stands.1,
    )
