use Rattle.std.proofs.Common.{[], ◌∷◌, map, sym, ap, subst, ◌∙◌}
use Rattle.std.proofs.lemmas.List.{map-append, append-nil}
use Rattle.rooms_val.specs.View.{data_of}
use Rattle.schema_core.specs.SchemaOf.{schema_tree}
use Rattle.room_model.specs.Replicas.{presence}
use Rattle.client_replica.specs.Works.{work_of, diffs_in}
use Rattle.client_replica.specs.Stashes.{AreCounted}
use Rattle.client_replica.proofs.WorkLemmas.{diffs-append}
use Rattle.client_replica.specs.Standing.{IsReplica, with_work}
use Rattle.client_replica.proofs.ReplicaLemmas.{showed}
use Rattle.client_replica.proofs.replica.Replica.show.Goals as goal

pub returns-clause-ok : goal.returns-clause-ok
returns-clause-ok g c = λ replica stands.
    let r = c.args.self.now in
    let d = data_of c.args.stored in
    let s = schema_tree r.schema in
    let records = g.D.DocStore.records r.store in
    let works = map work_of r.works.items in
    subst (λ ws. IsReplica s records ws r.stash r.others (with_work (presence d) replica) × AreCounted (diffs_in ws) r.names)
    (sym (ap (map work_of) c.in_ok-push_back.ensures.items ∙ map-append work_of r.works.items (_ ∷ []))) (
      showed s records works r.stash r.others replica d stands.0,
      subst (λ ds. AreCounted ds r.names) (sym (diffs-append works (presence d ∷ []) ∙ append-nil (diffs_in works))) stands.1,
    )
