use Rattle.std.proofs.Common.{◌≡◌, ℕ, List, map, sym, ap, subst, ◌∙◌}
use Rattle.rooms_val.specs.Maps.{value_at}
use Rattle.schema_core.specs.SchemaOf.{schema_tree}
use Rattle.schema_core.specs.Admits.{is_admitted, is_document}
use Rattle.doc_model.specs.Documents.{step}
use Rattle.room_model.specs.Schemas.{records_with}
use Rattle.room_model.specs.Taking.{Replica, after_hydration}
use Rattle.room_model.proofs.LookUpLemmas.{rising-filter}
use Rattle.room_schemas.specs.Decided.{is_presence}
use Rattle.sync_msgs.specs.declared.server_message.Hydration.TheVariants.{WipePresence}
use Rattle.client_replica.specs.Parts.{ops_with}
use Rattle.client_replica.specs.Works.{work_of, diffs_in}
use Rattle.client_replica.specs.NewBases.{AreStepped, NamesWithin}
use Rattle.field_ops.specs.RecordOps.{RecordOps}
use Rattle.client_replica.specs.Stashes.{AreCounted}
use Rattle.client_replica.specs.Owns.{settled}
use Rattle.client_replica.specs.Standing.{IsReplica}
use Rattle.client_replica.proofs.NewBaseLemmas.{is_of}
use Rattle.client_replica.proofs.ReplicaLemmas.{rising-shown}
use Rattle.client_replica.proofs.TakenLemmas.{ahead_snapshot, names_within, stays, none_ended, went_on}
use Rattle.client_replica.proofs.replica.Replica.go_on.Goals as goal

pub returns-clause-ok : goal.returns-clause-ok
returns-clause-ok g c = λ replica stands.
    let r = c.args.self.now in
    let s = schema_tree r.schema in
    let items = r.works.items in
    let works = map work_of items in
    let diff = c.args.diff.now in
    let m = g.D.DocStore.records r.store in
    let changes = c.step.new.self.changes in
    let others = c.step.new.self.others in
    let new = c.settle.new.self.stash in
    let after : Replica = record replica { base = after_hydration (is_admitted s) (is_document s) replica.base WipePresence diff } in
    let is = ahead_snapshot s m works r.stash changes r.others others replica diff stands.0
    (subst (λ old. AreStepped s diff m r.stash old changes) c.new-base.ensures.changes c.in_ok-step.ensures.document)
    (c.in_ok-step.ensures.presence ∙ ap (λ o. step (is_admitted s) o (ops_with (is_presence s) diff)) (c.new-base.ensures.others ∙ c.new.ensures)) in
    let names = names_within s m works r.stash r.others replica 0 stands.0 in
    let base = records_with (is_document s) after.base in
    let shows = c.in_ok-write_changes.ensures.ok base (rising-filter (is_document s) after.base is.rising) (rising-shown s m works r.stash r.others replica stands.0) (is_of base m r.stash changes is.document) names
    (stays s m works r.stash changes r.others others replica after replica.pending 0 stands.0 is (none_ended s works changes)) in
    let settles = subst (λ x. (diffs : List RecordOps) → AreCounted diffs x.names → NamesWithin diffs x.stash → (q : List ℕ) → value_at new q ≡ settled diffs changes x.stash q)
    c.in_ok-write_changes.ensures.kept c.settle.ensures.stash (diffs_in works) stands.1 names in
    subst (λ x. IsReplica (schema_tree x.schema) (g.D.DocStore.records x.store) (map work_of x.works.items) x.stash x.others after × AreCounted (diffs_in (map work_of x.works.items)) x.names)
    (sym c.settle.ensures.kept)
    (subst (λ x. IsReplica (schema_tree x.schema) (g.D.DocStore.records c.write_changes.new.self.store) (map work_of x.works.items) new others after × AreCounted (diffs_in (map work_of x.works.items)) x.names) (sym c.in_ok-write_changes.ensures.kept)
    (went_on s m (g.D.DocStore.records c.write_changes.new.self.store) works r.stash changes new r.others others replica after 0 stands.0 is (none_ended s works changes) shows settles c.settle.ensures.rising, stands.1))
