use Rattle.std.proofs.Common.{length, map, sym, ap, subst, ◌∙◌, arith}
use Rattle.schema_core.specs.SchemaOf.{schema_tree}
use Rattle.schema_core.specs.Admits.{is_admitted, is_document}
use Rattle.doc_model.specs.Documents.{step}
use Rattle.rooms_val.specs.Maps.{AreRising}
use Rattle.room_model.specs.Taking.{after_hydration}
use Rattle.room_model.proofs.LookUpLemmas.{rising-filter}
use Rattle.client_replica.specs.Parts.{ops_with}
use Rattle.sync_msgs.specs.declared.server_message.Hydration.TheVariants.{WipeAll}
use Rattle.room_schemas.specs.Decided.{is_presence}
use Rattle.client_replica.specs.Works.{work_of, diffs_in, operations}
use Rattle.client_replica.proofs.ReplicaLemmas.{undone, replayed, taken_snapshot}
use Rattle.client_replica.proofs.replica.Replica.rebuild.Goals as goal

pub returns-in_err-clear-clause-ticks : goal.returns-in_err-clear-clause-ticks
returns-in_err-clear-clause-ticks g c = λ replica stands.
    let r = c.args.self.now in
    let base = c.in_ok-write_back.ensures.ok ∙ undone (schema_tree r.schema) (g.D.DocStore.records r.store) (map work_of r.works.items) r.stash r.others replica stands.0 in
    let few = stands.0.stash_is.few in
    let same = ap (λ ws. operations (diffs_in ws)) stands.0.works_are in
    let gone = ap length base in
    let undid = c.in_ok-write_back.ensures.ticks in
    let wiped = c.in_err-clear.ensures.ticks in
    omega arith

pub returns-in_err-step_base-clause-ticks : goal.returns-in_err-step_base-clause-ticks
returns-in_err-step_base-clause-ticks g c = λ replica stands.
    let r = c.args.self.now in
    let base = c.in_ok-write_back.ensures.ok ∙ undone (schema_tree r.schema) (g.D.DocStore.records r.store) (map work_of r.works.items) r.stash r.others replica stands.0 in
    let few = stands.0.stash_is.few in
    let same = ap (λ ws. operations (diffs_in ws)) stands.0.works_are in
    let gone = ap length base in
    let undid = c.in_ok-write_back.ensures.ticks in
    let wiped = c.in_ok-clear.ensures.ticks in
    let stepped = c.in_err-step_base.ensures.ticks in
    omega arith

pub returns-in_err-stash-clause-ticks : goal.returns-in_err-stash-clause-ticks
returns-in_err-stash-clause-ticks g c = λ replica stands.
    let r = c.args.self.now in
    let base = c.in_ok-write_back.ensures.ok ∙ undone (schema_tree r.schema) (g.D.DocStore.records r.store) (map work_of r.works.items) r.stash r.others replica stands.0 in
    let few = stands.0.stash_is.few in
    let same = ap (λ ws. operations (diffs_in ws)) stands.0.works_are in
    let gone = ap length base in
    let undid = c.in_ok-write_back.ensures.ticks in
    let wiped = c.in_ok-clear.ensures.ticks in
    let stepped = c.in_ok-step_base.ensures.ticks in
    let replayed = c.in_err-stash.ensures.ticks in
    omega arith

pub returns-clause-ticks : goal.returns-clause-ticks
returns-clause-ticks g c = λ replica stands.
    let r = c.args.self.now in
    let base = c.in_ok-write_back.ensures.ok ∙ undone (schema_tree r.schema) (g.D.DocStore.records r.store) (map work_of r.works.items) r.stash r.others replica stands.0 in
    let few = stands.0.stash_is.few in
    let same = ap (λ ws. operations (diffs_in ws)) stands.0.works_are in
    let gone = ap length base in
    let undid = c.in_ok-write_back.ensures.ticks in
    let wiped = c.in_ok-clear.ensures.ticks in
    let stepped = c.in_ok-step_base.ensures.ticks in
    let replayed = c.in_ok-stash.ensures.ticks in
    omega arith

pub returns-clause-ok : goal.returns-clause-ok
returns-clause-ok g c = λ replica stands none.
    let r = c.args.self.now in
    let s = schema_tree r.schema in
    let items = r.works.items in
    let records = g.D.DocStore.records in
    let base = c.in_ok-write_back.ensures.ok ∙ undone s (records r.store) (map work_of items) r.stash r.others replica stands.0 in
    let rises : AreRising (records c.write_back.new.store) = subst AreRising (sym base) (rising-filter (is_document s) replica.base stands.0.rising) in
    let left = c.in_ok-clear.ensures.ok rises in
    let taken =
    taken_snapshot s c.args.diff.now replica (records c.step_base.new.store) c.step_base.new.others stands.0.rising
    (c.in_ok-step_base.ensures.document ∙ ap (λ m. step (is_admitted s) m (ops_with (is_document s) c.args.diff.now)) left)
    (c.in_ok-step_base.ensures.presence ∙ ap (λ m. step (is_admitted s) m (ops_with (is_presence s) c.args.diff.now)) none) in
    replayed s (record replica { base = after_hydration (is_admitted s) (is_document s) replica.base WipeAll c.args.diff.now }) replica.pending (records c.step_base.new.store) (records c.replay.new.store)
    c.step_base.new.others (map work_of items) c.in_ok-stash.stash taken stands.0.works_are c.in_ok-stash.ensures.ok c.in_ok-stash.ensures.stash
