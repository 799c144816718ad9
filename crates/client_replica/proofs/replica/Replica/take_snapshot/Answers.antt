use Rattle.std.proofs.Common.{[], ◌∷◌, ◌++◌, map, refl, sym, ap, subst, ◌∙◌}
use Rattle.std.specs.Prelude.{option_to_list}
use Rattle.std.proofs.lemmas.List.{map-append, append-nil}
use Rattle.field_ops.specs.View.{maybe_data}
use Rattle.schema_core.specs.SchemaOf.{schema_tree}
use Rattle.schema_core.specs.Admits.{is_admitted, is_document}
use Rattle.room_model.specs.Replicas.{presence}
use Rattle.room_model.specs.Taking.{after_hydration}
use Rattle.client_replica.specs.declared.work.Work.TheVariants.{Presence}
use Rattle.client_replica.specs.Works.{work_of, diffs_in}
use Rattle.client_replica.specs.Stashes.{AreCounted}
use Rattle.client_replica.specs.Standing.{IsReplica, after_snapshot}
use Rattle.client_replica.proofs.ReplicaLemmas.{shown_last, moved, no_diffs}
use Rattle.client_replica.proofs.WorkLemmas.{diffs-append}
use Rattle.client_replica.proofs.replica.Replica.take_snapshot.Goals as goal

pub returns-in-Some-clause-ok : goal.returns-in-Some-clause-ok
returns-in-Some-clause-ok g c = λ replica stands.
    let r = c.args.self.now in
    let s = schema_tree r.schema in
    let records = g.D.DocStore.records in
    let h = c.hydrate.new.self in
    let items = c.reserve.new.self.items in
    let own = maybe_data c.args.own in
    let base = after_hydration (is_admitted s) (is_document s) replica.base c.args.hydration c.args.diff.now in
    let same = ap (map work_of) c.in_ok-reserve.ensures.items in
    let began : IsReplica s (records r.store) (map work_of items) r.stash r.others replica × AreCounted (diffs_in (map work_of items)) r.names = (moved s s (records r.store) (records r.store) (map work_of r.works.items) (map work_of items) r.stash r.others replica refl refl (sym same) stands.0, subst (λ ws. AreCounted (diffs_in ws) r.names) (sym same) stands.1) in
    let after = c.in_ok-hydrate.ensures.ok replica began in
    let held = map work_of h.works.items in
    let counted = subst (λ ds. AreCounted ds h.names) (sym (diffs-append held (map presence (option_to_list own)) ∙ no_diffs own (diffs_in held))) after.1 in
    let works = ap (λ w. map work_of w.items) c.in_ok-hydrate.ensures.works ∙ same in
    subst (λ ws. IsReplica (schema_tree h.schema) (records h.store) ws h.stash h.others (after_snapshot (is_admitted s) (is_document s) c.args.hydration c.args.diff.now own replica) × AreCounted (diffs_in ws) h.names)
    (ap (λ o. map work_of h.works.items ++ map presence (option_to_list (maybe_data o))) c.in-Some.is ∙ sym (map-append work_of h.works.items (Presence c.in-Some.stored ∷ [])) ∙ ap (map work_of) (sym c.push_back_reserved.ensures.items))
    (shown_last (schema_tree h.schema) (records h.store) (map work_of h.works.items) h.stash h.others replica base own (works ∙ stands.0.works_are) after.0, counted)

pub returns-in_default-clause-ok : goal.returns-in_default-clause-ok
returns-in_default-clause-ok g c = λ replica stands.
    let r = c.args.self.now in
    let s = schema_tree r.schema in
    let records = g.D.DocStore.records in
    let h = c.hydrate.new.self in
    let items = c.reserve.new.self.items in
    let own = maybe_data c.args.own in
    let base = after_hydration (is_admitted s) (is_document s) replica.base c.args.hydration c.args.diff.now in
    let same = ap (map work_of) c.in_ok-reserve.ensures.items in
    let began : IsReplica s (records r.store) (map work_of items) r.stash r.others replica × AreCounted (diffs_in (map work_of items)) r.names = (moved s s (records r.store) (records r.store) (map work_of r.works.items) (map work_of items) r.stash r.others replica refl refl (sym same) stands.0, subst (λ ws. AreCounted (diffs_in ws) r.names) (sym same) stands.1) in
    let after = c.in_ok-hydrate.ensures.ok replica began in
    let held = map work_of h.works.items in
    let counted = subst (λ ds. AreCounted ds h.names) (sym (diffs-append held (map presence (option_to_list own)) ∙ no_diffs own (diffs_in held))) after.1 in
    let works = ap (λ w. map work_of w.items) c.in_ok-hydrate.ensures.works ∙ same in
    subst (λ ws. IsReplica (schema_tree h.schema) (records h.store) ws h.stash h.others (after_snapshot (is_admitted s) (is_document s) c.args.hydration c.args.diff.now own replica) × AreCounted (diffs_in ws) h.names)
    (ap (λ o. map work_of h.works.items ++ map presence (option_to_list (maybe_data o))) c.in_default.is ∙ append-nil (map work_of h.works.items))
    (shown_last (schema_tree h.schema) (records h.store) (map work_of h.works.items) h.stash h.others replica base own (works ∙ stands.0.works_are) after.0, counted)
