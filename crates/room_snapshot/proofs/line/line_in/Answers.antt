use Rattle.std.proofs.Common.{◌≡◌, sym, ap, ◌∙◌, codes, arith}
use mir.Syntax.{w64}
use mir.Val.{to_z, of_z}
use Rattle.std.proofs.lemmas.Grind.{common_steps}
use Rattle.std.specs.Prelude as std
use Rattle.rooms_val.specs.Data.{whole, list, map, items_of, members_of}
use Rattle.rooms_val.specs.Maps.{seen}
use Rattle.rooms_val.specs.View.{field_of}
use Rattle.field_ops.proofs.WireLemmas.{same_map}
use Rattle.migrate_seq.specs.Versions.{schema_of}
use Rattle.room_snapshot.specs.Lines.{document_val, documents_val, tombs_by_id, tombs_val, line_fields}
use Rattle.room_snapshot.specs.Saved.{documents_view, tombs_view}
use Rattle.room_snapshot.proofs.DocumentLemmas.{same_list}
use Rattle.rooms_val.proofs.FieldLemmas.{at_place, from_place, none_past}
use Rattle.rooms_val.proofs.RefusalLemmas.{refused_for, passed_on}
use Rattle.room_snapshot.proofs.line.line_in.Goals as goal

pub returns-in_err-clock-clause-refused : goal.returns-in_err-clock-clause-refused
returns-in_err-clock-clause-refused c =
    refused_for c.from_residual.result (λ s held is. c.in_err-clock.ensures.only s.clock (at_place c.args.entries.now 0 c.clock-item.result (line_fields s held) c.clock-item.is is))

pub returns-in_err-vals-clause-refused : goal.returns-in_err-vals-clause-refused
returns-in_err-vals-clause-refused c =
    refused_for c.from_residual-in_err-vals.result
    (λ s held is. c.in_err-vals.ensures.only (std.map document_val s.documents) (at_place c.args.entries.now 1 c.documents-item.result (line_fields s held) c.documents-item.is is))

pub returns-in_err-versions-clause-refused : goal.returns-in_err-versions-clause-refused
returns-in_err-versions-clause-refused c =
    refused_for c.from_residual-in_err-versions.result (λ s held is. c.in_err-versions.ensures.only (schema_of held) (at_place c.args.entries.now 2 c.schema-item.result (line_fields s held) c.schema-item.is is))

pub returns-in_err-start-clause-refused : goal.returns-in_err-start-clause-refused
returns-in_err-start-clause-refused c =
    refused_for c.from_residual-in_err-start.result (λ s held is. c.in_err-start.ensures.only s.start (at_place c.args.entries.now 3 c.start-item.result (line_fields s held) c.start-item.is is))

pub returns-in_err-fields-clause-refused : goal.returns-in_err-fields-clause-refused
returns-in_err-fields-clause-refused c =
    refused_for c.from_residual-in_err-fields.result
    (λ s held is. c.in_err-fields.ensures.only (seen whole (tombs_by_id s.tombstones)) (at_place c.args.entries.now 4 c.tombs-item.result (line_fields s held) c.tombs-item.is is))

pub returns-in_err-documents-clause-refused : goal.returns-in_err-documents-clause-refused
returns-in_err-documents-clause-refused c =
    passed_on c.from_residual-in_err-documents.result c.in_err-documents.field-0.0 c.from_residual-in_err-documents.ensures.1
    (λ none s held is.
    none s.documents
    (c.as_slice.ensures.values
    ∙ same_list c.in_ok-vals.vals.now (std.map document_val s.documents)
    (ap (λ e. e.1) (sym c.in_ok-vals.ensures.found ∙ at_place c.args.entries.now 1 c.documents-item.result (line_fields s held) c.documents-item.is is))))
    c.in_err-documents.ensures.refused

pub returns-in_err-held-clause-refused : goal.returns-in_err-held-clause-refused
returns-in_err-held-clause-refused c =
    passed_on c.from_residual-in_err-held.result c.in_err-held.field-0.0 c.from_residual-in_err-held.ensures.1
    (λ none s held is. none held (ap (λ e. e.1) (sym c.in_ok-versions.ensures.found ∙ at_place c.args.entries.now 2 c.schema-item.result (line_fields s held) c.schema-item.is is)))
    c.in_err-held.ensures.refused

pub returns-in_err-tombstones-clause-refused : goal.returns-in_err-tombstones-clause-refused
returns-in_err-tombstones-clause-refused c =
    passed_on c.from_residual-in_err-tombstones.result c.in_err-tombstones.field-0.0 c.from_residual-in_err-tombstones.ensures.1
    (λ none s held is.
    none (tombs_by_id s.tombstones)
    (same_map c.in_ok-fields.fields.now (seen whole (tombs_by_id s.tombstones))
    (ap (λ e. e.1) (sym c.in_ok-fields.ensures.found ∙ at_place c.args.entries.now 4 c.tombs-item.result (line_fields s held) c.tombs-item.is is))))
    c.in_err-tombstones.ensures.refused

pub returns-clause-found : goal.returns-clause-found
returns-clause-found c =
    let es = c.args.entries.now in
    let clock : field_of c.clock-item.result ≡ (codes "clock", whole (to_z w64 (of_z w64 c.in_ok-clock.clock))) = grind (arith, common_steps) in
    let documents : field_of c.documents-item.result ≡ (codes "documents", documents_val (documents_view c.in_ok-documents.documents.items)) =
    c.in_ok-vals.ensures.found ∙ ap (λ ds. (codes "documents", list (items_of ds))) (sym c.as_slice.ensures.values ∙ c.in_ok-documents.ensures.found) in
    let schema : field_of c.schema-item.result ≡ (codes "schema", schema_of c.in_ok-held.held) = c.in_ok-versions.ensures.found ∙ ap (λ d. (codes "schema", d)) c.in_ok-held.ensures.found in
    let start : field_of c.start-item.result ≡ (codes "tombstoneHistoryStartsAtClock", whole (to_z w64 (of_z w64 c.in_ok-start.start))) = grind (arith, common_steps) in
    let tombs : field_of c.tombs-item.result ≡ (codes "tombstones", tombs_val (tombs_view c.in_ok-tombstones.tombstones.items)) =
    c.in_ok-fields.ensures.found ∙ ap (λ ps. (codes "tombstones", map (members_of ps))) c.in_ok-tombstones.ensures.found in
    from_place es 0 _ _ _ (omega arith) c.clock-item.is clock
    (from_place es 1 _ _ _ (omega arith) c.documents-item.is documents
    (from_place es 2 _ _ _ (omega arith) c.schema-item.is schema
    (from_place es 3 _ _ _ (omega arith) c.start-item.is start
    (from_place es 4 _ _ _ (omega arith) c.tombs-item.is tombs
    (none_past es 5 (omega arith))))))
