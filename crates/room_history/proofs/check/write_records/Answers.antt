use Rattle.std.proofs.Common.{◌≡◌, ◌+◌, [], Some, fold, drop, option_map, sym, ap, ◌∙◌, arith}
use Rattle.std.proofs.lemmas.List.{drop_all}
use Rattle.rooms_val.specs.Maps.{keys_of}
use Rattle.rooms_val.proofs.ListLemmas.{one_off}
use Rattle.schema_core.specs.SchemaOf.{schema_tree}
use Rattle.room_model.specs.Saves.{unfit_record}
use Rattle.room_model.specs.declared.load_fault.LoadFault.{LoadFault}
use Rattle.room_model.specs.declared.load_fault.LoadFault.TheVariants.{BadRecord}
use Rattle.room_schemas.specs.Decided.{decided}
use Rattle.room_history.specs.Checks.{refused_record}
use Rattle.room_history.specs.Loads.{with_saved}
use Rattle.room_history.proofs.CheckLemmas.{records_on, record_fault, passed_on}
use Rattle.room_history.proofs.check.write_records.Goals as goal

pub records-init : goal.records-init
records-init g c = record {
  asked = ap (λ m. unfit_record (decided (schema_tree c.args.schema.now)) (keys_of m.0) c.args.documents.now) c.new-records.ensures;
  written = ap (λ m. fold with_saved m.0 c.args.documents.now) c.new-records.ensures;
  plain = ap (λ m. m.1) c.new-records.ensures;
}

pub write_one-requires : goal.write_one-requires
write_one-requires g c = c.records.invariant.plain

pub records-preserved : goal.records-preserved
records-preserved g c =
    let S = decided (schema_tree c.args.schema.now) in
    let items = c.args.documents.now in
    let i = c.records.saved-index in
    let x = c.saved-item.result in
    let more = drop (i + 1) items in
    let parts = one_off items i x c.records-test.true c.saved-item.is in
    let old = c.records.records in
    record {
      asked = ap (λ m. unfit_record S (keys_of m.0) more) c.in_ok-write_one.ensures.records
          ∙ sym (records_on S old.0 x more c.in_ok-write_one.ensures.none) ∙ sym (ap (unfit_record S (keys_of old.0)) parts) ∙ c.records.invariant.asked;
      written = ap (λ m. fold with_saved m.0 more) c.in_ok-write_one.ensures.records ∙ sym (ap (fold with_saved old.0) parts) ∙ c.records.invariant.written;
      plain = ap (λ m. m.1) c.in_ok-write_one.ensures.records;
    }

pub returns-clause-none : goal.returns-clause-none
returns-clause-none g c =
    let S = decided (schema_tree c.args.schema.now) in
    sym c.records.invariant.asked ∙ ap (unfit_record S (keys_of c.records.records.0)) (drop_all c.records.saved-index c.args.documents.now (omega arith))

pub returns-clause-records : goal.returns-clause-records
returns-clause-records g c =
    let written = sym (ap (fold with_saved c.records.records.0) (drop_all c.records.saved-index c.args.documents.now (omega arith))) ∙ c.records.invariant.written in
    λ i. (written i, c.records.invariant.plain i)

pub returns-in_err-write_one-clause-fault : goal.returns-in_err-write_one-clause-fault
returns-in_err-write_one-clause-fault g c =
    let S = decided (schema_tree c.args.schema.now) in
    let items = c.args.documents.now in
    let i = c.records.saved-index in
    let x = c.saved-item.result in
    let more = drop (i + 1) items in
    let parts = one_off items i x c.records-test.true c.saved-item.is in
    let m = c.records.records.0 in
    let P : LoadFault → Type 0 = λ f. option_map BadRecord (refused_record S m x) ≡ Some f in
    let Q : LoadFault → Type 0 = λ f. option_map BadRecord (unfit_record S [] items) ≡ Some f in
    passed_on c.from_residual.result c.in_err-write_one.field-0.0 P Q c.from_residual.ensures.1
    (λ f is. ap (option_map BadRecord) (sym c.records.invariant.asked ∙ ap (unfit_record S (keys_of m)) parts) ∙ record_fault S m x more f is) c.in_err-write_one.ensures.fault
