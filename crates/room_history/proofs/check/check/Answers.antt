use Rattle.std.proofs.Common.{◌≡◌, [], true, cond, Some, None, option_map, w64, sym, ap, ◌∙◌}
use Rattle.std.proofs.lemmas.Int.{to_z-of_z}
use Rattle.std.specs.Option.{option_map_or}
use Rattle.rooms_val.specs.Maps.{keys_of}
use Rattle.schema_core.specs.SchemaOf.{schema_tree}
use Rattle.room_model.specs.Saves.{are_clocks, is_too_large, unfit_record, unfit_tomb, load_fault}
use Rattle.room_model.specs.declared.load_fault.LoadFault.{LoadFault}
use Rattle.room_model.specs.declared.load_fault.LoadFault.TheVariants.{BadRecord, TooLarge}
use Rattle.room_schemas.specs.Decided.{decided}
use Rattle.room_history.specs.Loads.{records_in}
use Rattle.room_history.proofs.CheckLemmas.{beside, load_is, by_tomb, passed_on}
use Rattle.room_history.proofs.check.check.Goals as goal

pub returns-in_err-check_tombs-clause-fault : goal.returns-in_err-check_tombs-clause-fault
returns-in_err-check_tombs-clause-fault g c =
    let S = decided (schema_tree c.args.schema.now) in
    let saved = c.args.saved.now in
    let clocks : are_clocks c.args.last saved ≡ true = ap (λ z. are_clocks z saved) (sym (to_z-of_z w64 c.args.last c.ranges.last)) ∙ sym c.are_clocks.ensures ∙ c.if-not-are_clocks.false in
    let fine : unfit_record S [] saved.documents.items ≡ None = ap (unfit_record S []) (sym c.deref.ensures.value) ∙ c.in_ok-records.ensures.none in
    let P : LoadFault → Type 0 = λ f. option_map BadRecord (unfit_tomb S (keys_of c.in_ok-records.records.0) c.deref-2.result.now) ≡ Some f in
    let Q : LoadFault → Type 0 = λ f. load_fault S c.args.last saved ≡ Some f in
    let same : unfit_tomb S (keys_of (records_in saved)) saved.tombstones.items ≡ unfit_tomb S (keys_of c.in_ok-records.records.0) c.deref-2.result.now =
    sym (beside S saved c.deref.result.now c.in_ok-records.records c.deref.ensures.value c.in_ok-records.ensures.records) ∙ ap (unfit_tomb S (keys_of c.in_ok-records.records.0)) (sym c.deref-2.ensures.value) in
    passed_on c.from_residual-in_err-check_tombs.result c.in_err-check_tombs.field-0.0 P Q c.from_residual-in_err-check_tombs.ensures.1
    (λ f is. load_is S c.args.last saved clocks fine ∙ by_tomb _ (cond (is_too_large saved) (Some TooLarge) None) f (ap (option_map BadRecord) same ∙ is)) c.in_err-check_tombs.ensures.fault

pub returns-in_err-size-clause-fault : goal.returns-in_err-size-clause-fault
returns-in_err-size-clause-fault g c =
    let S = decided (schema_tree c.args.schema.now) in
    let saved = c.args.saved.now in
    let clocks : are_clocks c.args.last saved ≡ true = ap (λ z. are_clocks z saved) (sym (to_z-of_z w64 c.args.last c.ranges.last)) ∙ sym c.are_clocks.ensures ∙ c.if-not-are_clocks.false in
    let fine : unfit_record S [] saved.documents.items ≡ None = ap (unfit_record S []) (sym c.deref.ensures.value) ∙ c.in_ok-records.ensures.none in
    let P : LoadFault → Type 0 = λ f. f ≡ TooLarge in
    let Q : LoadFault → Type 0 = λ f. load_fault S c.args.last saved ≡ Some f in
    let same : unfit_tomb S (keys_of (records_in saved)) saved.tombstones.items ≡ None =
    sym (beside S saved c.deref.result.now c.in_ok-records.records c.deref.ensures.value c.in_ok-records.ensures.records) ∙ ap (unfit_tomb S (keys_of c.in_ok-records.records.0)) (sym c.deref-2.ensures.value) ∙ c.in_ok-check_tombs.ensures.none in
    passed_on c.from_residual-in_err-size.result c.in_err-size.field-0.0 P Q c.from_residual-in_err-size.ensures.1
    (λ f is. load_is S c.args.last saved clocks fine ∙ ap (λ o. option_map_or (λ id. Some (BadRecord id)) o (cond (is_too_large saved) (Some TooLarge) None)) same
    ∙ ap (λ b. cond b (Some TooLarge) None) c.in_err-size.ensures.large ∙ ap Some (sym is)) (λ known. c.in_err-size.ensures.fault)

pub returns-clause-none : goal.returns-clause-none
returns-clause-none g c =
    let S = decided (schema_tree c.args.schema.now) in
    let saved = c.args.saved.now in
    let clocks : are_clocks c.args.last saved ≡ true = ap (λ z. are_clocks z saved) (sym (to_z-of_z w64 c.args.last c.ranges.last)) ∙ sym c.are_clocks.ensures ∙ c.if-not-are_clocks.false in
    let fine : unfit_record S [] saved.documents.items ≡ None = ap (unfit_record S []) (sym c.deref.ensures.value) ∙ c.in_ok-records.ensures.none in
    let same : unfit_tomb S (keys_of (records_in saved)) saved.tombstones.items ≡ None =
    sym (beside S saved c.deref.result.now c.in_ok-records.records c.deref.ensures.value c.in_ok-records.ensures.records) ∙ ap (unfit_tomb S (keys_of c.in_ok-records.records.0)) (sym c.deref-2.ensures.value) ∙ c.in_ok-check_tombs.ensures.none in
    load_is S c.args.last saved clocks fine ∙ ap (λ o. option_map_or (λ id. Some (BadRecord id)) o (cond (is_too_large saved) (Some TooLarge) None)) same
    ∙ ap (λ b. cond b (Some TooLarge) None) c.in_ok-size.ensures.small
