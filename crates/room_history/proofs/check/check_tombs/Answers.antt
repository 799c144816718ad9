use Rattle.std.proofs.Common.{◌≡◌, ◌+◌, ◌++◌, false, Some, option_map, drop, sym, ap, ◌∙◌, arith}
use Rattle.std.proofs.lemmas.List.{drop_all}
use Rattle.rooms_val.specs.Maps.{keys_of}
use Rattle.rooms_val.proofs.ListLemmas.{one_off}
use Rattle.schema_core.specs.SchemaOf.{schema_tree}
use Rattle.room_model.specs.Saves.{unfit_tomb}
use Rattle.room_model.specs.declared.load_fault.LoadFault.{LoadFault}
use Rattle.room_model.specs.declared.load_fault.LoadFault.TheVariants.{BadRecord}
use Rattle.room_schemas.specs.Decided.{decided}
use Rattle.room_history.specs.Checks.{is_tomb_fit}
use Rattle.room_history.proofs.CheckLemmas.{tombs_on, tombs_end, passed_on}
use Rattle.room_history.proofs.check.check_tombs.Goals as goal

pub tombs-init : goal.tombs-init
tombs-init g c = record {
  asked = ap (λ m. unfit_tomb (decided (schema_tree c.args.schema.now)) (keys_of m.0 ++ keys_of c.args.records.now.0) c.args.tombstones.now) c.new-earlier.ensures;
  plain = ap (λ m. m.1) c.new-earlier.ensures;
}

pub check_tomb-requires : goal.check_tomb-requires
check_tomb-requires g c = c.tombs.invariant.plain

pub tombs-preserved : goal.tombs-preserved
tombs-preserved g c =
    let S = decided (schema_tree c.args.schema.now) in
    let items = c.args.tombstones.now in
    let i = c.tombs.tomb-index in
    let x = c.tomb-item.result in
    let more = drop (i + 1) items in
    let parts = one_off items i x c.tombs-test.true c.tomb-item.is in
    let m = c.args.records.now.0 in
    let old = c.tombs.earlier in
    record {
      asked = ap (λ e. unfit_tomb S (keys_of e.0 ++ keys_of m) more) c.in_ok-check_tomb.ensures.added
          ∙ sym (tombs_on S old.0 m x more c.in_ok-check_tomb.ensures.fit) ∙ sym (ap (unfit_tomb S (keys_of old.0 ++ keys_of m)) parts) ∙ c.tombs.invariant.asked;
      plain = ap (λ e. e.1) c.in_ok-check_tomb.ensures.added;
    }

pub returns-clause-none : goal.returns-clause-none
returns-clause-none g c =
    let S = decided (schema_tree c.args.schema.now) in
    sym c.tombs.invariant.asked ∙ ap (unfit_tomb S (keys_of c.tombs.earlier.0 ++ keys_of c.args.records.now.0)) (drop_all c.tombs.tomb-index c.args.tombstones.now (omega arith))

pub returns-in_err-check_tomb-clause-fault : goal.returns-in_err-check_tomb-clause-fault
returns-in_err-check_tomb-clause-fault g c =
    let S = decided (schema_tree c.args.schema.now) in
    let items = c.args.tombstones.now in
    let i = c.tombs.tomb-index in
    let x = c.tomb-item.result in
    let more = drop (i + 1) items in
    let parts = one_off items i x c.tombs-test.true c.tomb-item.is in
    let m = c.args.records.now.0 in
    let e = c.tombs.earlier.0 in
    let P : LoadFault → Type 0 = λ f. (is_tomb_fit S e m x ≡ false) × (f ≡ BadRecord x.id) in
    let Q : LoadFault → Type 0 = λ f. option_map BadRecord (unfit_tomb S (keys_of m) items) ≡ Some f in
    passed_on c.from_residual.result c.in_err-check_tomb.field-0.0 P Q c.from_residual.ensures.1
    (λ f is. ap (option_map BadRecord) (sym c.tombs.invariant.asked ∙ ap (unfit_tomb S (keys_of e ++ keys_of m)) parts ∙ tombs_end S e m x more is.0) ∙ ap Some (sym is.1))
    (λ known. (c.in_err-check_tomb.ensures.unfit known, c.in_err-check_tomb.ensures.fault known))
