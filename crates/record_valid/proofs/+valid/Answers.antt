use Rattle.std.proofs.Common.{◌≡◌, Some, None, option_map, Result, Ok, Err, sym, ap, subst, ◌∙◌}
use Rattle.std.specs.Prelude.{IsErrAnd}
use Rattle.std.specs.Result.{result_err}
use Rattle.std.specs.Option.{option_copied, option_or}
use Rattle.rooms_val.specs.Data.{IsSound, map, members_of}
use Rattle.rooms_val.specs.View.{data_of, pairs_view}
use Rattle.rooms_val.proofs.DataLemmas.{rising_from_sound}
use Rattle.record_valid.specs.Tree.{object, rows_of}
use Rattle.record_valid.specs.View.{tree_of, table_view}
use Rattle.rooms_val.specs.Maps.{keys_of}
use Rattle.record_valid.specs.Parts.{type_text}
use Rattle.record_valid.specs.Faults.{reject, deeper, keys_fault, fields_fault, first_fault, row_fault}
use Rattle.record_valid.specs.declared.reject.Reject.{Reject}
use Rattle.record_valid.proofs.FaultsLemmas.{object-entries, row-none, row-at, row-gap}
use Rattle.record_valid.proofs.+valid.Goals as goal

pub check_table::Checks::check_object-check_keys-requires-clause-given : goal.check_table::Checks::check_object-check_keys-requires-clause-given
check_table::Checks::check_object-check_keys-requires-clause-given t c = rising_from_sound _ (subst (λ ps. IsSound (map (members_of ps))) (sym c.as_slice-entries.ensures.pairs) c.as_slice-entries.ensures.sound)

passed_on : (r : Result (Unit {0}) Reject) (e : Reject) → IsErrAnd r (λ x. x ≡ e) → result_err r ≡ Some e
passed_on (Ok x) e h = absurd h
passed_on (Err x) e h = ap Some h

pub check_table::Checks::check_object-returns-in_err-at : goal.check_table::Checks::check_object-returns-in_err-at
check_table::Checks::check_object-returns-in_err-at t c =
    let whole = object-entries c.args.depth c.self.inside.entries.items c.as_slice-entries.result.now c.args.self.now c.in-Map.map c.self.view_is c.as_slice-entries.ensures.pairs in
    let keys = c.check_keys.ensures ∙ ap (λ es. keys_fault (keys_of es) (keys_of c.as_slice-entries.result.now)) c.deref.ensures.value in
    let fault = c.in_err-at.ensures ∙ λ i. option_map (reject (c.saturating_add-inside.ensures i)) (keys i) in
    passed_on _ _ c.from_residual.ensures.1
    ∙ ap (λ o. option_or o (fields_fault (deeper c.args.depth) (type_text c.in-Map.map) (rows_of (table_view c.self.inside.entries.items)) (members_of (pairs_view c.as_slice-entries.result.now)))) fault
    ∙ sym whole ∙ ap (λ v. first_fault c.args.depth None (object (rows_of c.args.self.now)) (data_of v)) (sym c.in-Map.is)

pub check_table::Checks::check_object-loop-check-init : goal.check_table::Checks::check_object-loop-check-init
check_table::Checks::check_object-loop-check-init t c =
    let whole = object-entries c.args.depth c.self.inside.entries.items c.as_slice-entries.result.now c.args.self.now c.in-Map.map c.self.view_is c.as_slice-entries.ensures.pairs in
    let keys = c.check_keys.ensures ∙ ap (λ es. keys_fault (keys_of es) (keys_of c.as_slice-entries.result.now)) c.deref.ensures.value in
    let fault = c.in_ok-at.ensures ∙ λ i. option_map (reject (c.saturating_add-inside.ensures i)) (keys i) in
    let rows = ap (λ z. z.a.rest.now) c.into_iter-check-iterator.ensures.into_iter_gives ∙ ap (λ a. a.rest.now) c.zip-check-items.ensures.first ∙ c.iter.ensures.rest ∙ c.deref-2.ensures.value in
    let fields = ap (λ z. z.b.rest.now) c.into_iter-check-iterator.ensures.into_iter_gives ∙ c.zip-check-items.ensures.second.0 in
    ap (λ v. first_fault c.args.depth None (object (rows_of c.args.self.now)) (data_of v)) c.in-Map.is ∙ whole
    ∙ ap (λ o. option_or o (fields_fault (deeper c.args.depth) (type_text c.in-Map.map) (rows_of (table_view c.self.inside.entries.items)) (members_of (pairs_view c.as_slice-entries.result.now)))) (sym fault)
    ∙ λ i. fields_fault (sym c.saturating_add-inside.ensures i) (sym c.text_at-kind.ensures i) (rows_of (table_view (sym rows i))) (members_of (pairs_view (sym fields i)))

pub check_table::Checks::check_row-returns-in_default : goal.check_table::Checks::check_row-returns-in_default
check_table::Checks::check_row-returns-in_default t c =
    sym (row-none c.args.depth (data_of c.args.val.now) c.args.self.now) ∙ ap (λ k. row_fault c.args.depth (option_copied k) (rows_of c.args.self.now) (data_of c.args.val.now)) (sym c.in_default.is)

pub check_table::Checks::check_row-returns-in-Ok : goal.check_table::Checks::check_row-returns-in-Ok
check_table::Checks::check_row-returns-in-Ok t c =
    let found = row-at c.args.depth (data_of c.args.val.now) c.self.inside.entries.items _ _ c.in-Some.text.now _ c.self.view_is c.deref.ensures.value c.in-Ok.ensures.found c.index.result.now c.index.ensures in
    c.check_value.ensures ∙ subst (λ k. first_fault c.args.depth (option_copied k) (tree_of c.index.result.now.1) (data_of c.args.val.now) ≡ row_fault c.args.depth (option_copied k) (rows_of c.args.self.now) (data_of c.args.val.now)) (sym c.in-Some.is) (sym found)

pub check_table::Checks::check_row-returns-in-Err : goal.check_table::Checks::check_row-returns-in-Err
check_table::Checks::check_row-returns-in-Err t c =
    let missing = row-gap c.args.depth (data_of c.args.val.now) c.self.inside.entries.items _ _ c.in-Some.text.now _ c.self.view_is c.deref.ensures.value c.in-Err.ensures.absent in
    sym missing ∙ ap (λ k. row_fault c.args.depth (option_copied k) (rows_of c.args.self.now) (data_of c.args.val.now)) (sym c.in-Some.is)
