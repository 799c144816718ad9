use Rattle.rooms_val.specs.View.{data_of}
use Rattle.room_snapshot.specs.Faults.{fault_of_val, fault_of_op}
use Rattle.room_snapshot.specs.Readings.{RefusesLine}
use Rattle.room_snapshot.specs.Saved.{saved_tree}
use Rattle.room_snapshot.proofs.LineLemmas.{refuses_val, refuses_shape, is_line}
use Rattle.rooms_val.proofs.Truths.{err_as}
use Rattle.room_snapshot.proofs.snapshot.read.Goals as goal

pub returns-in_err-val-clause-refused : goal.returns-in_err-val-clause-refused
returns-in_err-val-clause-refused c =
    let bytes = c.args.bytes.now in
    let e = c.in_err-val.field-0.0 in
    err_as (RefusesLine bytes) c.from_residual.result (fault_of_val e) c.from_residual.ensures.1 (refuses_val bytes e (c.is_short.ensures.short c.if-not-is_short.false) c.in_err-val.ensures)

pub returns-in_err-snapshot-clause-refused : goal.returns-in_err-snapshot-clause-refused
returns-in_err-snapshot-clause-refused c =
    let bytes = c.args.bytes.now in
    let e = c.in_err-snapshot.field-0.0 in
    err_as (RefusesLine bytes) c.from_residual-in_err-snapshot.result (fault_of_op e) c.from_residual-in_err-snapshot.ensures.1
    (refuses_shape bytes (data_of c.in_ok-val.val) e (c.is_short.ensures.short c.if-not-is_short.false) c.in_ok-val.ensures c.in_err-snapshot.ensures.refused)

pub returns-clause-found : goal.returns-clause-found
returns-clause-found c =
    let s = c.in_ok-snapshot.snapshot in
    is_line c.args.bytes.now (data_of c.in_ok-val.val) (saved_tree s.saved) s.held (c.is_short.ensures.short c.if-not-is_short.false) c.in_ok-val.ensures c.in_ok-snapshot.ensures.found
    c.in_ok-snapshot.ensures.rising
