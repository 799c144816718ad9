use Rattle.std.proofs.Common.{◌<◌, ◌≤◌, le_of_eq, refl, ap, sym, subst, arith, ◌∙◌}
use Rattle.rooms_val.specs.Maps.{value_at, set_at}
use Rattle.field_ops.specs.View.{maybe_data}
use Rattle.rooms_val.specs.Data.{Pairs}
use Rattle.record_store.specs.Calls.{KeepsApart}
use Rattle.record_store.specs.Kept.{IsBoard}
use Rattle.record_store.specs.Lists.{Board, atoms_of, begun_of, IsWritten, ChangesOnly, AreTurned}
use Rattle.record_store.specs.Seen.{Seen, records, begun, epoch, records_under}
use Rattle.record_store.proofs.FrameLemmas.{epoch_after}
use Rattle.rooms_val.proofs.Truths.{on_err_anyway}
use Rattle.signal_values.specs.Seen.{top}
use Rattle.record_store.specs.Tells.{JoinsOnly, TellsOn}
use Rattle.record_store.proofs.CallLemmas.{none_open}
use Rattle.record_store.proofs.NewestLemmas.{joins_these}
use Rattle.record_store.proofs.TellLemmas.{atoms_same, commit_turned, abort_turned, tells_on}
use Rattle.record_store.proofs.ReplaceLemmas.{written_order, tells_then, there_now, records_then, board_then, begun_then, kept_apart, store_then, put_back, closed}
use Rattle.record_store.proofs.store.RecordStore.replace.Goals as goal

pub invariant_of-self-in_err-open : goal.invariant_of-self-in_err-open
invariant_of-self-in_err-open g c =
    let old : Seen = record { keys = c.self.inside.keys; txn = c.self.inside.graph } in
    store_then old c.self.invariant c.args.id.now c.add.new.self c.in_ok-add.ensures.ok c.open.new.graph
    (board_then old c.self.invariant c.args.id.now c.add.new.self c.in_ok-add.ensures.ok (atoms_of c.open.new.graph) (ap atoms_of c.in_err-open.ensures.err))
    (ap begun_of c.in_err-open.ensures.err) (ap (λ b. b.graph.watches) c.in_err-open.ensures.err)
    (λ below. subst AreTurned (sym c.in_err-open.ensures.err) (c.self.invariant.order (subst (λ (b : Board). b.graph.values.epoch < top) c.in_err-open.ensures.err below)))

pub returns-in_err-open-clause-err : goal.returns-in_err-open-clause-err
returns-in_err-open-clause-err g c =
    let old : Seen = record { keys = c.self.inside.keys; txn = c.self.inside.graph } in
    on_err_anyway c.from_residual-in_err-open.result
    (records_then old c.self.invariant c.args.id.now c.add.new.self c.in_ok-add.ensures.ok (atoms_of c.open.new.graph) (ap atoms_of c.in_err-open.ensures.err) ∙ ap records c.self.view_is)

pub returns-in_err-open-clause-begun : goal.returns-in_err-open-clause-begun
returns-in_err-open-clause-begun g c =
    let old : Seen = record { keys = c.self.inside.keys; txn = c.self.inside.graph } in
    begun_then old c.self.invariant c.args.id.now c.add.new.self c.in_ok-add.ensures.ok c.open.new.graph (ap begun_of c.in_err-open.ensures.err) ∙ ap begun c.self.view_is

pub write_all-requires-clause-known : goal.write_all-requires-clause-known
write_all-requires-clause-known g c = ap (λ ks. value_at ks c.args.id.now) c.in_ok-add.ensures.ok ∙ there_now c.self.inside.keys c.args.id.now

pub write_all-requires-clause-board : goal.write_all-requires-clause-board
write_all-requires-clause-board g c =
    let old : Seen = record { keys = c.self.inside.keys; txn = c.self.inside.graph } in
    board_then old c.self.invariant c.args.id.now c.add.new.self c.in_ok-add.ensures.ok (atoms_of c.open.new.graph) (atoms_same c.open.new.graph c.self.inside.graph c.open.ensures.graph)

pub invariant_of-self-in-Ok : goal.invariant_of-self-in-Ok
invariant_of-self-in-Ok g c =
    let old : Seen = record { keys = c.self.inside.keys; txn = c.self.inside.graph } in
    store_then old c.self.invariant c.args.id.now c.add.new.self c.in_ok-add.ensures.ok c.commit.new.self
    (subst (IsBoard c.add.new.self) (sym (atoms_same c.commit.new.self c.write_all.new.graph c.commit.ensures.graph)) c.in-Ok.ensures.board)
    (closed (begun_of c.write_all.new.graph) (begun_of c.commit.new.self) (atoms_of c.self.inside.graph) (begun_of c.self.inside.graph) c.commit.ensures.begun (c.write_all.ensures.left.begun ∙ c.in_ok-open.ensures.begun))
    (ap (λ x. x.watches) c.commit.ensures.graph ∙ c.write_all.ensures.left.watches ∙ ap (λ x. x.watches) c.open.ensures.graph)
    (written_order _ c.self.inside.graph c.open.new.graph c.write_all.new.graph c.commit.new.self c.self.invariant.order c.open.ensures.graph c.in_ok-open.ensures.journal c.write_all.ensures.left
    (le_of_eq (ap (λ x. x.values.epoch) (sym c.commit.ensures.graph))) (commit_turned c.write_all.new.graph c.commit.new.self c.commit.ensures))

pub invariant_of-self-in-Err : goal.invariant_of-self-in-Err
invariant_of-self-in-Err g c =
    let old : Seen = record { keys = c.self.inside.keys; txn = c.self.inside.graph } in
    let back = put_back c.abort.new.self (begun_of c.write_all.new.graph) (atoms_of c.self.inside.graph) (begun_of c.self.inside.graph) c.abort.ensures.restored (c.write_all.ensures.left.begun ∙ c.in_ok-open.ensures.begun) in
    store_then old c.self.invariant c.args.id.now c.add.new.self c.in_ok-add.ensures.ok c.abort.new.self
    (board_then old c.self.invariant c.args.id.now c.add.new.self c.in_ok-add.ensures.ok (atoms_of c.abort.new.self) back.0) back.1
    (c.abort.ensures.watches ∙ c.write_all.ensures.left.watches ∙ ap (λ x. x.watches) c.open.ensures.graph)
    (written_order _ c.self.inside.graph c.open.new.graph c.write_all.new.graph c.abort.new.self c.self.invariant.order c.open.ensures.graph c.in_ok-open.ensures.journal c.write_all.ensures.left
    (epoch_after c.write_all.new.graph.graph.values c.abort.new.self.graph.values c.abort.ensures.epoch c.abort.ensures.changed) (abort_turned c.write_all.new.graph c.abort.new.self c.abort.ensures))

pub returns-in-Ok-clause-old : goal.returns-in-Ok-clause-old
returns-in-Ok-clause-old g c =
    let old : Seen = record { keys = c.self.inside.keys; txn = c.self.inside.graph } in
    c.in-Ok.ensures.old
    ∙ ap (λ m. value_at m c.args.id.now) (records_then old c.self.invariant c.args.id.now c.add.new.self c.in_ok-add.ensures.ok (atoms_of c.open.new.graph) (atoms_same c.open.new.graph c.self.inside.graph c.open.ensures.graph) ∙ ap records c.self.view_is)

pub returns-in-Ok-clause-ok : goal.returns-in-Ok-clause-ok
returns-in-Ok-clause-ok g c =
    let old : Seen = record { keys = c.self.inside.keys; txn = c.self.inside.graph } in
    ap (records_under c.add.new.self) (atoms_same c.commit.new.self c.write_all.new.graph c.commit.ensures.graph) ∙ c.in-Ok.ensures.ok
    ∙ ap (λ m. set_at m c.args.id.now (maybe_data c.args.stored)) (records_then old c.self.invariant c.args.id.now c.add.new.self c.in_ok-add.ensures.ok (atoms_of c.open.new.graph) (atoms_same c.open.new.graph c.self.inside.graph c.open.ensures.graph) ∙ ap records c.self.view_is)

pub returns-in-Ok-clause-begun : goal.returns-in-Ok-clause-begun
returns-in-Ok-clause-begun g c =
    let old : Seen = record { keys = c.self.inside.keys; txn = c.self.inside.graph } in
    begun_then old c.self.invariant c.args.id.now c.add.new.self c.in_ok-add.ensures.ok c.commit.new.self
    (closed (begun_of c.write_all.new.graph) (begun_of c.commit.new.self) (atoms_of c.self.inside.graph) (begun_of c.self.inside.graph) c.commit.ensures.begun (c.write_all.ensures.left.begun ∙ c.in_ok-open.ensures.begun))
    ∙ ap begun c.self.view_is

pub returns-in-Err-clause-err : goal.returns-in-Err-clause-err
returns-in-Err-clause-err g c =
    let old : Seen = record { keys = c.self.inside.keys; txn = c.self.inside.graph } in
    let back = put_back c.abort.new.self (begun_of c.write_all.new.graph) (atoms_of c.self.inside.graph) (begun_of c.self.inside.graph) c.abort.ensures.restored (c.write_all.ensures.left.begun ∙ c.in_ok-open.ensures.begun) in
    records_then old c.self.invariant c.args.id.now c.add.new.self c.in_ok-add.ensures.ok (atoms_of c.abort.new.self) back.0 ∙ ap records c.self.view_is

pub returns-in-Err-clause-begun : goal.returns-in-Err-clause-begun
returns-in-Err-clause-begun g c =
    let old : Seen = record { keys = c.self.inside.keys; txn = c.self.inside.graph } in
    let back = put_back c.abort.new.self (begun_of c.write_all.new.graph) (atoms_of c.self.inside.graph) (begun_of c.self.inside.graph) c.abort.ensures.restored (c.write_all.ensures.left.begun ∙ c.in_ok-open.ensures.begun) in
    begun_then old c.self.invariant c.args.id.now c.add.new.self c.in_ok-add.ensures.ok c.abort.new.self back.1 ∙ ap begun c.self.view_is

pub returns-in-Ok-clause-apart : goal.returns-in-Ok-clause-apart
returns-in-Ok-clause-apart g c =
    let old : Seen = record { keys = c.self.inside.keys; txn = c.self.inside.graph } in
    let new : Seen = record { keys = c.add.new.self; txn = c.commit.new.self } in
    let same = records_then old c.self.invariant c.args.id.now c.add.new.self c.in_ok-add.ensures.ok (atoms_of c.open.new.graph) (atoms_same c.open.new.graph c.self.inside.graph c.open.ensures.graph) in
    subst (λ (s : Seen). KeepsApart (IsWritten c.args.id.now (value_at (records s) c.args.id.now) (maybe_data c.args.stored)) s new) c.self.view_is
    (kept_apart _ c.self.inside.graph c.open.new.graph c.write_all.new.graph c.commit.new.self c.open.ensures.graph c.commit.ensures.graph
    (subst (λ (m : Pairs). ChangesOnly (IsWritten c.args.id.now (value_at m c.args.id.now) (maybe_data c.args.stored)) c.open.new.graph c.write_all.new.graph) same c.write_all.ensures.left))

pub returns-in-Ok-clause-joins : goal.returns-in-Ok-clause-joins
returns-in-Ok-clause-joins g c =
    let old : Seen = record { keys = c.self.inside.keys; txn = c.self.inside.graph } in
    let new : Seen = record { keys = c.add.new.self; txn = c.commit.new.self } in
    let same = records_then old c.self.invariant c.args.id.now c.add.new.self c.in_ok-add.ensures.ok (atoms_of c.open.new.graph) (atoms_same c.open.new.graph c.self.inside.graph c.open.ensures.graph) in
    subst (λ (s : Seen). JoinsOnly (IsWritten c.args.id.now (value_at (records s) c.args.id.now) (maybe_data c.args.stored)) s new) c.self.view_is
    (joins_these _ c.self.inside.graph c.open.new.graph c.write_all.new.graph c.commit.new.self c.in_ok-open.ensures.journal
    (subst (λ (m : Pairs). ChangesOnly (IsWritten c.args.id.now (value_at m c.args.id.now) (maybe_data c.args.stored)) c.open.new.graph c.write_all.new.graph) same c.write_all.ensures.left) c.commit.ensures)

pub returns-in-Err-clause-epoch : goal.returns-in-Err-clause-epoch
returns-in-Err-clause-epoch g c =
    let back = epoch_after c.write_all.new.graph.graph.values c.abort.new.self.graph.values c.abort.ensures.epoch c.abort.ensures.changed in
    let opened = ap (λ graph. graph.values.epoch) c.open.ensures.graph in
    subst (λ (s : Seen). epoch s ≤ c.abort.new.self.graph.values.epoch) c.self.view_is (omega (arith, back, c.write_all.ensures.left.epoch, opened))

pub returns-in-Ok-clause-told : goal.returns-in-Ok-clause-told
returns-in-Ok-clause-told g c = λ none.
    let old : Seen = record { keys = c.self.inside.keys; txn = c.self.inside.graph } in
    let new : Seen = record { keys = c.add.new.self; txn = c.commit.new.self } in
    let same = records_then old c.self.invariant c.args.id.now c.add.new.self c.in_ok-add.ensures.ok (atoms_of c.self.inside.graph) refl in
    subst (λ (s : Seen). TellsOn s new) c.self.view_is
    (tells_then old new same (tells_on c.add.new.self _ c.self.inside.graph c.open.new.graph c.write_all.new.graph c.commit.new.self (record {
      none = none_open old (ap begun c.self.view_is ∙ none);
      opens = c.in_ok-open.ensures.journal;
      graph = c.open.ensures.graph;
      change = c.write_all.ensures.left;
      told = c.in-Ok.ensures.told;
      commits = c.commit.ensures;
      order = c.self.invariant.order;
      highest = c.tell_epoch.ensures;
    })))
