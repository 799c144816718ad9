use Rattle.std.proofs.Common.{◌≡◌, suc, ◌-◌, length, refl, arith}
use Rattle.std.proofs.lemmas.Option.{slice_get_read}
use Rattle.signal_txn.proofs.JournalLemmas.{newest, joined_newest}
use Rattle.signal_txn.proofs.journal.join.Goals as goal

pub returns : goal.returns
returns g c =
    let items = c.args.levels.now.items in
    let i = c.len-depth.result - 1 in
    let long : suc i ≡ length items = omega (arith, c.len-depth.ensures, c.if-depth-eq0.false) in
    let at = slice_get_read items (length items) i c.index_mut.result.now refl (omega (arith, long)) c.index_mut.ensures.value in
    joined_newest c.args.write items c.args.ring.now i c.index_mut.result.now c.join-2.new.self (newest items i c.index_mut.result.now c.join-2.new.self long at) c.join-2.ensures
