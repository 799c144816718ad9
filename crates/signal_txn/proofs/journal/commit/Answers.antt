use Rattle.std.proofs.Common.{◌≡◌, suc, ◌-◌, length, refl, ◌∙◌, ap, arith}
use Rattle.std.proofs.lemmas.Option.{slice_get_read}
use Rattle.signal_txn.specs.LastWrites.{LastWrites, followed}
use Rattle.signal_txn.specs.Level.{Level}
use Rattle.signal_txn.proofs.JournalLemmas.{newest, committed_newest}
use Rattle.signal_txn.proofs.journal.commit.Goals as goal

pub returns : goal.returns
returns g c =
    let items = c.pop.new.self.items in
    let i = c.len-depth.result - 1 in
    let outer = c.index_mut.result.now in
    let long : suc i ≡ length items = omega (arith, c.len-depth.ensures, c.if-depth-eq0.false) in
    let at = slice_get_read items (length items) i outer refl (omega (arith, long)) c.index_mut.ensures.value in
    committed_newest items c.args.levels.now.items c.args.ring.now i c.in-Some.level outer c.append-2.new.self c.in-Some.ensures.items (newest items i outer c.append-2.new.self long at)
    (c.append-2.ensures ∙ ap (λ (w : LastWrites g.row.K.Denot g.row.V.Denot). let new : Level g.row.K.Denot g.row.V.Denot = record outer { last = followed outer.last w } in new) c.into_parts-writes.ensures.last)
