use Rattle.std.proofs.Common.{◌≤◌, ◌∷◌, ◌++◌, [], List, length, sym, ◌∙◌, ap, subst}
use Rattle.circular_buffer.specs.Buffer.{Buffer}
use Rattle.signal_txn.specs.declared.write.Write.{Write}
use Rattle.signal_txn.specs.LastWrites.{most_writes, LastWrites, followed}
use Rattle.signal_txn.proofs.LastWritesLemmas.{some_writes, first_rest, followed-more, length-keep_last}
use Rattle.signal_txn.proofs.last_writes.LastWrites.join_all.Goals as goal

pub writes-preserved : goal.writes-preserved
writes-preserved g c = record {
  rest =
      ap (λ (l : LastWrites g.row.K.Denot g.row.V.Denot). followed l (some_writes c.pop_front.new.self.items)) c.join.ensures
      ∙ followed-more c.writes.self c.in-Some.write c.pop_front.new.self.items
      ∙ ap (λ (ws : List (Write g.row.K.Denot g.row.V.Denot)). followed c.writes.self (some_writes ws)) (ap (λ (b : Buffer (Write g.row.K.Denot g.row.V.Denot)). c.in-Some.write ∷ b.items) c.pop_front.ensures.items ∙ first_rest c.writes.rest.items c.in-Some.write (sym c.pop_front.ensures.value ∙ c.in-Some.is))
      ∙ c.writes.invariant.rest;
  within = subst (λ (l : LastWrites g.row.K.Denot g.row.V.Denot). length l.writes ≤ most_writes) (sym c.join.ensures) (length-keep_last most_writes (c.writes.self.writes ++ c.in-Some.write ∷ []));
}
