use Rattle.signal_values.proofs.AtomLemmas.{exact}
use Rattle.signal_values.proofs.SeenLemmas.{empty_sound}
use Rattle.signal_values.proofs.values.Values.new.Goals as goal

pub invariant_of-result : goal.invariant_of-result
invariant_of-result g c =
    empty_sound (g.R.Rules.meaning c.args.rules) g.R.Key.Ord.cmp (exact g.R.Key.Ord.cmp g.met.R.Key.Ord.total g.met.R.Rules.same_keys) (record { rows = c.new.result; fresh = c.new-2.result; places = c.new-3.result; edges = c.in_ok-new.field-0 }) c.new.ensures.items c.new-2.ensures.items c.new-3.ensures.empty c.in_ok-new.ensures
