use Rattle.std.proofs.Common.{◌≡◌, refl, sym, ap, subst}
use Rattle.std.specs.Prelude.{IfOk}
use Rattle.signal_values.specs.Seen.{IsGot, IsFreshIn, value_in}
use Rattle.signal_core.specs.Seen.{Seen}
use Rattle.signal_core.proofs.graph.Graph.get.Goals as goal

pub returns : goal.returns
returns g c = (
  (
    refl,
    (λ s. tt),
    (
      subst (λ (s : Seen g.row.R.Denot g.row.R-Key.Denot g.row.R-Value.Denot). IsGot (g.R.Rules.meaning s.values.rules) g.R.Key.Ord.cmp s.values c.get.follows.lender-at-none) c.self.view_is c.get.follows.holds-at-none.0,
      ap (λ (s : Seen g.row.R.Denot g.row.R-Key.Denot g.row.R-Value.Denot). s.watches) c.self.view_is,
      c.get.follows.holds-at-none.1,
    ),
  ),
  record {
    left = tt;
    value = subst (λ (s : Seen g.row.R.Denot g.row.R-Key.Denot g.row.R-Value.Denot). IfOk c.get.result (λ v. v.now ≡ value_in (g.R.Rules.meaning s.values.rules) g.R.Key.Ord.cmp s.values c.args.key.now)) c.self.view_is c.get.ensures.value;
    free = λ h. c.get.ensures.free (subst (λ (s : Seen g.row.R.Denot g.row.R-Key.Denot g.row.R-Value.Denot). IsFreshIn s.values c.args.key.now) (sym c.self.view_is) h);
  },
)
