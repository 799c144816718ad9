use Rattle.std.proofs.Common.{◌≡◌, length, Some, refl, sym, ◌∙◌, ap, subst}
use Rattle.std.specs.List.{slice_get}
use Rattle.std.proofs.lemmas.Option.{slice_get_read, slice_get_within, same_Some}
use Rattle.signal_values.specs.declared.cells.Row.{Row}
use Rattle.signal_values.specs.Kept.{IsFreshKey}
use Rattle.signal_values.specs.Seen.{Seen, IsGot}
use Rattle.signal_values.proofs.values.Values.get.Goals as goal

pub returns : goal.returns
returns g c =
    let v = c.in_ok-i.ensures.value in
    let at : slice_get c.self.inside.cells.rows.items c.in_ok-i.i ≡ Some v.row = subst (λ (s : Seen g.row.R.Denot g.row.R-Key.Denot g.row.R-Value.Denot). slice_get s.rows c.in_ok-i.i ≡ Some v.row) (sym c.self.view_is) v.at in
    let low = slice_get_within c.self.inside.cells.rows.items c.in_ok-i.i v.row at in
    let read = slice_get_read c.self.inside.cells.rows.items (length c.self.inside.cells.rows.items) c.in_ok-i.i c.index.result.now refl low c.index.ensures in
    let same = same_Some c.index.result.now v.row (sym read ∙ at) in (
      (
        refl,
        (λ s. tt),
        (
          subst (λ (s : Seen g.row.R.Denot g.row.R-Key.Denot g.row.R-Value.Denot). IsGot (g.R.Rules.meaning c.args.self.now.rules) g.R.Key.Ord.cmp c.args.self.now s) (sym c.self.view_is) c.compute.ensures.got,
          subst (λ (s : Seen g.row.R.Denot g.row.R-Key.Denot g.row.R-Value.Denot). IsFreshKey s.rows s.fresh c.args.key.now) (sym c.self.view_is) c.in_ok-i.ensures.fresh,
        ),
      ),
      record { left = tt; value = ap (λ (r : Row g.row.R-Key.Denot g.row.R-Value.Denot). r.value) same ∙ v.value; free = λ h. c.compute.ensures.free h.0 },
    )
