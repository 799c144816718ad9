use Rattle.std.proofs.Common.{ap, sym, subst, ◌∙◌}
use Rattle.rooms_val.specs.Maps.{without_key}
use Rattle.edit_names.specs.Names.{AreNames, names_view}
use Rattle.edit_names.proofs.NamesLemmas.{names_view-remove, names-without_key}
use Rattle.edit_names.proofs.names.EditNames.forget.Goals as goal

pub invariant_of-self : goal.invariant_of-self
invariant_of-self c =
    let es = c.self.inside.tree.entries in
    subst AreNames (sym (ap names_view c.remove.ensures.entries ∙ names_view-remove es c.args.id.now c.self.invariant.rising)) (names-without_key (names_view es) c.args.id.now c.self.invariant)

pub returns : goal.returns
returns c = ap names_view c.remove.ensures.entries ∙ names_view-remove c.self.inside.tree.entries c.args.id.now c.self.invariant.rising ∙ ap (λ s. without_key s c.args.id.now) c.self.view_is
