use Rattle.std.proofs.Common.{ap, sym, subst, ◌∙◌}
use Rattle.rooms_val.specs.Maps.{AreRising, without_key}
use Rattle.rooms_val.proofs.MapsLemmas.{rising-without_key}
use Rattle.doc_store.specs.Tree.{slots_view}
use Rattle.doc_store.proofs.Trees.{slots_view-remove}
use Rattle.client_replica.proofs.stash.Stash.remove.Goals as goal

pub invariant_of-self : goal.invariant_of-self
invariant_of-self c =
    let es = c.self.inside.tree.entries in
    subst AreRising (sym (ap slots_view c.remove.ensures.entries ∙ slots_view-remove es c.args.id.now c.self.invariant)) (rising-without_key (slots_view es) c.args.id.now c.self.invariant)

pub returns : goal.returns
returns c = ap slots_view c.remove.ensures.entries ∙ slots_view-remove c.self.inside.tree.entries c.args.id.now c.self.invariant ∙ ap (λ s. without_key s c.args.id.now) c.self.view_is
