use Rattle.std.proofs.Common.{ap, sym, subst, ◌∙◌}
use Rattle.rooms_val.specs.Maps.{without_key}
use Rattle.doc_store.specs.Slots.{AreSound}
use Rattle.doc_store.specs.Tree.{slots_view}
use Rattle.doc_store.proofs.Trees.{found, slots_view-remove}
use Rattle.doc_store.proofs.SlotLaws.{sound-without_key}
use Rattle.doc_store.proofs.slots.Slots.take.Goals as goal

pub invariant_of-self : goal.invariant_of-self
invariant_of-self c =
    let es = c.self.inside.tree.entries in
    let left = ap slots_view c.remove.ensures.entries ∙ slots_view-remove es c.args.id.now c.self.invariant.rising in
    subst AreSound (sym left) (sound-without_key (slots_view es) c.args.id.now c.self.invariant)

pub returns-clause-old : goal.returns-clause-old
returns-clause-old c = found c.self.inside.tree.entries c.args.self.now c.args.id.now c.remove.result c.self.view_is c.remove.ensures.value

pub returns-clause-rest : goal.returns-clause-rest
returns-clause-rest c =
    ap slots_view c.remove.ensures.entries ∙ slots_view-remove c.self.inside.tree.entries c.args.id.now c.self.invariant.rising ∙ ap (λ s. without_key s c.args.id.now) c.self.view_is
