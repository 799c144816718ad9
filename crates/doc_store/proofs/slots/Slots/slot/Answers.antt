use Rattle.std.proofs.Common.{Some, None, ap, ◌∙◌}
use Rattle.doc_store.proofs.Trees.{found}
use Rattle.doc_store.proofs.slots.Slots.slot.Goals as goal

pub returns-in_ok-copy_slot-in-Some-clause-found : goal.returns-in_ok-copy_slot-in-Some-clause-found
returns-in_ok-copy_slot-in-Some-clause-found c =
    ap Some c.in_ok-copy_slot-in-Some.ensures ∙ found c.self.inside.tree.entries c.args.self.now c.args.id.now (Some c.in-Some.slot.now) c.self.view_is c.in-Some.ensures.value

pub returns-in-None-clause-found : goal.returns-in-None-clause-found
returns-in-None-clause-found c = found c.self.inside.tree.entries c.args.self.now c.args.id.now None c.self.view_is c.in-None.ensures.value
