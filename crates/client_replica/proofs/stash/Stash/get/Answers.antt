use Rattle.std.proofs.Common.{Some, None, ap, ◌∙◌}
use Rattle.field_ops.specs.View.{maybe_data}
use Rattle.doc_store.specs.Slots.{slot_record}
use Rattle.doc_store.proofs.Trees.{found}
use Rattle.client_replica.proofs.stash.Stash.get.Goals as goal

pub returns-in-Some : goal.returns-in-Some
returns-in-Some c = ap maybe_data c.as_ref.ensures.value
    ∙ ap slot_record (found c.self.inside.tree.entries c.args.self.now c.args.id.now (Some c.in-Some.slot.now) c.self.view_is c.in-Some.ensures.value)

pub returns-in-None : goal.returns-in-None
returns-in-None c = ap slot_record (found c.self.inside.tree.entries c.args.self.now c.args.id.now None c.self.view_is c.in-None.ensures.value)
