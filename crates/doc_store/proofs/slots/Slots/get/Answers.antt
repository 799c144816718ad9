use Rattle.std.proofs.Common.{Some, None, ap, ◌∙◌}
use Rattle.field_ops.specs.View.{maybe_data}
use Rattle.doc_store.specs.Slots.{slot_record}
use Rattle.doc_store.proofs.Trees.{found, data_of-copied}
use Rattle.doc_store.proofs.slots.Slots.get.Goals as goal

pub returns-in-Some-clause-found : goal.returns-in-Some-clause-found
returns-in-Some-clause-found c =
    data_of-copied c.as_ref.result ∙ ap maybe_data c.as_ref.ensures.value
    ∙ ap slot_record (found c.self.inside.tree.entries c.args.self.now c.args.id.now (Some c.in-Some.slot.now) c.self.view_is c.in-Some.ensures.value)

pub returns-in-None-clause-found : goal.returns-in-None-clause-found
returns-in-None-clause-found c = ap slot_record (found c.self.inside.tree.entries c.args.self.now c.args.id.now None c.self.view_is c.in-None.ensures.value)
