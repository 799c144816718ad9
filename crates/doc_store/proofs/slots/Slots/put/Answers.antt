use Rattle.std.proofs.Common.{None, string_bytes, ap, sym, subst, ◌∙◌}
use Rattle.rooms_val.specs.Maps.{with_key}
use Rattle.field_ops.specs.View.{maybe_data}
use Rattle.doc_store.specs.Slots.{AreSound}
use Rattle.doc_store.specs.Tree.{slots_view}
use Rattle.doc_store.proofs.Trees.{found, slots_view-insert}
use Rattle.doc_store.proofs.SlotLaws.{sound-with_key}
use Rattle.doc_store.proofs.slots.Slots.put.Goals as goal

pub invariant_of-self : goal.invariant_of-self
invariant_of-self c =
    let es = c.self.inside.tree.entries in
    let left = ap slots_view c.in-Ok.ensures.entries ∙ slots_view-insert es c.args.id c.args.slot in
    subst AreSound (sym left) (sound-with_key (slots_view es) (string_bytes c.args.id) (maybe_data c.args.slot) c.self.invariant c.tell_sound.ensures)

pub returns-in-Ok-clause-old : goal.returns-in-Ok-clause-old
returns-in-Ok-clause-old c = found c.self.inside.tree.entries c.args.self.now (string_bytes c.args.id) c.in-Ok.old c.self.view_is c.in-Ok.ensures.old

pub returns-in-Ok-clause-ok : goal.returns-in-Ok-clause-ok
returns-in-Ok-clause-ok c =
    ap slots_view c.in-Ok.ensures.entries ∙ slots_view-insert c.self.inside.tree.entries c.args.id c.args.slot ∙ ap (λ s. with_key s (string_bytes c.args.id) (maybe_data c.args.slot)) c.self.view_is

pub returns-clause-full : goal.returns-clause-full
returns-clause-full c = sym (found c.self.inside.tree.entries c.args.self.now (string_bytes c.args.id) None c.self.view_is (sym c.in-Err.ensures.absent))
