use Rattle.std.proofs.Common.{None, ap, sym, subst, ◌∙◌}
use Rattle.std.specs.Prelude.{string_bytes}
use Rattle.rooms_val.specs.Maps.{AreRising, with_key}
use Rattle.rooms_val.proofs.MapsLemmas.{rising-with_key}
use Rattle.field_ops.specs.View.{maybe_data}
use Rattle.doc_store.specs.Tree.{slots_view}
use Rattle.doc_store.proofs.Trees.{found, slots_view-insert}
use Rattle.client_replica.proofs.stash.Stash.put.Goals as goal

pub invariant_of-self : goal.invariant_of-self
invariant_of-self c =
    let es = c.self.inside.tree.entries in
    subst AreRising (sym (ap slots_view c.in-Ok.ensures.entries ∙ slots_view-insert es c.args.id c.args.slot)) (rising-with_key (slots_view es) (string_bytes c.args.id) (maybe_data c.args.slot) c.self.invariant)

pub returns-in-Ok-clause-ok : goal.returns-in-Ok-clause-ok
returns-in-Ok-clause-ok c =
    ap slots_view c.in-Ok.ensures.entries ∙ slots_view-insert c.self.inside.tree.entries c.args.id c.args.slot
    ∙ ap (λ s. with_key s (string_bytes c.args.id) (maybe_data c.args.slot)) c.self.view_is

pub returns-clause-full : goal.returns-clause-full
returns-clause-full c = sym (found c.self.inside.tree.entries c.args.self.now (string_bytes c.args.id) None c.self.view_is (sym c.in-Err.ensures.absent))
