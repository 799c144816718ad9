use Rattle.std.proofs.Common.{◌++◌, ap, sym, subst, ◌∙◌}
use Rattle.std.proofs.lemmas.List.{append-nil}
use Rattle.rooms_val.specs.Maps.{AreRising}
use Rattle.doc_store.specs.Tree.{slots_view}
use Rattle.doc_store.proofs.Ids.{full_ids, ids-present}
use Rattle.doc_store.proofs.slots.Slots.ids.Goals as goal

pub returns : goal.returns
returns c =
    sym (append-nil c.loop-id.ids.items) ∙ ap (λ es. c.loop-id.ids.items ++ full_ids (slots_view es)) (sym c.in-None.ensures.steps.0)
    ∙ c.loop-id.invariant ∙ sym (ids-present c.args.self.now (subst AreRising c.self.view_is c.self.invariant.rising))
