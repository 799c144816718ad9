use Rattle.std.proofs.Common.{ap, sym, ◌∙◌}
use Rattle.rooms_val.specs.Maps.{value_at}
use Rattle.doc_store.proofs.SlotLaws.{get-present}
use Rattle.doc_store.proofs.map_doc.MapDocDocStore.get.Goals as goal

pub returns-clause-found : goal.returns-clause-found
returns-clause-found c = c.get.ensures.found ∙ sym (get-present c.self.inside.slots c.args.id.now) ∙ ap (λ d. value_at d.0 c.args.id.now) c.self.view_is
