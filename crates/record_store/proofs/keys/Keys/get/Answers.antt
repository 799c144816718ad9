use Rattle.std.proofs.Common.{ap, sym, ◌∙◌}
use Rattle.rooms_val.specs.Maps.{value_at}
use Rattle.record_store.proofs.TreeLemmas.{value_at-keys_view, key_found}
use Rattle.record_store.proofs.keys.Keys.get.Goals as goal

pub returns-clause-found : goal.returns-clause-found
returns-clause-found c =
    key_found c.get.result ∙ c.get.ensures.value ∙ sym (value_at-keys_view c.self.inside.tree.entries c.args.id.now) ∙ ap (λ ks. value_at ks c.args.id.now) c.self.view_is
