use Rattle.std.proofs.Common.{sym, ap, ◌∙◌}
use Rattle.shape_tree.specs.View.{maybe_data}
use Rattle.record_store.specs.Lists.{atoms_of}
use Rattle.record_store.proofs.RecordLemmas.{at_itself, at_no_key}
use Rattle.record_store.proofs.lists.record_at.Goals as goal

pub returns-in_err-get-clause-found : goal.returns-in_err-get-clause-found
returns-in_err-get-clause-found c = ap maybe_data c.from_residual.ensures ∙ sym (at_no_key c.args.keys.now (atoms_of c.args.graph.now) c.args.id.now (sym c.in_err-get.ensures.found))

pub returns-clause-found : goal.returns-clause-found
returns-clause-found c =
    c.record_of.ensures ∙ sym (at_itself c.args.keys.now c.get.ensures.keys (atoms_of c.args.graph.now) c.args.id.now c.in_ok-get.field-0.now (sym c.in_ok-get.ensures.found))
