use Rattle.std.proofs.Common.{Some, None, ap}
use Rattle.std.specs.Prelude.{is_some}
use Rattle.doc_store.proofs.Trees.{found}
use Rattle.client_replica.proofs.stash.Stash.has.Goals as goal

pub returns-in-Some : goal.returns-in-Some
returns-in-Some c = ap is_some (found c.self.inside.tree.entries c.args.self.now c.args.id.now (Some c.in-Some.field-0.now) c.self.view_is c.in-Some.ensures.value)

pub returns-in-None : goal.returns-in-None
returns-in-None c = ap is_some (found c.self.inside.tree.entries c.args.self.now c.args.id.now None c.self.view_is c.in-None.ensures.value)
