use Rattle.std.proofs.Common.{◌≡◌, Ok, is_ok, true, rules, subst, sym}
use Rattle.std.specs.Prelude.{◌↔◌}
use Rattle.rooms_val.specs.View.{data_of}
use Rattle.schema_core.specs.Admits.{admission, IsAdmitted}
use Rattle.schema_core.specs.SchemaOf.{schema_tree}
use Rattle.schema_core.proofs.AdmitsLemmas.{law}
use Rattle.schema_core.proofs.schema.Schema.admits.Goals as goal

pub returns-clause-admitted : goal.returns-clause-admitted
returns-clause-admitted c =
    let s = schema_tree c.args.self.now in
    let id = c.args.id.now in
    let d = data_of c.args.stored.now in
    let is : Ok c.in-Some-type_named.found.now.scope ≡ admission s id d = search rules in
    subst (λ r. (is_ok r ≡ true) ↔ IsAdmitted s id d) (sym is) (law s id d)
