use Rattle.std.proofs.Common.{ap, sym, subst, ◌∙◌, arith}
use Rattle.std.specs.Prelude.{string_bytes}
use Rattle.rooms_val.specs.Maps.{with_key}
use Rattle.edit_names.specs.Names.{AreNames, names_view}
use Rattle.edit_names.proofs.NamesLemmas.{names_view-insert, names-with_key}
use Rattle.edit_names.proofs.names.EditNames.begin.Goals as goal

pub invariant_of-self-2 : goal.invariant_of-self-2
invariant_of-self-2 c =
    let es = c.self.inside.tree.entries in
    let key = c.in_ok-key.key in
    subst AreNames (sym (ap names_view c.in_ok-insert.ensures.entries ∙ names_view-insert es key 1)) (names-with_key (names_view es) (string_bytes key) 1 c.self.invariant (omega arith))

pub returns-clause-ok : goal.returns-clause-ok
returns-clause-ok c =
    ap names_view c.in_ok-insert.ensures.entries ∙ names_view-insert c.self.inside.tree.entries c.in_ok-key.key 1
    ∙ (λ i. with_key (c.self.view_is i) (c.in_ok-key.ensures.ok i) 1)
