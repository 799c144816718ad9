use Rattle.std.proofs.Common.{◌≡◌, Some, None, nat_lt, ap, sym, subst, ◌∙◌}
use Rattle.std.specs.Prelude.{is_some, unwrap_or}
use Rattle.rooms_val.specs.Maps.{value_at}
use Rattle.edit_names.proofs.NamesLemmas.{found, held_is}
use Rattle.edit_names.proofs.names.EditNames.count.Goals as goal

pub returns-in-Some-clause-count : goal.returns-in-Some-clause-count
returns-in-Some-clause-count c = ap (λ o. unwrap_or o 0) (found c.self.inside.tree.entries c.args.self.now c.args.id.now (Some c.in-Some.count.now) c.self.view_is c.in-Some.ensures.value)

pub returns-in-Some-clause-held : goal.returns-in-Some-clause-held
returns-in-Some-clause-held c =
    let q = c.args.id.now in
    let there = found c.self.inside.tree.entries c.args.self.now q (Some c.in-Some.count.now) c.self.view_is c.in-Some.ensures.value in
    held_is (value_at c.args.self.now q) (subst (λ s. ¬ (value_at s q ≡ Some 0)) c.self.view_is (c.self.invariant.named q)) ∙ ap (λ o. nat_lt 0 (unwrap_or o 0)) (sym there)

pub returns-in-None-clause-count : goal.returns-in-None-clause-count
returns-in-None-clause-count c = ap (λ o. unwrap_or o 0) (found c.self.inside.tree.entries c.args.self.now c.args.id.now None c.self.view_is c.in-None.ensures.value)

pub returns-in-None-clause-held : goal.returns-in-None-clause-held
returns-in-None-clause-held c = ap is_some (sym (found c.self.inside.tree.entries c.args.self.now c.args.id.now None c.self.view_is c.in-None.ensures.value))
