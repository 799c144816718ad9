use Rattle.std.proofs.Common.{◌≡◌, None, refl, ap, sym, subst, arith}
use Rattle.std.specs.Prelude.{unwrap_or}
use Rattle.edit_names.specs.Names.{count_at, AreNames, names_view}
use Rattle.edit_names.proofs.NamesLemmas.{found, set_is, names-with_key}
use Rattle.edit_names.proofs.names.EditNames.put.Goals as goal

pub invariant_of-self-2 : goal.invariant_of-self-2
invariant_of-self-2 c =
    let es = c.self.inside.tree.entries in
    let is = set_is es (c.get_mut.follows.lender c.args.count).entries (names_view es) c.args.id.now c.args.count c.in-Some.place.now c.self.invariant.rising refl c.in-Some.ensures.value (c.get_mut.follows.holds c.args.count).0 in
    subst AreNames (sym is) (names-with_key (names_view es) c.args.id.now c.args.count c.self.invariant c.requires.some)

pub returns : goal.returns
returns c = set_is c.self.inside.tree.entries (c.get_mut.follows.lender c.args.count).entries c.args.self.now c.args.id.now c.args.count c.in-Some.place.now c.self.invariant.rising c.self.view_is c.in-Some.ensures.value (c.get_mut.follows.holds c.args.count).0

pub returns-in-None : goal.returns-in-None
returns-in-None c =
    let none = found c.self.inside.tree.entries c.args.self.now c.args.id.now None c.self.view_is c.in-None.ensures.value in
    let zero : count_at c.args.self.now c.args.id.now ≡ 0 = ap (λ o. unwrap_or o 0) (sym none) in
    let held = c.requires.held in
    absurd (omega (arith, zero, held))
