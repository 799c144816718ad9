use Rattle.std.proofs.Common.{◌≡◌, get_or, sym, ap, subst, ◌∙◌, arith, rules, w64}
use mir.Val.{SFits}
use Rattle.std.proofs.lemmas.Int.{to_z-of_z}
use Rattle.std.proofs.lemmas.Option.{same_Some, none-some}
use Rattle.std.proofs.lemmas.List.{get_or-map}
use Rattle.std.proofs.lemmas.List.Elements.{Contains-get_or}
use Rattle.std.specs.Prelude.{Contains}
use Rattle.links_core.specs.Lists.{list_at}
use Rattle.change_list.specs.declared.entries.Change.{Change}
use Rattle.change_list.specs.Changes.{blank}
use Rattle.change_list.specs.Kept.{entry_at}
use Rattle.change_list.proofs.Steps.{first_there, step_forward}
use Rattle.change_list.proofs.prune.clock_at.Goals as goal

pub forward-init : goal.forward-init
forward-init c = c.first-at.ensures.value

pub forward-preserved : goal.forward-preserved
forward-preserved c =
    step_forward c.args.links.now.lists c.args.list.number c.forward.counter c.in-Some.node c.next-at.result (omega (arith, c.requires.place)) (sym c.in-Some.is ∙ c.forward.invariant) c.next-at.ensures.value

pub clock_of-requires : goal.clock_of-requires
clock_of-requires c =
    let place : c.forward.counter ≡ c.args.place = omega arith in
    let xs = list_at c.args.links.now.lists c.args.list.number in
    let same = same_Some _ _ (sym c.in-Some-at.is ∙ c.forward.invariant ∙ first_there xs c.forward.counter (omega (arith, c.requires.place))) in
    c.requires.made c.in-Some-at.node (subst (Contains xs) (sym same) (Contains-get_or xs c.forward.counter 0 (omega (arith, c.requires.place))))

pub unreachable-requires-in-None : goal.unreachable-requires-in-None
unreachable-requires-in-None c =
    none-some _ (sym c.in-None.is ∙ c.forward.invariant ∙ first_there (list_at c.args.links.now.lists c.args.list.number) c.forward.counter (omega (arith, c.requires.place)))

pub returns : goal.returns
returns c =
    let place : c.forward.counter ≡ c.args.place = omega arith in
    let xs = list_at c.args.links.now.lists c.args.list.number in
    let same = same_Some _ _ (sym c.in-Some-at.is ∙ c.forward.invariant ∙ first_there xs c.forward.counter (omega (arith, c.requires.place))) in
    let fits : SFits w64 c.clock_of.result = search rules in
    to_z-of_z w64 c.clock_of.result fits ∙ c.clock_of.ensures ∙ ap (λ n. (entry_at c.args.entries.now n).clock) (same ∙ ap (λ i. get_or xs i 0) place) ∙ ap (λ (e : Change). e.clock) (sym (get_or-map (entry_at c.args.entries.now) xs c.args.place 0 blank c.requires.place))
