use Rattle.std.proofs.Common.{[], ◌∷◌, ◌++◌, length, map, set, ap, sym, ◌∙◌, refl, arith}
use Rattle.std.proofs.lemmas.Option.{same_Some}
use Rattle.std.proofs.lemmas.List.{length-map, get_or-map}
use Rattle.links_core.specs.Lists.{list_at, without}
use Rattle.links_core.proofs.ChangeLemmas.{linked_made, unlink_asks}
use Rattle.links_core.proofs.Members.{numbered, without_all}
use Rattle.links_core.proofs.ThreadLemmas.{one_list}
use Rattle.links_core.proofs.links.Links.move_back.Goals as goal

pub index-requires : goal.index-requires
index-requires c =
    omega (arith, linked_made _ _ c.args.node c.self.invariant (rw (← c.self.view_is) at c.requires))

pub unreachable-requires : goal.unreachable-requires
unreachable-requires c =
    let asks = unlink_asks _ _ c.args.node (length c.self.inside.nodes.items) (length c.self.inside.ends.items) c.index.result.now c.self.invariant (rw (← c.self.view_is) at c.requires) refl refl c.index.ensures in
    c.in_default.not-Some asks.2.0 asks.2.1

pub push_back-requires-clause-list : goal.push_back-requires-clause-list
push_back-requires-clause-list c =
    let asks = unlink_asks _ _ c.args.node (length c.self.inside.nodes.items) (length c.self.inside.ends.items) c.index.result.now c.self.invariant (rw (← c.self.view_is) at c.requires) refl refl c.index.ensures in
    let same = same_Some _ _ (sym asks.2.1 ∙ c.in-Some.is) in
    let seen = ap (λ s. length s.lists) c.self.view_is in
    omega (arith, asks.2.2, same, ap length c.unlink.ensures.lists, length-map c.args.self.now.lists (without c.args.node), c.self.invariant.same_length, seen)

pub push_back-requires-clause-made : goal.push_back-requires-clause-made
push_back-requires-clause-made c =
    omega (arith, linked_made _ _ c.args.node c.self.invariant (rw (← c.self.view_is) at c.requires), c.unlink.ensures.count, ap (λ s. s.count) c.self.view_is)

pub push_back-requires-clause-unlinked : goal.push_back-requires-clause-unlinked
push_back-requires-clause-unlinked c = rw c.unlink.ensures.lists (without_all c.args.self.now.lists c.args.node)

pub returns-clause-lists : goal.returns-clause-lists
returns-clause-lists c = λ number q.
    let asks = unlink_asks _ _ c.args.node (length c.self.inside.nodes.items) (length c.self.inside.ends.items) c.index.result.now c.self.invariant (rw (← c.self.view_is) at c.requires) refl refl c.index.ensures in
    let one = one_list _ _ _ number asks.2.0 c.args.node c.self.invariant (rw (← c.self.view_is) at q) asks.2.3 ∙ same_Some _ _ (sym asks.2.1 ∙ c.in-Some.is) in
    let kept = get_or-map (without c.args.node) c.args.self.now.lists number [] [] (numbered c.args.self.now.lists number c.args.node q) in
    c.push_back.ensures.lists ∙ ap (λ ls. set ls c.in-Some.number (list_at ls c.in-Some.number ++ c.args.node ∷ [])) c.unlink.ensures.lists ∙ ap (λ m. set (map (without c.args.node) c.args.self.now.lists) m (list_at (map (without c.args.node) c.args.self.now.lists) m ++ c.args.node ∷ [])) (sym one) ∙ ap (λ ws. set (map (without c.args.node) c.args.self.now.lists) number (ws ++ c.args.node ∷ [])) kept
