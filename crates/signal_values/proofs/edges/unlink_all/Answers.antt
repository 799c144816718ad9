use Rattle.std.proofs.Common.{◌≡◌, suc, [], ◌∷◌, ◌++◌, length, map, sym, ap, ◌∙◌, arith}
use Rattle.std.proofs.Math.ListN.{set}
use Rattle.std.proofs.lemmas.List.{length-set, length-map}
use Rattle.links_core.specs.Lists.{list_at, without}
use Rattle.links_core.proofs.Members.{without_all}
use Rattle.signal_values.specs.Wired.{children_of}
use Rattle.signal_values.proofs.WiredLemmas.{unlinked_is, gone, same_without, none_without, without-less, other_list, first_has, first_none}
use Rattle.signal_values.proofs.RowLemmas.{at_without}
use Rattle.signal_values.proofs.edges.unlink_all.Goals as goal

pub unlink-requires : goal.unlink-requires
unlink-requires c = (_, first_has _ _ c.args.child _ _ c.id-list.ensures c.first.ensures.value c.in-Some.is)

pub unlink-requires-in-Some : goal.unlink-requires-in-Some
unlink-requires-in-Some c =
    (c.edges.invariant.wired.out c.args.child c.in-Some.edge (first_has _ _ c.args.child _ _ c.id-list.ensures c.first.ensures.value c.in-Some.is)).0

pub push_back-requires-clause-made : goal.push_back-requires-clause-made
push_back-requires-clause-made c =
    omega (arith, c.edges.invariant.wired.kid_sound.made _ _ (first_has _ _ c.args.child _ _ c.id-list.ensures c.first.ensures.value c.in-Some.is))

pub push_back-requires-clause-unlinked : goal.push_back-requires-clause-unlinked
push_back-requires-clause-unlinked c = rw c.unlink.ensures.lists (without_all c.edges.by_child.lists c.in-Some.edge)

kids_are : (c : goal.After-push_back) → c.push_back.new.self.lists ≡ set (map (without c.in-Some.edge) c.edges.by_child.lists) 0 (list_at (map (without c.in-Some.edge) c.edges.by_child.lists) 0 ++ c.in-Some.edge ∷ [])
kids_are c =
    c.push_back.ensures.lists ∙ ap (λ n. set c.unlink.new.self.lists n (list_at c.unlink.new.self.lists n ++ c.in-Some.edge ∷ [])) c.id-free.ensures ∙ ap (λ ls. set ls 0 (list_at ls 0 ++ c.in-Some.edge ∷ [])) c.unlink.ensures.lists

pub edges-smaller : goal.edges-smaller
edges-smaller c =
    let less = without-less c.in-Some.edge (list_at c.edges.by_child.lists (suc c.args.child)) (first_has _ _ c.args.child _ _ c.id-list.ensures c.first.ensures.value c.in-Some.is) in
    let one = ap (λ ls. length (list_at ls (suc c.args.child))) (kids_are c) in
    let two = ap length (other_list (map (without c.in-Some.edge) c.edges.by_child.lists) (list_at (map (without c.in-Some.edge) c.edges.by_child.lists) 0 ++ c.in-Some.edge ∷ []) c.args.child) in
    let three = ap length (at_without c.in-Some.edge c.edges.by_child.lists (suc c.args.child)) in
    omega (arith, less, one, two, three)

pub edges-preserved : goal.edges-preserved
edges-preserved c =
    let has = first_has _ _ c.args.child _ _ c.id-list.ensures c.first.ensures.value c.in-Some.is in
    record {
      wired = unlinked_is c.edges.by_parent.lists c.edges.by_child.lists _ _ c.edges.by_parent.count c.edges.by_child.count _ _ c.args.ends.now c.args.child c.in-Some.edge c.edges.invariant.wired has c.unlink-in-Some.ensures.lists c.unlink-in-Some.ensures.count c.unlink-in-Some.ensures.sound (kids_are c) (c.push_back.ensures.count ∙ c.unlink.ensures.count) c.push_back.ensures.sound;
      same = ap (λ ls. map (without c.args.child) (children_of c.args.ends.now ls)) c.unlink-in-Some.ensures.lists ∙ same_without c.args.ends.now c.in-Some.edge c.args.child (c.edges.invariant.wired.out c.args.child c.in-Some.edge has).1 c.edges.by_parent.lists ∙ c.edges.invariant.same;
      rows = omega (arith, ap length (kids_are c), length-set (map (without c.in-Some.edge) c.edges.by_child.lists) 0 (list_at (map (without c.in-Some.edge) c.edges.by_child.lists) 0 ++ c.in-Some.edge ∷ []), length-map c.edges.by_child.lists (without c.in-Some.edge), c.edges.invariant.rows);
      parent_spare = c.unlink-in-Some.ensures.spare ∙ c.edges.invariant.parent_spare;
      child_spare = c.push_back.ensures.spare ∙ c.unlink.ensures.spare ∙ c.edges.invariant.child_spare;
    }

pub returns-clause-children : goal.returns-clause-children
returns-clause-children c =
    sym (none_without c.args.child (children_of c.args.ends.now c.edges.by_parent.lists) (gone c.edges.by_parent.lists c.edges.by_child.lists _ _ c.args.ends.now c.args.child c.edges.invariant.wired (first_none _ _ c.args.child _ c.id-list.ensures c.first.ensures.value c.in_default.is))) ∙ c.edges.invariant.same
