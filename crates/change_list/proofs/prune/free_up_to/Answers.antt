use Rattle.std.proofs.Common.{◌≡◌, ℕ, ◌+◌, ◌-◌, List, [], ◌∷◌, ◌++◌, Some, true, false, length, set, sym, ap, subst, ◌∙◌, arith, w64}
use Rattle.std.proofs.lemmas.Int.{to_z-of_z}
use Rattle.links_core.specs.Lists.{list_at, first_of, AreSound}
use Rattle.links_core.proofs.Members.{first_in_list, without_all}
use Rattle.change_list.specs.Changes.{is_after}
use Rattle.change_list.specs.Kept.{entry_at, moved}
use Rattle.change_list.proofs.Takes.{IsFreeing, first_cut, freeing_step, freeing_end, freeing_stop}
use Rattle.change_list.proofs.prune.free_up_to.Goals as goal

pub is_after-late-requires : goal.is_after-late-requires
is_after-late-requires c =
    c.dropped.invariant.0.sound.made 1 c.in-Some.node (first_in_list (list_at c.dropped.links.lists 1) c.in-Some.node (sym (rw c.requires.list at c.in-Some.ensures.value)))

pub returns-then-late-clause-freed : goal.returns-then-late-clause-freed
returns-then-late-clause-freed c =
    let fits = to_z-of_z w64 c.args.clock c.ranges.clock in
    let asked = rw fits at c.is_after-late.ensures in
    let late : is_after c.args.clock (entry_at c.args.entries.now c.in-Some.node) ≡ true = sym asked ∙ c.if-late.true in
    freeing_stop _ _ _ _ _ c.in-Some.node (rw fits at c.dropped.invariant.0) (sym (rw c.requires.list at c.in-Some.ensures.value)) late

pub push_back-requires-clause-made : goal.push_back-requires-clause-made
push_back-requires-clause-made c =
    omega (arith, c.dropped.invariant.0.sound.made 1 c.in-Some.node (first_in_list (list_at c.dropped.links.lists 1) c.in-Some.node (sym (rw c.requires.list at c.in-Some.ensures.value))), c.dropped.invariant.1, c.requires.count, c.unlink.ensures.count)

pub push_back-requires-clause-unlinked : goal.push_back-requires-clause-unlinked
push_back-requires-clause-unlinked c =
    rw c.unlink.ensures.lists (without_all c.dropped.links.lists c.in-Some.node)

stepped : (c : goal.After-row_known-1) → IsFreeing c.args.links.now.lists c.push_back.new.self.lists c.args.entries.now c.args.clock (c.dropped.count - 1)
stepped c =
    let fits = to_z-of_z w64 c.args.clock c.ranges.clock in
    let asked = rw fits at c.is_after-late.ensures in
    let early : is_after c.args.clock (entry_at c.args.entries.now c.in-Some.node) ≡ false = sym asked ∙ c.if-late.false in
    let first : first_of (list_at c.dropped.links.lists 1) ≡ Some c.in-Some.node = sym (rw c.requires.list at c.in-Some.ensures.value) in
    let cut = first_cut (list_at c.dropped.links.lists 1) c.in-Some.node first in
    let lists : c.push_back.new.self.lists ≡ moved c.in-Some.node 2 c.dropped.links.lists = c.push_back.ensures.lists ∙ ap (λ ls. set ls c.args.free.number (list_at ls c.args.free.number ++ c.in-Some.node ∷ [])) c.unlink.ensures.lists ∙ ap (λ m. moved c.in-Some.node m c.dropped.links.lists) c.requires.free in
    let count : c.push_back.new.self.count ≡ length c.args.entries.now = omega (arith, c.push_back.ensures.count, c.unlink.ensures.count, c.dropped.invariant.1, c.requires.count) in
    let sound : AreSound (moved c.in-Some.node 2 c.dropped.links.lists) (length c.args.entries.now) = subst (λ (n : ℕ). AreSound (moved c.in-Some.node 2 c.dropped.links.lists) n) count (subst (λ (ls : List (List ℕ)). AreSound ls c.push_back.new.self.count) lists c.push_back.ensures.sound) in
    let there : c.dropped.count ≡ (c.dropped.count - 1) + 1 = omega (arith, c.dropped.invariant.0.counted, ap length cut.1) in
    rw lists (freeing_step c.args.links.now.lists c.dropped.links.lists c.args.entries.now c.args.clock c.dropped.count (c.dropped.count - 1) c.in-Some.node (rw fits at c.dropped.invariant.0) first early sound there)

pub dropped-smaller : goal.dropped-smaller
dropped-smaller c =
    let cut = first_cut (list_at c.dropped.links.lists 1) c.in-Some.node (sym (rw c.requires.list at c.in-Some.ensures.value)) in
    omega (arith, (stepped c).counted, c.dropped.invariant.0.counted, ap length cut.1)

pub dropped-preserved : goal.dropped-preserved
dropped-preserved c =
    let fits = to_z-of_z w64 c.args.clock c.ranges.clock in
    (rw fits (stepped c), omega (arith, c.push_back.ensures.count, c.unlink.ensures.count, c.dropped.invariant.1), omega (arith, c.push_back.ensures.spare, c.unlink.ensures.spare, c.dropped.invariant.2))

pub returns-clause-freed : goal.returns-clause-freed
returns-clause-freed c =
    let fits = to_z-of_z w64 c.args.clock c.ranges.clock in
    freeing_end _ _ _ _ _ (rw fits at c.dropped.invariant.0) (sym (rw c.requires.list at c.first.ensures.value) ∙ c.in_default.is)
