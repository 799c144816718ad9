use Rattle.std.proofs.Common.{ℕ, Some, ap, ◌∙◌, arith}
use Rattle.std.proofs.lemmas.List.{get_or_read}
use Rattle.links_core.specs.Lists.{list_at, first_of}
use Rattle.signal_values.proofs.WiredLemmas.{first_in, first_child_is, no_child_is}
use Rattle.signal_values.proofs.edges.Edges.first_child.Goals as goal

pub index-requires : goal.index-requires
index-requires c =
    omega (arith, c.self.invariant.parent_sound.made c.args.parent c.in_ok-edge.edge (first_in _ _ c.args.parent _ _ c.id-list.ensures c.first.ensures.value c.in_ok-edge.was), c.self.invariant.parent_made, c.self.inside.ends.ok.0)

pub returns : goal.returns
returns c =
    let low = c.self.invariant.parent_sound.made c.args.parent c.in_ok-edge.edge (first_in _ _ c.args.parent _ _ c.id-list.ensures c.first.ensures.value c.in_ok-edge.was) in
    let read = get_or_read c.self.inside.ends.items _ _ (omega (arith, low, c.self.invariant.parent_made)) c.index.ensures 0 in
    let first = c.first.ensures.value ∙ ap (λ (n : ℕ). first_of (list_at c.self.inside.by_parent.lists n)) c.id-list.ensures in
    rw (← c.self.view_is) (ap (λ (n : ℕ). Some n) read ∙ first_child_is c.self.inside.ends.items c.self.inside.by_parent.lists c.args.parent c.first.result c.in_ok-edge.edge first c.in_ok-edge.was)

pub returns-in_err-edge : goal.returns-in_err-edge
returns-in_err-edge c =
    let first = c.first.ensures.value ∙ ap (λ (n : ℕ). first_of (list_at c.self.inside.by_parent.lists n)) c.id-list.ensures in
    rw (← c.self.view_is, c.from_residual.ensures) (no_child_is c.self.inside.ends.items c.self.inside.by_parent.lists c.args.parent c.first.result first c.in_err-edge.was)
