use Rattle.std.proofs.Common.{ℕ, List, subst, arith}
use Rattle.std.proofs.lemmas.List.Elements.{Contains-get_or}
use Rattle.signal_values.specs.Kept.{IsConnected}
use Rattle.signal_values.proofs.ListLemmas.{connected_none, connected_more, take_whole}
use Rattle.signal_values.proofs.rows.connect.Goals as goal

pub parents-init : goal.parents-init
parents-init c = record { connected = connected_none c.args.edges.now.children c.args.parents.now c.args.child; spare = omega (arith, c.requires.spare) }

pub link-requires-clause-parent : goal.link-requires-clause-parent
link-requires-clause-parent c =
    omega (arith, c.parents.invariant.connected.rows, c.requires.parents _ (Contains-get_or c.args.parents.now c.parents.parent-index 0 c.parents-test.true))

pub parents-preserved : goal.parents-preserved
parents-preserved c =
    let low = c.requires.parents _ (Contains-get_or c.args.parents.now c.parents.parent-index 0 c.parents-test.true) in
    record {
      connected = connected_more c.args.edges.now.children c.parents.edges.children c.link.new.self.children c.args.parents.now c.parents.parent-index c.args.child c.parents.invariant.connected c.parents-test.true (omega (arith, low, c.parents.invariant.connected.rows)) c.link.ensures.children;
      spare = omega (arith, c.parents.invariant.spare, c.link.ensures.spare);
    }

pub returns : goal.returns
returns c = subst (λ (ps : List ℕ). IsConnected c.args.edges.now.children c.parents.edges.children ps c.args.child) (take_whole c.args.parents.now c.parents.parent-index c.parents-test.false) c.parents.invariant.connected
