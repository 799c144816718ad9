use Rattle.std.proofs.Common.{ap, sym}
use Rattle.change_list.proofs.SoundLemmas.{in_order}
use Rattle.change_list.proofs.change_list.ChangeList.starts_at.Goals as goal

pub returns-clause-order : goal.returns-clause-order
returns-clause-order c =
    in_order c.self.inside.links.lists c.self.inside.entries.items c.self.inside.order.items c.self.inside.dead_count c.args.self.now c.self.invariant.kept (ap (λ s. s.live) (sym c.self.view_is)) (ap (λ s. s.dead) (sym c.self.view_is))
