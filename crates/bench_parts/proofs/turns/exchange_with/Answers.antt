use Rattle.bench_parts.proofs.turns.exchange_with.Goals as goal

pub drains-init : goal.drains-init
drains-init g c = c.handle.ensures.others c.args.session c.requires.there

pub drains-preserved : goal.drains-preserved
drains-preserved g c = c.drain.ensures.others c.args.session c.drains.invariant
