use Rattle.bench_parts.proofs.returns.stay.Goals as goal

-- who was in the room still is
pub drain-requires : goal.drain-requires
drain-requires g c = c.handle.ensures.others c.args.session c.requires.there

pub leave-requires : goal.leave-requires
leave-requires g c = c.drain.ensures.others c.args.session (c.handle.ensures.others c.args.session c.requires.there)
