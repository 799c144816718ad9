use Rattle.bench_parts.proofs.rooms.exchange_with.Goals as goal

-- who was in the room still is
pub drain-requires : goal.drain-requires
drain-requires g c = c.handle.ensures.others c.args.session c.requires.there
