use Rattle.bench_parts.proofs.rooms.new_room.Goals as goal

pub new-requires-clause-presence : goal.new-requires-clause-presence
new-requires-clause-presence c = c.tables_have_presences.ensures 3 _ c.in_ok-schema.ensures.known
