use Rattle.room_events.proofs.FollowLemmas.{client_waits, client_follows}
use Rattle.room_events.proofs.telling.clients_follow.Goals as goal

pub returns-clause-waits : goal.returns-clause-waits
returns-clause-waits c schemas last events number client lawful legal is told = client_waits schemas lawful last number client events legal is told

pub returns-clause-has_base : goal.returns-clause-has_base
returns-clause-has_base c schemas last events number client clock lawful legal is told = client_follows schemas lawful last number client events clock legal is told
