-- The queues of sessions, as lists of lists: by the numbers of sessions, the oldest of each first.
use Rattle.std.specs.Prelude.{ℕ, List, [], ◌∷◌, ◌++◌, map, drop, get_or, slice_set}
use Rattle.sync_msgs.specs.declared.client_message.ClientMessage.{ClientMessage}
use Rattle.sync_msgs.specs.declared.out.Out.{Out}
use Rattle.world_queues.specs.declared.channel.Channel.{Channel}
use Rattle.world_queues.specs.declared.queues.Queues.{Queues}

-- what the session of a channel sent, and the room wasn't given
abbrev pub sent_in : Channel → List ClientMessage
sent_in channel = channel.to_room.items

-- what the session of a channel was given, and its client wasn't
abbrev pub given_in : Channel → List Out
given_in channel = channel.to_client.items

-- what each session sent, and the room wasn't given
abbrev pub to_room : Queues → List (List ClientMessage)
to_room q = map sent_in q.channels.items

-- what each session was given, and its client wasn't
abbrev pub to_client : Queues → List (List Out)
to_client q = map given_in q.channels.items

module _ {X : Type 0} where
  -- the queue of a session, empty where there is no such session
  abbrev pub queue_at : ℕ → List (List X) → List X
  queue_at k queues = get_or queues k []

  -- queues with some more at the end of a session's
  abbrev pub with_all : ℕ → List X → List (List X) → List (List X)
  with_all k xs queues = slice_set queues k (queue_at k queues ++ xs)

  -- queues with one more at the end of a session's
  abbrev pub with_last : ℕ → X → List (List X) → List (List X)
  with_last k x queues = slice_set queues k (queue_at k queues ++ x ∷ [])

  -- queues without the first of a session's
  abbrev pub without_first : ℕ → List (List X) → List (List X)
  without_first k queues = slice_set queues k (drop 1 (queue_at k queues))

  -- queues of which a session's is empty
  abbrev pub emptied : ℕ → List (List X) → List (List X)
  emptied k queues = slice_set queues k []
