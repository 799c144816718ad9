-- The store stays, and what was pushed so far, and what is still pushed from here on, is all that the client pushes.
use Rattle.std.specs.Prelude.{◌≡◌, ◌-◌}
use Rattle.room_model.specs.Schemas.{WorldSchemas}
use Rattle.side_effects.specs.declared.fault.EditFault.{EditFault}
use Rattle.sync_client.specs.Calls.{ClientState}
use Rattle.sync_peer.specs.Standing as peer_of
use Rattle.sync_peer.specs.Viewing.{store_of}
use Rattle.room_join.proofs.PushingLemmas.{IsPushing}
use Rattle.room_join.proofs.joiner.say_pushes.Given as goal

abbrev pub invariant-pushes : goal.invariant-pushes
invariant-pushes l =
    (store_of l.peer ≡ store_of l.fn.peer)
    × ((schemas : WorldSchemas EditFault) (state : ClientState) → peer_of.Stands schemas state l.fn.peer
    → IsPushing schemas state l.owed (l.owed - l.counter) l.said.items l.peer)
