-- For which of `room_model`'s clients, with which base, a client of the code stands.
use Rattle.std.specs.Prelude.{◌≡◌, ◌≤◌, suc, ◌-◌, length, map, false}
use Rattle.rooms_val.specs.Data.{Pairs}
use Rattle.field_ops.specs.View.{maybe_data}
use Rattle.room_model.specs.Replicas.{is_open, all_unsent, edit, pending_diffs}
use Rattle.client_replica.specs.Works.{work_of}
use Rattle.client_replica.specs.Standing as replica
use Rattle.sync_client.specs.Numbers.{numbered}
use Rattle.sync_client.specs.Calls.{ClientState, replica_of}
use Rattle.sync_client.specs.declared.client.SyncClient.{SyncClient}

module _ {D : Type 0} where
  -- a client stands for a client of the model with its base, if this says which records a store has; of marks and versions it
  -- knows nothing
  pub record Stands (records : D → Pairs) (state : ClientState) (c : SyncClient D) : Type 0 where
    pub replica : replica.Stands records (replica_of state) c.replica
    pub connection : c.connection ≡ state.client.connection
    pub reached : c.reached ≡ state.client.reached
    pub presence : maybe_data c.presence ≡ state.client.presence
    pub refused : c.refused ≡ state.client.refused
    pub pushes : c.counts.pushes ≡ state.client.pushes
    -- the first of the pending works were sent, in turn, the last of them by the last push
    pub pending : state.client.pending ≡ numbered (suc (c.counts.pushes - c.counts.sent)) c.counts.sent (map work_of c.replica.works.items)
    pub sent : c.counts.sent ≤ length c.replica.works.items
    -- without a connection there are edits alone, and none was sent
    pub closed : is_open state.client.connection ≡ false → state.client.pending ≡ all_unsent (map edit (pending_diffs state.client))
