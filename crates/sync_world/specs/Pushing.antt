-- What a client pushes once more is pending.
use Rattle.std.specs.Prelude.{ℕ, nat_lt, length, if◌then◌else◌}
use Rattle.room_model.specs.Replicas.{Client, Pushing, push_all, push_none}

-- a client pushes all that it can, if more is pending than so many
abbrev pub push_more : ℕ → Client → Pushing
push_more owed client = if nat_lt owed (length client.pending) then push_all client else push_none client
