-- What comes next to a client is due.
use Rattle.std.proofs.Common.{◌≡◌, ℕ, pos, List, ◌∷◌, slice_get, Option, Some, None, sym, ap, subst, ◌∙◌, ℤ}
use Rattle.std.proofs.lemmas.Option.{slice_get-get_or}
use Rattle.std.specs.Prelude.{get_or, false}
use Rattle.room_model.specs.Schemas.{WorldSchemas}
use Rattle.room_model.specs.Rooms.{gone, Session, Notice, snapshot_at, updates_between, pong, end}
use Rattle.room_model.specs.Replicas.{Client, session_of}
use Rattle.room_model.specs.Worlds.{Channel, World}
use Rattle.room_model.specs.declared.connection.Connection.{Connection}
use Rattle.room_model.specs.declared.connection.Connection.TheVariants.{Off, Asking, Open}
use Rattle.world_laws.specs.Reachable.{ReachableWorld}
use Rattle.world_laws.specs.Channels.{Lead, IsAt, IsDue}
use Rattle.world_laws.proofs.SessionLemmas.{sessions_stand}
use Rattle.world_laws.proofs.DownLemmas.{sent_stand}

-- a client that waits for its answer
pub waits : (x : Connection) (k : ℕ) (reached : ℤ) → session_of x ≡ Some k → IsAt x reached None → x ≡ Asking k
waits Off k reached has at = absurd (cc)
waits (Asking j) k reached has at = let same : j ≡ k = cc in ap Asking same
waits (Open j) k reached has at = absurd (let no = at.2 in cc)

-- a client that is connected at a clock
open_at : (x : Connection) (k : ℕ) (reached : ℤ) (from : ℕ) → session_of x ≡ Some k → IsAt x reached (Some from) → (x ≡ Open k) × (reached ≡ pos from)
open_at Off k reached from has at = absurd (cc)
open_at (Asking j) k reached from has at = absurd (cc)
open_at (Open j) k reached from has at =
    let same : j ≡ k = cc in
    let some = at.2 in
    let it : from ≡ at.0 = cc in
    (ap Open same, at.1 ∙ ap pos (sym it))

due : (c : Client) (k : ℕ) (place : Option ℕ) (notice : Notice) (notices : List Notice) (last : Option ℕ) → session_of c.connection ≡ Some k
    → IsAt c.connection c.reached place → Lead place (notice ∷ notices) last → IsDue c k notice
due c k None (snapshot_at clock) notices last has at h = waits c.connection k c.reached has at
due c k (Some r) (snapshot_at clock) notices last has at h = absurd h
due c k None (updates_between from to) notices last has at h = absurd h
due c k (Some r) (updates_between from to) notices last has at h =
    let o = open_at c.connection k c.reached from has (subst (λ r. IsAt c.connection c.reached (Some r)) (sym h.0) at) in
    (o.0, o.1, h.1)
due c k place pong notices last has at h = tt
due c k place (end reason) notices last has at h = tt

pub next_due : {F : Type 0} (schemas : WorldSchemas F) (w : World) (n k : ℕ) (c : Client) (channel : Channel) (notice : Notice) (notices : List Notice) → ReachableWorld schemas w
    → slice_get w.clients n ≡ Some c → session_of c.connection ≡ Some k → slice_get w.channels k ≡ Some channel → channel.to_client ≡ notice ∷ notices → IsDue c k notice
next_due schemas w n k c channel notice notices made at has there first =
    let less = (sessions_stand schemas w made).entered n k (record { client = c; made = at; has = has }) in
    let d : Session = record { readonly = false; pings = 0; phase = gone } in
    let h = sent_stand schemas w made n k c (get_or w.room.sessions k d) channel at has (slice_get-get_or w.room.sessions k d less) there in
    due c k h.place notice notices h.last has h.at (subst (λ ns. Lead h.place ns h.last) first h.leads)
