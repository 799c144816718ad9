-- What is copied of what a peer shows, and what is pasted into it.
use Rattle.std.specs.Prelude.{◌≡◌, ℕ, List, Result, Ok, Err}
use Rattle.field_ops.specs.RecordOps.{RecordOps}
use Rattle.room_model.specs.Clips.{ClipTree}
use Rattle.room_model.specs.Schemas.{WorldSchemas}
use Rattle.room_model.specs.declared.clip_fault.ClipFault.{ClipFault}
use Rattle.room_model.specs.declared.clip_fault.PasteFault.{PasteFault}
use Rattle.clip_content.specs.Copied.{taken}
use Rattle.clip_content.specs.Pasted.{pasted}
use Rattle.clip_content.specs.View.{clip_tree, target_tree}
use Rattle.clip_content.specs.declared.clip.Clip.{Clip}
use Rattle.clip_content.specs.declared.target.Target.{Target}
use Rattle.side_effects.specs.declared.fault.EditFault.{EditFault}
use Rattle.sync_client.specs.Calls.{ClientState}
use Rattle.sync_peer.specs.Calls.{shown}
use Rattle.sync_peer.specs.Standing.{Stands}
use Rattle.sync_peer.specs.declared.peer.Peer.{Peer}

-- a clip as the definitions have it, or the fault
abbrev pub clip_or_fault : Result Clip ClipFault → Result ClipTree ClipFault
clip_or_fault (Ok clip) = Ok (clip_tree clip)
clip_or_fault (Err fault) = Err fault

-- the copy of these shapes of what a peer shows, or why there is none
abbrev pub IsCopyOf : Peer → List (List ℕ) → Result Clip ClipFault → Type 0
IsCopyOf peer ids copied = (schemas : WorldSchemas EditFault) (state : ClientState) → Stands schemas state peer
    → taken (shown schemas state) ids ≡ clip_or_fault copied

-- the diff that pastes a clip into what a peer shows, or why there is none
abbrev pub IsPasteOf : Clip → Peer → Target → Result RecordOps PasteFault → Type 0
IsPasteOf clip peer target diff = (schemas : WorldSchemas EditFault) (state : ClientState) → Stands schemas state peer
    → pasted (clip_tree clip) (shown schemas state) (target_tree target) ≡ diff
