-- A text that stands for a message is read as it.
use Rattle.std.proofs.Common.{◌≡◌, ℕ, List, Some, None, Result, Ok, Err, IfOk, IfErr, MatchResult, refl, sym, ap, ◌∙◌, option_and_then}
use Rattle.rooms_val.proofs.Truths.{one_ok, ok_not_err}
use Rattle.rooms_val.specs.Data.{Data}
use Rattle.rooms_val.specs.Kinds.{as_map}
use Rattle.rooms_val.proofs.DataLemmas.{pairs_of-members_of}
use Rattle.sync_msgs.specs.declared.client_message.ClientMessage.{ClientMessage}
use Rattle.sync_msgs.specs.declared.server_message.ServerMessage.{ServerMessage}
use Rattle.wire_msgs.specs.Keys.{keys_fault}
use Rattle.wire_msgs.specs.Messages.{client_fields, client_val, server_fields, server_val}
use Rattle.wire_msgs.specs.Readings.{type_in, IsOfClientType, IsOfServerType, IsClient, IsServer, RefusesClient, RefusesServer}
use Rattle.wire_msgs.specs.Types.{client_keys, server_keys}
use Rattle.wire_msgs.specs.declared.fault.MsgFault.{MsgFault}
use Rattle.wire_msgs.specs.declared.fault.MsgFault.TheVariants as fault
use Rattle.wire_msgs.proofs.ClientLemmas as clients
use Rattle.wire_msgs.proofs.OneEachLemmas.{one_client, one_server}
use Rattle.wire_msgs.proofs.ServerLemmas as servers

-- the value of a message has no fault in its keys
no_client_fault : (d : Data) (m : ClientMessage) (f : MsgFault) → d ≡ client_val m → ¬ IsOfClientType d (Some f)
no_client_fault d m f is at =
    let kind = clients.one_type at.0 (clients.type_of m) (sym at.1.says ∙ ap type_in is ∙ clients.says m) in
    let none = ap (λ k. keys_fault (client_keys k) (client_fields m)) kind ∙ clients.has_its_keys m in
    let it : Some f ≡ None = sym at.1.has ∙ ap (λ x. option_and_then (keys_fault (client_keys at.0)) (as_map x)) is ∙ ap (keys_fault (client_keys at.0)) (pairs_of-members_of (client_fields m)) ∙ none in
    cc

no_server_fault : (d : Data) (m : ServerMessage) (f : MsgFault) → d ≡ server_val m → ¬ IsOfServerType d (Some f)
no_server_fault d m f is at =
    let kind = servers.one_type at.0 (servers.type_of m) (sym at.1.says ∙ ap type_in is ∙ servers.says m) in
    let none = ap (λ k. keys_fault (server_keys k) (server_fields m)) kind ∙ servers.has_its_keys m in
    let it : Some f ≡ None = sym at.1.has ∙ ap (λ x. option_and_then (keys_fault (server_keys at.0)) (as_map x)) is ∙ ap (keys_fault (server_keys at.0)) (pairs_of-members_of (server_fields m)) ∙ none in
    cc

pub reads_client : (bytes : List ℕ) (r : Result ClientMessage MsgFault) → IfOk r (IsClient bytes) → IfErr r (RefusesClient bytes)
    → (m : ClientMessage) → IsClient bytes m → MatchResult r (λ x. x ≡ m) (λ f. f ≡ fault.OutOfMemory)
reads_client bytes (Ok x) found refused m is = one_client x m (one_ok _ _ _ found.0 is.0)
reads_client bytes (Err (fault.Val f)) found refused m is = ok_not_err _ _ _ is.0 refused
reads_client bytes (Err fault.UnknownType) found refused m is =
    absurd (refused.2 (clients.type_of m) (ap type_in (one_ok _ _ _ refused.1 is.0) ∙ clients.says m))
reads_client bytes (Err fault.MissingField) found refused m is = absurd (no_client_fault refused.0 m _ (one_ok _ _ _ refused.1 is.0) refused.2)
reads_client bytes (Err fault.ExtraField) found refused m is = absurd (no_client_fault refused.0 m _ (one_ok _ _ _ refused.1 is.0) refused.2)
reads_client bytes (Err fault.WrongKind) found refused m is = absurd (refused.2.1 m is.1 (one_ok _ _ _ refused.1 is.0))
reads_client bytes (Err fault.OutOfMemory) found refused m is = refl

pub reads_server : (bytes : List ℕ) (r : Result ServerMessage MsgFault) → IfOk r (IsServer bytes) → IfErr r (RefusesServer bytes)
    → (m : ServerMessage) → IsServer bytes m → MatchResult r (λ x. x ≡ m) (λ f. f ≡ fault.OutOfMemory)
reads_server bytes (Ok x) found refused m is = one_server x m (one_ok _ _ _ found.0 is.0)
reads_server bytes (Err (fault.Val f)) found refused m is = ok_not_err _ _ _ is.0 refused
reads_server bytes (Err fault.UnknownType) found refused m is =
    absurd (refused.2 (servers.type_of m) (ap type_in (one_ok _ _ _ refused.1 is.0) ∙ servers.says m))
reads_server bytes (Err fault.MissingField) found refused m is = absurd (no_server_fault refused.0 m _ (one_ok _ _ _ refused.1 is.0) refused.2)
reads_server bytes (Err fault.ExtraField) found refused m is = absurd (no_server_fault refused.0 m _ (one_ok _ _ _ refused.1 is.0) refused.2)
reads_server bytes (Err fault.WrongKind) found refused m is = absurd (refused.2.1 m is.1 (one_ok _ _ _ refused.1 is.0))
reads_server bytes (Err fault.OutOfMemory) found refused m is = refl
