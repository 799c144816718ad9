-- Which type a room's message has, and why a value is that of none.
use Rattle.std.proofs.Common.{◌≡◌, ℕ, if◌then◌else◌, List, codes, Some, None, refl, sym, ap, subst, ◌∙◌}
use Rattle.std.specs.Str.{bytes_eq}
use Rattle.rooms_val.specs.Data.{Data, Pairs, map, members_of}
use Rattle.field_ops.proofs.WireLemmas.{same_map}
use Rattle.sync_msgs.specs.declared.server_message.ServerMessage.{ServerMessage}
use Rattle.sync_msgs.specs.declared.server_message.ServerMessage.TheVariants as server
use Rattle.wire_msgs.specs.Keys.{keys_fault}
use Rattle.wire_msgs.specs.Messages.{server_fields, server_val, IsProperServer}
use Rattle.wire_msgs.specs.Readings.{type_in, IsNoServer, RefusesServerVal}
use Rattle.wire_msgs.specs.Rows.{IsOfNoServer}
use Rattle.wire_msgs.specs.Types.{server_word, server_keys}
use Rattle.wire_msgs.specs.declared.fault.MsgFault.{MsgFault}
use Rattle.wire_msgs.specs.declared.fault.MsgFault.TheVariants as fault
use Rattle.wire_msgs.specs.declared.types.ServerType.{ServerType}
use Rattle.wire_msgs.specs.declared.types.ServerType.TheVariants as from_server
use Rattle.wire_msgs.proofs.KeyLemmas.{of_type, not_other}

abbrev pub type_of : ServerMessage → ServerType
type_of (server.Connect keeps request version schema diff clock readonly) = from_server.Connect
type_of (server.Data events) = from_server.Data
type_of server.Pong = from_server.Pong

-- each message's value says its type
pub says : (m : ServerMessage) → type_in (server_val m) ≡ Some (server_word (type_of m))
says (server.Connect keeps request version schema diff clock readonly) = refl
says (server.Data events) = refl
says server.Pong = refl

-- each message's value has the keys of its type
pub has_its_keys : (m : ServerMessage) → keys_fault (server_keys (type_of m)) (server_fields m) ≡ None
has_its_keys (server.Connect keeps request version schema diff clock readonly) = refl
has_its_keys (server.Data events) = refl
has_its_keys server.Pong = refl

-- the type of a text; a pong's where it is that of none
abbrev named : List ℕ → ServerType
named word = if bytes_eq word (codes "connect") then from_server.Connect else if bytes_eq word (codes "data") then from_server.Data else from_server.Pong

named-server_word : (kind : ServerType) → named (server_word kind) ≡ kind
named-server_word from_server.Connect = refl
named-server_word from_server.Data = refl
named-server_word from_server.Pong = refl

-- two types have two texts
pub one_type : (a b : ServerType) → Some (server_word a) ≡ Some (server_word b) → a ≡ b
one_type a b is = let same : server_word a ≡ server_word b = cc in sym (named-server_word a) ∙ ap named same ∙ named-server_word b

-- a value without a type, or with another one, has none of these
pub no_type : (d : Data) → type_in d ≡ None → (kind : ServerType) → ¬ (type_in d ≡ Some (server_word kind))
no_type d none kind is = let it : None ≡ Some (server_word kind) = sym none ∙ is in cc

pub other_type : (d : Data) (word : List ℕ) → type_in d ≡ Some word → ((kind : ServerType) → ¬ (word ≡ server_word kind)) → (kind : ServerType) → ¬ (type_in d ≡ Some (server_word kind))
other_type d word says_word other kind is =
    let it : Some word ≡ Some (server_word kind) = sym says_word ∙ is in
    other kind (let same : word ≡ server_word kind = cc in same)

none_of : (ps : Pairs) (m : ServerMessage) → IsOfNoServer (type_of m) ps → IsProperServer m → ¬ (ps ≡ server_fields m)
none_of ps (server.Connect keeps request version schema diff clock readonly) none proper is = none keeps request version schema diff clock readonly proper is
none_of ps (server.Data events) none proper is = none events proper is
none_of ps server.Pong none proper is = none is

-- a map that says a type, and isn't one of its messages, is that of none
pub says_no_message : (ps : Pairs) (kind : ServerType) → type_in (map (members_of ps)) ≡ Some (server_word kind) → IsOfNoServer kind ps → IsNoServer (map (members_of ps))
says_no_message ps kind says_kind none m proper is =
    let it = one_type kind (type_of m) (sym says_kind ∙ ap type_in is ∙ says m) in
    none_of ps m (subst (λ k. IsOfNoServer k ps) it none) proper (same_map ps (server_fields m) is)

-- a map whose keys are at fault is refused for it
pub refuses_keys : (ps : Pairs) (kind : ServerType) (f : MsgFault) → type_in (map (members_of ps)) ≡ Some (server_word kind)
    → keys_fault (server_keys kind) ps ≡ Some f → RefusesServerVal (map (members_of ps)) f
refuses_keys ps kind fault.MissingField says_kind is = (kind, of_type ps _ (server_keys kind) _ says_kind is)
refuses_keys ps kind fault.ExtraField says_kind is = (kind, of_type ps _ (server_keys kind) _ says_kind is)
refuses_keys ps kind (fault.Val f) says_kind is = absurd (not_other (server_keys kind) ps _ is (λ e. cc) (λ e. cc))
refuses_keys ps kind fault.UnknownType says_kind is = absurd (not_other (server_keys kind) ps _ is (λ e. cc) (λ e. cc))
refuses_keys ps kind fault.WrongKind says_kind is = absurd (not_other (server_keys kind) ps _ is (λ e. cc) (λ e. cc))
refuses_keys ps kind fault.OutOfMemory says_kind is = absurd (not_other (server_keys kind) ps _ is (λ e. cc) (λ e. cc))

-- a map with the keys of its type that isn't one of its messages is refused as of the wrong kind
pub refuses_fields : (ps : Pairs) (kind : ServerType) → type_in (map (members_of ps)) ≡ Some (server_word kind)
    → keys_fault (server_keys kind) ps ≡ None → IsOfNoServer kind ps → RefusesServerVal (map (members_of ps)) fault.WrongKind
refuses_fields ps kind says_kind is none = ((kind, of_type ps _ (server_keys kind) _ says_kind is), says_no_message ps kind says_kind none)
