-- Which type a client's message has, and why a value is that of none.
use Rattle.std.proofs.Common.{◌≡◌, ℕ, if◌then◌else◌, List, codes, Some, None, refl, sym, ap, subst, ◌∙◌}
use Rattle.std.specs.Str.{bytes_eq}
use Rattle.rooms_val.specs.Data.{Data, Pairs, map, members_of}
use Rattle.field_ops.proofs.WireLemmas.{same_map}
use Rattle.sync_msgs.specs.declared.client_message.ClientMessage.{ClientMessage}
use Rattle.sync_msgs.specs.declared.client_message.ClientMessage.TheVariants as client
use Rattle.wire_msgs.specs.Keys.{keys_fault}
use Rattle.wire_msgs.specs.Messages.{client_fields, client_val, IsProperClient}
use Rattle.wire_msgs.specs.Readings.{type_in, IsNoClient, RefusesClientVal}
use Rattle.wire_msgs.specs.Rows.{IsOfNoClient}
use Rattle.wire_msgs.specs.Types.{client_word, client_keys}
use Rattle.wire_msgs.specs.declared.fault.MsgFault.{MsgFault}
use Rattle.wire_msgs.specs.declared.fault.MsgFault.TheVariants as fault
use Rattle.wire_msgs.specs.declared.types.ClientType.{ClientType}
use Rattle.wire_msgs.specs.declared.types.ClientType.TheVariants as from_client
use Rattle.wire_msgs.proofs.KeyLemmas.{of_type, not_other}

abbrev pub type_of : ClientMessage → ClientType
type_of (client.Connect request clock version schema) = from_client.Connect
type_of (client.Push clock diff presence) = from_client.Push
type_of client.Ping = from_client.Ping

-- each message's value says its type
pub says : (m : ClientMessage) → type_in (client_val m) ≡ Some (client_word (type_of m))
says (client.Connect request clock version schema) = refl
says (client.Push clock None None) = refl
says (client.Push clock None (Some p)) = refl
says (client.Push clock (Some d) None) = refl
says (client.Push clock (Some d) (Some p)) = refl
says client.Ping = refl

-- each message's value has the keys of its type
pub has_its_keys : (m : ClientMessage) → keys_fault (client_keys (type_of m)) (client_fields m) ≡ None
has_its_keys (client.Connect request clock version schema) = refl
has_its_keys (client.Push clock None None) = refl
has_its_keys (client.Push clock None (Some p)) = refl
has_its_keys (client.Push clock (Some d) None) = refl
has_its_keys (client.Push clock (Some d) (Some p)) = refl
has_its_keys client.Ping = refl

-- the type of a text; a ping's where it is that of none
abbrev named : List ℕ → ClientType
named word = if bytes_eq word (codes "connect") then from_client.Connect else if bytes_eq word (codes "push") then from_client.Push else from_client.Ping

named-client_word : (kind : ClientType) → named (client_word kind) ≡ kind
named-client_word from_client.Connect = refl
named-client_word from_client.Push = refl
named-client_word from_client.Ping = refl

-- two types have two texts
pub one_type : (a b : ClientType) → Some (client_word a) ≡ Some (client_word b) → a ≡ b
one_type a b is = let same : client_word a ≡ client_word b = cc in sym (named-client_word a) ∙ ap named same ∙ named-client_word b

-- a value without a type, or with another one, has none of these
pub no_type : (d : Data) → type_in d ≡ None → (kind : ClientType) → ¬ (type_in d ≡ Some (client_word kind))
no_type d none kind is = let it : None ≡ Some (client_word kind) = sym none ∙ is in cc

pub other_type : (d : Data) (word : List ℕ) → type_in d ≡ Some word → ((kind : ClientType) → ¬ (word ≡ client_word kind)) → (kind : ClientType) → ¬ (type_in d ≡ Some (client_word kind))
other_type d word says_word other kind is =
    let it : Some word ≡ Some (client_word kind) = sym says_word ∙ is in
    other kind (let same : word ≡ client_word kind = cc in same)

none_of : (ps : Pairs) (m : ClientMessage) → IsOfNoClient (type_of m) ps → IsProperClient m → ¬ (ps ≡ client_fields m)
none_of ps (client.Connect request clock version schema) none proper is = none request clock version schema is
none_of ps (client.Push clock diff presence) none proper is = none clock diff presence proper is
none_of ps client.Ping none proper is = none is

-- a map that says a type, and isn't one of its messages, is that of none
pub says_no_message : (ps : Pairs) (kind : ClientType) → type_in (map (members_of ps)) ≡ Some (client_word kind) → IsOfNoClient kind ps → IsNoClient (map (members_of ps))
says_no_message ps kind says_kind none m proper is =
    let it = one_type kind (type_of m) (sym says_kind ∙ ap type_in is ∙ says m) in
    none_of ps m (subst (λ k. IsOfNoClient k ps) it none) proper (same_map ps (client_fields m) is)

-- a map whose keys are at fault is refused for it
pub refuses_keys : (ps : Pairs) (kind : ClientType) (f : MsgFault) → type_in (map (members_of ps)) ≡ Some (client_word kind)
    → keys_fault (client_keys kind) ps ≡ Some f → RefusesClientVal (map (members_of ps)) f
refuses_keys ps kind fault.MissingField says_kind is = (kind, of_type ps _ (client_keys kind) _ says_kind is)
refuses_keys ps kind fault.ExtraField says_kind is = (kind, of_type ps _ (client_keys kind) _ says_kind is)
refuses_keys ps kind (fault.Val f) says_kind is = absurd (not_other (client_keys kind) ps _ is (λ e. cc) (λ e. cc))
refuses_keys ps kind fault.UnknownType says_kind is = absurd (not_other (client_keys kind) ps _ is (λ e. cc) (λ e. cc))
refuses_keys ps kind fault.WrongKind says_kind is = absurd (not_other (client_keys kind) ps _ is (λ e. cc) (λ e. cc))
refuses_keys ps kind fault.OutOfMemory says_kind is = absurd (not_other (client_keys kind) ps _ is (λ e. cc) (λ e. cc))

-- a map with the keys of its type that isn't one of its messages is refused as of the wrong kind
pub refuses_fields : (ps : Pairs) (kind : ClientType) → type_in (map (members_of ps)) ≡ Some (client_word kind)
    → keys_fault (client_keys kind) ps ≡ None → IsOfNoClient kind ps → RefusesClientVal (map (members_of ps)) fault.WrongKind
refuses_fields ps kind says_kind is none = ((kind, of_type ps _ (client_keys kind) _ says_kind is), says_no_message ps kind says_kind none)
