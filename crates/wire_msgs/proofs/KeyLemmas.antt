-- What a map says of its type and its keys.
use Rattle.std.proofs.Common.{◌≡◌, ℕ, List, true, false, if◌then◌else◌, codes, Option, Some, None, option_and_then, ap, ◌∙◌}
use Rattle.rooms_val.specs.Data.{Pairs, map, members_of}
use Rattle.rooms_val.specs.Kinds.{as_text}
use Rattle.rooms_val.specs.Maps.{value_at}
use Rattle.rooms_val.proofs.DataLemmas.{pairs_of-members_of}
use Rattle.wire_msgs.specs.Keys.{keys_fault, lacks_one, has_other}
use Rattle.wire_msgs.specs.Readings.{type_in, IsOfType}
use Rattle.wire_msgs.specs.Types.{Keys}
use Rattle.wire_msgs.specs.declared.fault.MsgFault.{MsgFault}
use Rattle.wire_msgs.specs.declared.fault.MsgFault.TheVariants as fault

-- the type that a map says is the text under `type`
pub says_in : (ps : Pairs) → type_in (map (members_of ps)) ≡ option_and_then as_text (value_at ps (codes "type"))
says_in ps = ap (λ q. option_and_then as_text (value_at q (codes "type"))) (pairs_of-members_of ps)

pub of_type : (ps : Pairs) (word : List ℕ) (keys : Keys) (f : Option MsgFault) → type_in (map (members_of ps)) ≡ Some word → keys_fault keys ps ≡ f
    → IsOfType (map (members_of ps)) word keys f
of_type ps word keys f says is = record { says = says; has = ap (keys_fault keys) (pairs_of-members_of ps) ∙ is }

-- the fault of keys is a missing field or an extra one
pub not_other : (keys : Keys) (ps : Pairs) (f : MsgFault) → keys_fault keys ps ≡ Some f → ¬ (fault.MissingField ≡ f) → ¬ (fault.ExtraField ≡ f) → ⊥
not_other keys ps f is missing extra = elim (lacks_one keys.wanted ps) as (λ b.
    (if b then Some fault.MissingField else if has_other keys.wanted keys.allowed ps then Some fault.ExtraField else None) ≡ Some f → ⊥) [
      | true ↦ λ e. missing (let same : fault.MissingField ≡ f = cc in same)
      | false ↦ λ e. elim (has_other keys.wanted keys.allowed ps) as (λ b. (if b then Some fault.ExtraField else None) ≡ Some f → ⊥) [
        | true ↦ λ e. extra (let same : fault.ExtraField ≡ f = cc in same)
        | false ↦ λ e. let no : None ≡ Some f = e in cc
      ] e
    ] is
