-- What a patch left of an admitted record is admitted where it fits and is light, and the patch names neither id nor type.
use Rattle.std.proofs.Common.{◌≡◌, ℕ, ◌≤◌, Bool, true, false, ◌&&◌, cond, List, [], ◌∷◌, Option, Some, None, option_and_then, Result, Ok, Err, is_ok, refl, sym, ap, subst, ◌∙◌}
use Rattle.std.specs.Prelude.{◌↔◌, nat_le, IsSomeAnd, codes}
use Rattle.std.specs.Option.{option_map_or}
use Rattle.rooms_val.specs.Data.{Data, null, boolean, whole, text, list, map, pairs_of}
use Rattle.rooms_val.specs.Kinds.{field, as_text, on_map}
use Rattle.rooms_val.specs.Maps.{value_at}
use Rattle.rooms_val.specs.Weight.{weight}
use Rattle.rooms_val.proofs.DataLemmas.{pairs_of-members_of}
use Rattle.field_ops.specs.ValueOps.{Patch, edits_of}
use Rattle.field_ops.specs.Patched.{patched, value_after}
use Rattle.field_ops.proofs.PatchedLemmas.{at-patched}
use Rattle.record_valid.specs.Ids.{type_part, IsIdOf}
use Rattle.record_valid.specs.Fits.{Fits}
use Rattle.record_valid.specs.Faults as check
use Rattle.record_valid.specs.declared.reject.Reject.{Reject}
use Rattle.migrate_steps.specs.Records.{has_text}
use Rattle.schema_core.specs.Tree.{TypeTree, SchemaTree}
use Rattle.schema_core.specs.Admits.{type_of, admission_by, admission, IsAdmitted}
use Rattle.schema_core.specs.declared.row.Scope.{Scope}
use Rattle.schema_core.specs.declared.fault.RecordFault.{RecordFault}
use Rattle.schema_core.specs.declared.fault.RecordFault.TheVariants.{BadId, UnknownType, Rejected, TooHeavy}
use Rattle.schema_core.specs.declared.schema.TheConstants.{GREATEST_WEIGHT}
use Rattle.schema_core.proofs.AdmitsLemmas.{law}

-- the value after a patch
abbrev pub left_by : Patch → Data → Data
left_by patch d = on_map (λ f. patched (edits_of patch) f) d

-- a key that the patch doesn't name stays
unnamed : (patch : Patch) (d : Data) (k : List ℕ) → value_at patch k ≡ None → field (left_by patch d) k ≡ field d k
unnamed patch null k none = refl
unnamed patch (boolean b) k none = refl
unnamed patch (whole z) k none = refl
unnamed patch (text t) k none = refl
unnamed patch (list ds) k none = refl
unnamed patch (map ms) k none =
    ap (λ ps. value_at ps k) (pairs_of-members_of (patched (edits_of patch) (pairs_of ms)))
    ∙ at-patched patch (pairs_of ms) k
    ∙ ap (λ o. value_after o (value_at (pairs_of ms) k)) none

scope_by : (fault : Option Reject) (light : Bool) (scope : Scope) → is_ok (option_map_or (λ r. Err (Rejected r)) fault (cond light (Ok scope) (Err TooHeavy))) ≡ true
    → option_map_or (λ r. Err (Rejected r)) fault (cond light (Ok scope) (Err TooHeavy)) ≡ Ok scope
scope_by None true scope ok = refl
scope_by None false scope ok = (cc)
scope_by (Some r) light scope ok = (cc)

module _ (id : List ℕ) (d : Data) (look : List ℕ → Option TypeTree) where
  abbrev answer : Option (List ℕ) → Result Scope RecordFault
  answer name = option_map_or (λ x. option_map_or (admission_by d) (look x) (Err UnknownType)) name (Err BadId)

  scope_found : (part : Option (List ℕ)) (own type : Option Data) (t : TypeTree) → option_and_then look part ≡ Some t
      → is_ok (answer (option_and_then (λ name. cond (has_text id own && has_text name type) (Some name) None) part)) ≡ true
      → answer (option_and_then (λ name. cond (has_text id own && has_text name type) (Some name) None) part) ≡ Ok t.scope
  scope_found None own type t is ok = (cc)
  scope_found (Some name) own type t is ok =
      elim (has_text id own && has_text name type) as (λ b. is_ok (answer (cond b (Some name) None)) ≡ true → answer (cond b (Some name) None) ≡ Ok t.scope) [
        | true ↦ subst (λ o. is_ok (option_map_or (admission_by d) o (Err UnknownType)) ≡ true → option_map_or (admission_by d) o (Err UnknownType) ≡ Ok t.scope) (sym is) (scope_by (check.first_fault 0 None t.check d) (nat_le (weight d) GREATEST_WEIGHT) t.scope)
        | false ↦ λ h. (cc)
      ] ok

-- what was left is admitted, with the scope of its type
pub patched_law : (s : SchemaTree) (id : List ℕ) (before : Data) (patch : Patch) (t : TypeTree) → type_of s id ≡ Some t → IsAdmitted s id before
    → value_at patch (codes "id") ≡ None → value_at patch (codes "typeName") ≡ None
    → Fits None t.check (left_by patch before) → weight (left_by patch before) ≤ GREATEST_WEIGHT
    → admission s id (left_by patch before) ≡ Ok t.scope
patched_law s id before patch t is admitted own named fits light =
    let left = left_by patch before in
    let same = unnamed patch before (codes "id") own in
    let type = unnamed patch before (codes "typeName") named in
    scope_found id left (value_at s.types) (type_part id) (field left (codes "id")) (field left (codes "typeName")) t is
    ((law s id left).1 (record {
      own = same ∙ admitted.own;
      typed = subst (λ o. IsSomeAnd (option_and_then as_text o) (λ name. IsIdOf (name ∷ []) id)) (sym type) admitted.typed;
      fits = subst (λ o. IsSomeAnd o (λ u. Fits None u.check left)) (sym is) fits;
      light = light;
    }))

-- a record of the type fits its check
pub fitted : (s : SchemaTree) (id : List ℕ) (d : Data) (t : TypeTree) → type_of s id ≡ Some t → IsAdmitted s id d → Fits None t.check d
fitted s id d t is admitted = subst (λ o. IsSomeAnd o (λ u. Fits None u.check d)) is admitted.fits
