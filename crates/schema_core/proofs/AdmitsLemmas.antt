-- None of the four refusals applies exactly where the record is admitted.
use Rattle.std.proofs.Common.{◌≡◌, ℕ, zero, suc, ◌<◌, ◌≤◌, Bool, true, false, ◌&&◌, cond, List, [], ◌∷◌, get_or, Option, Some, None, option_and_then, Err, Ok, is_ok, refl, ap, arith}
use Rattle.std.specs.Prelude.{◌↔◌, nat_le, Contains, IsSomeAnd, codes}
use Rattle.std.specs.Option.{option_map_or}
use Rattle.std.proofs.lemmas.Bool.{leb-true, le-leb}
use Rattle.std.proofs.lemmas.Slice.Eq.{bytes_eq-Decides}
use Rattle.rooms_val.specs.Data.{Data, null, boolean, whole, text, list, map}
use Rattle.rooms_val.specs.Kinds.{field, as_text}
use Rattle.rooms_val.specs.Weight.{weight}
use Rattle.record_valid.specs.Ids.{type_part}
use Rattle.record_valid.specs.Fits.{Fits}
use Rattle.record_valid.specs.Faults as check
use Rattle.record_valid.specs.declared.reject.Reject.{Reject}
use Rattle.record_valid.proofs.FitsLemmas as checks
use Rattle.migrate_steps.specs.Records.{has_text}
use Rattle.schema_core.specs.Tree.{TypeTree, SchemaTree}
use Rattle.rooms_val.specs.Maps.{value_at}
use Rattle.schema_core.specs.Admits.{admission_by, admission, IsAdmitted}
use Rattle.schema_core.specs.declared.row.Scope.{Scope}
use Rattle.schema_core.specs.declared.fault.RecordFault.TheVariants.{BadId, UnknownType, Rejected, TooHeavy}
use Rattle.schema_core.specs.declared.schema.TheConstants.{GREATEST_WEIGHT}

text_law : (t : List ℕ) (o : Option Data) → (has_text t o ≡ true) ↔ (o ≡ Some (text t))
text_law t None = (λ h. (cc), λ h. (cc))
text_law t (Some null) = (λ h. (cc), λ h. (cc))
text_law t (Some (boolean b)) = (λ h. (cc), λ h. (cc))
text_law t (Some (whole z)) = (λ h. (cc), λ h. (cc))
text_law t (Some (text u)) = (λ h. ap (λ v. Some (text v)) ((bytes_eq-Decides u t).0 h), λ h. (bytes_eq-Decides u t).1 (cc))
text_law t (Some (list ds)) = (λ h. (cc), λ h. (cc))
text_law t (Some (map ms)) = (λ h. (cc), λ h. (cc))

-- a list of one contains that one alone
the_one : (x y : List ℕ) (k : ℕ) → k < 1 → get_or (x ∷ []) k y ≡ y → x ≡ y
the_one x y zero within is = is
the_one x y (suc k) within is = absurd (omega arith)

one_law : (x y : List ℕ) → Contains (x ∷ []) y ↔ (x ≡ y)
one_law x y = (λ h. the_one x y h.0 h.1 h.2, λ is. (0, omega arith, is))

name_law : (name : List ℕ) (o : Option Data) → (has_text name o ≡ true) ↔ IsSomeAnd (option_and_then as_text o) (λ x. Contains (x ∷ []) name)
name_law name None = (λ h. (cc), λ h. absurd h)
name_law name (Some null) = (λ h. (cc), λ h. absurd h)
name_law name (Some (boolean b)) = (λ h. (cc), λ h. absurd h)
name_law name (Some (whole z)) = (λ h. (cc), λ h. absurd h)
name_law name (Some (text u)) = (λ h. (one_law u name).1 ((bytes_eq-Decides u name).0 h), λ h. (bytes_eq-Decides u name).1 ((one_law u name).0 h))
name_law name (Some (list ds)) = (λ h. (cc), λ h. absurd h)
name_law name (Some (map ms)) = (λ h. (cc), λ h. absurd h)

tests : (fault : Option Reject) (light : Bool) (scope : Scope) → (is_ok (option_map_or (λ r. Err (Rejected r)) fault (cond light (Ok scope) (Err TooHeavy))) ≡ true) ↔ ((fault ≡ None) × (light ≡ true))
tests None true scope = (λ h. (refl, refl), λ h. refl)
tests None false scope = (λ h. (cc), λ h. let f = h.1 in (cc))
tests (Some r) light scope = (λ h. (cc), λ h. let f = h.0 in (cc))

type_law : (d : Data) (t : TypeTree) → (is_ok (admission_by d t) ≡ true) ↔ (Fits None t.check d × (weight d ≤ GREATEST_WEIGHT))
type_law d t =
    let tested = tests (check.first_fault 0 None t.check d) (nat_le (weight d) GREATEST_WEIGHT) t.scope in
    let fits = checks.law 0 None t.check d in (
      λ h. let facts = tested.0 h in (fits.0 facts.0, leb-true (weight d) GREATEST_WEIGHT facts.1),
      λ h. tested.1 (fits.1 h.0, le-leb (weight d) GREATEST_WEIGHT h.1),
    )

known_law : (d : Data) (o : Option TypeTree) → (is_ok (option_map_or (admission_by d) o (Err UnknownType)) ≡ true) ↔ (IsSomeAnd o (λ t. Fits None t.check d) × (weight d ≤ GREATEST_WEIGHT))
known_law d None = (λ h. (cc), λ h. absurd h.0)
known_law d (Some t) = type_law d t

module _ (id : List ℕ) (d : Data) (look : List ℕ → Option TypeTree) where
  own_tests : (name : List ℕ) (p q : Bool)
      → (is_ok (option_map_or (λ x. option_map_or (admission_by d) (look x) (Err UnknownType)) (cond (p && q) (Some name) None) (Err BadId)) ≡ true)
      ↔ ((p ≡ true) × (q ≡ true) × IsSomeAnd (look name) (λ t. Fits None t.check d) × (weight d ≤ GREATEST_WEIGHT))
  own_tests name true true = let known = known_law d (look name) in (λ h. let facts = known.0 h in (refl, refl, facts.0, facts.1), λ h. known.1 (h.2, h.3))
  own_tests name true false = (λ h. (cc), λ h. let f = h.1 in (cc))
  own_tests name false q = (λ h. (cc), λ h. let f = h.0 in (cc))

  -- by what stands in the record under `id` and `typeName`, and the name that the id begins with
  found_law : (part : Option (List ℕ)) (own type : Option Data)
      → (is_ok (option_map_or (λ x. option_map_or (admission_by d) (look x) (Err UnknownType)) (option_and_then (λ name. cond (has_text id own && has_text name type) (Some name) None) part) (Err BadId)) ≡ true)
      ↔ ((own ≡ Some (text id)) × IsSomeAnd (option_and_then as_text type) (λ x. IsSomeAnd part (Contains (x ∷ []))) × IsSomeAnd (option_and_then look part) (λ t. Fits None t.check d) × (weight d ≤ GREATEST_WEIGHT))
  found_law None own type = (λ h. (cc), λ h. absurd h.2)
  found_law (Some name) own type =
      let tested = own_tests name (has_text id own) (has_text name type) in (
        λ h. let facts = tested.0 h in ((text_law id own).0 facts.0, (name_law name type).0 facts.1, facts.2, facts.3),
        λ h. tested.1 ((text_law id own).1 h.0, (name_law name type).1 h.1, h.2, h.3),
      )

pub law : (s : SchemaTree) (id : List ℕ) (d : Data) → (is_ok (admission s id d) ≡ true) ↔ IsAdmitted s id d
law s id d =
    let found = found_law id d (value_at s.types) (type_part id) (field d (codes "id")) (field d (codes "typeName")) in (
      λ h. let facts = found.0 h in record { own = facts.0; typed = facts.1; fits = facts.2; light = facts.3 },
      λ a. found.1 (a.own, a.typed, a.fits, a.light),
    )
