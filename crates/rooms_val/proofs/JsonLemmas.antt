-- What bytes are read as, and that what was printed is read again.
use Rattle.std.proofs.Common.{◌≡◌, ℕ, ◌≤◌, true, false, List, T, Some, None, Err, Ok, IsTrue, refl, sym, subst, arith}
use Rattle.std.specs.Prelude.{IsUtf8, if◌then◌else◌, nat_lt}
use Rattle.std.specs.Option.{ok_or}
use Rattle.std.specs.Str.{is_utf8}
use Rattle.std.proofs.lemmas.Bool.Decides.{nat_tests}
use Rattle.std.proofs.lemmas.Str.{IsUtf8-from_is_utf8}
use Rattle.serde_json.specs.Data as json
use Rattle.serde_json.specs.Read.{read, max_depth}
use Rattle.rooms_val.specs.Data.{Data, depth}
use Rattle.rooms_val.specs.Json.{json_of, json_at, checked, is_within, value_of, deepest}
use Rattle.rooms_val.specs.declared.fault.ValFault.TheVariants.{BadJson}
use Rattle.rooms_val.proofs.ToJsonLemmas.{has_float-json_of, depth-json_of, value_in-json_of}

pub refused : (bytes : List ℕ) → (IsUtf8 bytes → read bytes ≡ None) → json_at bytes ≡ Err BadJson
refused bytes none = elim (is_utf8 bytes) as (λ b. is_utf8 bytes ≡ b → (if b then ok_or (read bytes) BadJson else Err BadJson) ≡ Err BadJson) [
  | true ↦ λ e. rw (none (IsUtf8-from_is_utf8 bytes e))
  | false ↦ λ e. refl
] refl

passes : (d : Data) → IsTrue (is_within (json_of d)) → depth d ≤ deepest → checked (json_of d) ≡ Ok d
passes d within shallow =
    let flat : nat_lt deepest (json.depth (json_of d)) ≡ false = rw (depth-json_of d) (grind (arith, nat_tests)) in
    let all : is_within (json_of d) ≡ true = within in
    let again = value_in-json_of d (subst T (sym within) tt) in
    rw (has_float-json_of d, again, all, flat)

pub reads_back : (bytes : List ℕ) (d : Data) → is_utf8 bytes ≡ true → (json.depth (json_of d) ≤ max_depth → read bytes ≡ Some (json_of d)) → IsTrue (is_within (json_of d)) → depth d ≤ deepest → value_of bytes ≡ Ok d
reads_back bytes d utf8 reads within shallow =
    let read_again : read bytes ≡ Some (json_of d) = reads (rw (depth-json_of d) (omega arith)) in
    rw (utf8, read_again) (passes d within shallow)
