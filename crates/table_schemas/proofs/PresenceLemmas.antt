-- The ids of sessions' presence.
use Rattle.std.proofs.Common.{◌≡◌, ℕ, zero, suc, ◌<◌, ◌≤◌, ◌+◌, ◌/◌, ◌%◌, ◌==◌, true, false, ◌&&◌, cond, List, [], ◌∷◌, ◌++◌, length, Some, None, refl, ap, ◌∙◌, arith}
use Rattle.std.specs.Prelude.{decimal, codes, option_map, option_and_then}
use Rattle.std.specs.Fmt.{digit_glyph, digits_onto, digits}
use Rattle.std.specs.List.{list_all, before_first, after_first}
use Rattle.std.proofs.lemmas.Bool.Decides.{nat_tests}
use Rattle.rooms_val.specs.Maps.{value_at}
use Rattle.record_valid.specs.Ids.{is_unique_byte, is_unique, is_colon, type_part}
use Rattle.schema_core.specs.Builds.{by_name}
use Rattle.schema_core.specs.Tree.{SchemaTree, TypeTree}
use Rattle.schema_core.specs.declared.row.Scope.TheVariants.{Presence}
use Rattle.room_schemas.specs.Decided.{is_of_presence}
use Rattle.room_accept.specs.Suiting.{HasPresences}
use Rattle.tl_tables.specs.Tables.{IsSchemaAt}
use Rattle.tl_tables.specs.Types.{document, page, shape, asset, binding, camera, instance, instance_presence, type_rows}

-- a digit may stand in an id
digit_is : (d : ℕ) → d < 10 → is_unique_byte (digit_glyph false d) ≡ true
digit_is d low = grind (arith, nat_tests)

-- the digits of a number, 1 to 64 of them, before some that are there
record AreDigits (most : ℕ) (text : List ℕ) : Type 0 where
  unique : list_all is_unique_byte text ≡ true
  some : 0 < length text
  few : length text ≤ most

onto : (k n : ℕ) (acc : List ℕ) → list_all is_unique_byte acc ≡ true → 0 < k + length acc → AreDigits (k + length acc) (digits_onto k 10 false n acc)
onto zero n acc all some = record { unique = all; some = omega arith; few = omega arith }
onto (suc k) n acc all some =
    let d = digit_glyph false (n % 10) in
    let more : list_all is_unique_byte (d ∷ acc) ≡ true = ap (λ b. b && list_all is_unique_byte acc) (digit_is (n % 10) (omega arith)) ∙ all in
    elim (n / 10 == 0) as (λ b. AreDigits (suc k + length acc) (cond b (d ∷ acc) (digits_onto k 10 false (n / 10) (d ∷ acc)))) [
      | true ↦ record { unique = more; some = omega arith; few = omega arith }
      | false ↦ let h = onto k (n / 10) (d ∷ acc) more (omega arith) in record { unique = h.unique; some = h.some; few = let f = h.few in omega arith }
    ]

decimal_is : (n : ℕ) → AreDigits 64 (decimal n)
unfolding digits
decimal_is n = onto 64 n [] refl (omega arith)

unique_decimal : (n : ℕ) → is_unique (decimal n) ≡ true
unique_decimal n = let h = decimal_is n in let some = h.some in let few = h.few in let all = h.unique in grind (arith, nat_tests)

-- what stands before the number, and after it
before : (rest : List ℕ) → before_first is_colon (codes "instance_presence:" ++ rest) ≡ codes "instance_presence"
before rest = refl

after : (rest : List ℕ) → after_first is_colon (codes "instance_presence:" ++ rest) ≡ rest
after rest = refl

type_is : (rest : List ℕ) → is_unique rest ≡ true → type_part (codes "instance_presence:" ++ rest) ≡ Some (codes "instance_presence")
type_is rest is = ap (λ b. cond b (Some (codes "instance_presence")) None) is

-- at every version that type has presence scope
scope_is : (version : ℕ) → option_map (λ (t : TypeTree). t.scope) (value_at (by_name (type_rows version)) (codes "instance_presence")) ≡ Some Presence
unfolding type_rows document page shape asset binding camera instance instance_presence
scope_is version = refl

pub presences : (version : ℕ) (s : SchemaTree) → IsSchemaAt version s → HasPresences s
presences version s h session =
    ap is_of_presence (
    ap (λ part. option_map (λ (t : TypeTree). t.scope) (option_and_then (value_at s.types) part)) (type_is (decimal session) (unique_decimal session))
    ∙ ap (λ types. option_map (λ (t : TypeTree). t.scope) (value_at types (codes "instance_presence"))) h.types
    ∙ scope_is version
    )
