-- A join that was printed is read again.
use Rattle.std.proofs.Common.{◌≡◌, ℕ, ◌^◌, ◌<◌, ◌≤◌, List, Ok, IsTrue, ap, ◌∙◌, arith}
use Rattle.std.proofs.lemmas.Bool.Decides.{nat_tests}
use Rattle.link_texts.specs.Joins.{join_val, IsJoin}
use Rattle.link_texts.specs.declared.join.Join.{Join}
use Rattle.rooms_val.specs.Data.{Data, depth}
use Rattle.rooms_val.specs.Json.{json_of, is_within, deepest, value_of}

in_range : (join : Join) → join.room < 2 ^ 32 → IsTrue (is_within (json_of (join_val join)))
in_range join small = grind (arith, nat_tests, small)

pub read_again : (join : Join) (d : Data) (bytes : List ℕ) → join.room < 2 ^ 32 → d ≡ join_val join
    → (IsTrue (is_within (json_of d)) → depth d ≤ deepest → value_of bytes ≡ Ok d) → (rooms : ℕ) → join.room < rooms → IsJoin rooms bytes join
read_again join d bytes small is reads rooms there = record { says = reads (rw is (in_range join small)) (rw is (omega arith)) ∙ ap Ok is; there = there }
