-- Versions and the maps of numbers that stand for them.
use Rattle.std.proofs.Common.{◌≡◌, ℕ, pos, negsuc, Bool, true, ◌&&◌, List, [], ◌∷◌, Some, None, unwrap_or, zero, suc, ◌<◌, length, Less, Equal, Greater, refl, sym, ap, ◌∙◌, arith}
use Rattle.std.specs.Prelude.{codes, slice_get}
use Rattle.std.specs.FinMap.Entries as entries
use Rattle.rooms_val.specs.Data.{Data, null, boolean, whole, text, list, map, Pairs, members_of, Members, no_members, member}
use Rattle.rooms_val.specs.Kinds.{as_map}
use Rattle.rooms_val.specs.Maps.{with_key, order}
use Rattle.rooms_val.specs.View.{data_of}
use Rattle.rooms_val.specs.declared.val.Val.{Val}
use Rattle.rooms_val.specs.declared.val.Val.TheVariants as val
use Rattle.rooms_val.proofs.DataLemmas.{pairs_of-members_of}
use Rattle.migrate_seq.specs.Versions.{Versions, numbers_of, number_in, versions_in, is_number, are_numbers, schema_pairs, schema_with}
use Rattle.migrate_seq.proofs.OrderLemmas.{both_true}

number-back : (d : Data) → is_number d ≡ true → whole (pos (number_in d)) ≡ d
number-back (whole (pos n)) is = refl
number-back (whole (negsuc n)) is = cc
number-back null is = cc
number-back (boolean b) is = cc
number-back (text s) is = cc
number-back (list ds) is = cc
number-back (map ms) is = cc

-- a map of numbers stands for the versions in it
pub numbers_of-versions_in : (ps : Pairs) → are_numbers ps ≡ true → numbers_of (versions_in ps) ≡ ps
numbers_of-versions_in [] are = refl
numbers_of-versions_in (p ∷ ps) are =
    let each = both_true (is_number p.1) (are_numbers ps) are in
    λ i. (p.0, number-back p.1 each.0 i) ∷ numbers_of-versions_in ps each.1 i

pub are_numbers-numbers_of : (vs : Versions) → are_numbers (numbers_of vs) ≡ true
are_numbers-numbers_of [] = refl
are_numbers-numbers_of (v ∷ vs) = are_numbers-numbers_of vs

pub are_numbers-put : (ps : Pairs) (name : List ℕ) (n : ℕ) → are_numbers ps ≡ true → are_numbers (with_key ps name (whole (pos n))) ≡ true
are_numbers-put [] name n are = refl
are_numbers-put (p ∷ ps) name n are = let each = both_true (is_number p.1) (are_numbers ps) are in
    elim (order name p.0) as (λ o. are_numbers (entries.by_order o ((name, whole (pos n)) ∷ p ∷ ps) ((p.0, whole (pos n)) ∷ ps) (p ∷ with_key ps name (whole (pos n)))) ≡ true) [
      | Less ↦ are
      | Equal ↦ each.1
      | Greater ↦ λ i. each.0 i && are_numbers-put ps name n each.1 i
    ]

pairs_in : Data → Pairs
pairs_in d = unwrap_or (as_map d) []

-- what a value that stands for a schema has as its map
pub fields_are : (v : Val) (fields ps : Pairs) → v ≡ val.Map fields → data_of v ≡ schema_with ps → fields ≡ schema_pairs ps
unfolding pairs_in
fields_are v fields ps is stands =
    sym (pairs_of-members_of fields) ∙ ap (λ w. pairs_in (data_of w)) (sym is) ∙ ap pairs_in stands ∙ pairs_of-members_of (schema_pairs ps)

pub schema_made : (key name : List ℕ) (empty first second copied ps : Pairs) → key ≡ codes "schemaVersion" → name ≡ codes "sequences" → empty ≡ []
    → first ≡ with_key empty key (whole (pos 2)) → copied ≡ ps → second ≡ with_key first name (map (members_of copied)) → map (members_of second) ≡ schema_with ps
schema_made key name empty first second copied ps key_is name_is empty_is first_is copied_is second_is =
    ap (λ qs. map (members_of qs)) second_is
    ∙ (λ i. map (members_of (with_key (first_is i) (name_is i) (map (members_of (copied_is i))))))
    ∙ (λ i. map (members_of (with_key (with_key (empty_is i) (key_is i) (whole (pos 2))) (codes "sequences") (map (members_of ps)))))

two_pairs : (ps : Pairs) (a b : List ℕ × Data) → length ps ≡ 2 → Some a ≡ slice_get ps 0 → Some b ≡ slice_get ps 1 → ps ≡ a ∷ b ∷ []
two_pairs [] a b two first second = absurd (omega arith)
two_pairs (x ∷ []) a b two first second = absurd (omega arith)
two_pairs (x ∷ y ∷ []) a b two first second =
    let one : Some a ≡ Some x = first in
    let other : Some b ≡ Some y = second in cc
two_pairs (x ∷ y ∷ z ∷ ps) a b two first second = absurd (omega arith)

-- what a map that has the form of a schema shows
module _ (v : Val) (fields ps : Pairs) (is : v ≡ val.Map fields) (stands : data_of v ≡ schema_with ps) where
  pub length_is : length fields ≡ 2
  length_is = ap length (fields_are v fields ps is stands)

  shown_at : (place : ℕ) (e : List ℕ × Data) → Some e ≡ slice_get fields place → e ≡ unwrap_or (slice_get (schema_pairs ps) place) e
  shown_at place e at = ap (λ o. unwrap_or o e) (at ∙ ap (λ f. slice_get f place) (fields_are v fields ps is stands))

  pub first_key : (k : List ℕ) (d : Data) → Some (k, d) ≡ slice_get fields 0 → k ≡ codes "schemaVersion"
  first_key k d at = ap (λ e. e.0) (shown_at 0 (k, d) at)

  pub first_value : (k : List ℕ) (d : Data) → Some (k, d) ≡ slice_get fields 0 → d ≡ whole (pos 2)
  first_value k d at = ap (λ e. e.1) (shown_at 0 (k, d) at)

  pub second_key : (k : List ℕ) (d : Data) → Some (k, d) ≡ slice_get fields 1 → k ≡ codes "sequences"
  second_key k d at = ap (λ e. e.0) (shown_at 1 (k, d) at)

  pub second_value : (k : List ℕ) (d : Data) → Some (k, d) ≡ slice_get fields 1 → d ≡ map (members_of ps)
  second_value k d at = ap (λ e. e.1) (shown_at 1 (k, d) at)

  pub there_at : (place : ℕ) → place < 2 → None ≡ slice_get fields place → ⊥
  there_at zero within none = cc (none ∙ ap (λ f. slice_get f 0) (fields_are v fields ps is stands))
  there_at (suc zero) within none = cc (none ∙ ap (λ f. slice_get f 1) (fields_are v fields ps is stands))
  there_at (suc (suc n)) within none = absurd (omega arith)

pub not_a_map : (v : Val) (ms : Members) → ((qs : Pairs) → v ≡ val.Map qs → ⊥) → data_of v ≡ map ms → ⊥
not_a_map val.Null ms other stands = cc
not_a_map (val.Bool b) ms other stands = cc
not_a_map (val.Int z) ms other stands = cc
not_a_map (val.Text s) ms other stands = cc
not_a_map (val.List ds) ms other stands = cc
not_a_map (val.Map qs) ms other stands = absurd (other qs refl)

-- a map that shows the form of a schema has it
pub schema_found : (v s : Val) (fields ps : Pairs) (key name : List ℕ) (d : Data) → v ≡ val.Map fields → length fields ≡ 2
    → Some (key, d) ≡ slice_get fields 0 → key ≡ codes "schemaVersion" → d ≡ whole (pos 2)
    → Some (name, data_of s) ≡ slice_get fields 1 → name ≡ codes "sequences" → s ≡ val.Map ps → data_of v ≡ schema_with ps
schema_found v s fields ps key name d is two first key_is d_is second name_is s_is =
    ap data_of is
    ∙ ap (λ f. map (members_of f)) (two_pairs fields (key, d) (name, data_of s) two first second)
    ∙ (λ i. map (members_of ((key_is i, d_is i) ∷ (name_is i, data_of (s_is i)) ∷ [])))

maps_in : Data → Pairs
maps_in null = []
maps_in (boolean b) = []
maps_in (whole z) = []
maps_in (text s) = []
maps_in (list ds) = []
maps_in (map no_members) = []
maps_in (map (member k d no_members)) = []
maps_in (map (member k d (member j e ms))) = pairs_in e

-- two schemas that are the same have the same under their sequences
pub same_schemas : (ps qs : Pairs) → schema_with ps ≡ schema_with qs → ps ≡ qs
unfolding maps_in pairs_in
same_schemas ps qs same = sym (pairs_of-members_of ps) ∙ ap maps_in same ∙ pairs_of-members_of qs
