-- The ids that meet a query, among some of the ids of a type.
use Rattle.std.proofs.Common.{◌≡◌, ℕ, zero, suc, ◌+◌, ◌<◌, List, [], ◌∷◌, Bool, true, false, ◌&&◌, T, cond, map, drop, length, get_or, is_eq, refl, sym, ap, subst, ◌∙◌, arith, Some, Less, true≢false, Vec, Global}
use Rattle.std.specs.Prelude.{filter, All}
use Rattle.std.specs.List.{list_all}
use Rattle.std.specs.Option.{option_map_or}
use Rattle.std.proofs.lemmas.List.{length-map, get_or-map}
use Rattle.std.proofs.lemmas.List.Elements.{All-head, All-tail}
use Rattle.rooms_val.proofs.Truths.{and_left}
use Rattle.rooms_val.specs.Data.{Data, Pairs, members_of, IsSound, map as map_data}
use Rattle.rooms_val.specs.Maps.{order, ties, AreRising, value_at, keys_of}
use Rattle.rooms_val.proofs.MapsLemmas.{order_itself, by_tie, none_later, rising_rest}
use Rattle.rooms_val.proofs.DataLemmas.{pairs_of-members_of}
use Rattle.shape_tree.specs.Queries.{meets, meets_with, ids_meeting}
use Rattle.shape_tree.specs.Records.{is_id_of}
use Rattle.shape_tree.specs.declared.query.Query.{Query}
use Rattle.shape_tree.specs.declared.query.Query.TheVariants as query
use Rattle.shape_tree.specs.declared.query.Query.TheOpen.{Query-F}
use Rattle.shape_tree.specs.declared.query.Query.TheFolds.{fold-roll-Query}
use Rattle.store_query.specs.Asking.{meets_at, AreCandidates}

found_at : (m : Pairs) (i : ℕ) (d : List ℕ × Data) → AreRising m → i < length m → value_at m (get_or m i d).0 ≡ Some (get_or m i d).1
found_at [] i d rising within = absurd (omega arith)
found_at (e ∷ m) zero d rising within = ap (λ o. cond (is_eq o) (Some e.1) (value_at m e.0)) (order_itself e.0)
found_at (e ∷ m) (suc i) d rising within =
    let p = get_or m i d in
    let later = found_at m i d (rising_rest e m rising) (omega arith) in
    by_tie (λ b. cond b (Some e.1) (value_at m p.0) ≡ Some p.1) p.0 e.0 (λ same. let never = sym later ∙ ap (value_at m) same ∙ none_later e m rising in cc) later

-- each pair of a map is found by its key
pub pairs_found : (m : Pairs) → AreRising m → All (λ e. value_at m e.0 ≡ Some e.1) m
pairs_found m rising i d within = found_at m i d rising within

pub rising_sound : (m : Pairs) → IsSound (map_data (members_of m)) → AreRising m
rising_sound m sound = subst AreRising (pairs_of-members_of m) sound.0

module _ (m : Pairs) (type : List ℕ) (query : Query) where
  -- among the ids of pairs of the type, the pairs that meet the query among these, those that meet the query
  met_among : (c : List ℕ × Data → Bool) → ((e : List ℕ × Data) → c e ≡ true → is_id_of type e.0 ≡ true) → ((e : List ℕ × Data) → is_id_of type e.0 ≡ true → meets e.1 query ≡ true → c e ≡ true)
      → (es : Pairs) → All (λ e. value_at m e.0 ≡ Some e.1) es → filter (meets_at m query) (keys_of (filter c es)) ≡ ids_meeting es type query
  met_among c only all [] found = refl
  met_among c only all (e ∷ es) found =
      let rest = met_among c only all es (All-tail (λ e. value_at m e.0 ≡ Some e.1) e es found) in
      let here : meets_at m query e.0 ≡ meets e.1 query = ap (λ o. option_map_or (λ d. meets d query) o false) (All-head (λ e. value_at m e.0 ≡ Some e.1) e es found) in
      let kept = λ (b : Bool). filter (meets_at m query) (keys_of (cond b (e ∷ filter c es) (filter c es))) in
      let wanted = λ (b : Bool). keys_of (cond b (e ∷ filter (λ e. is_id_of type e.0 && meets e.1 query) es) (filter (λ e. is_id_of type e.0 && meets e.1 query) es)) in
      elim (c e) as (λ b. c e ≡ b → kept b ≡ wanted (is_id_of type e.0 && meets e.1 query)) [
        | true ↦ λ is.
            ap (λ b. cond b (e.0 ∷ filter (meets_at m query) (keys_of (filter c es))) (filter (meets_at m query) (keys_of (filter c es)))) here
            ∙ elim (meets e.1 query) as (λ b. cond b (e.0 ∷ filter (meets_at m query) (keys_of (filter c es))) (filter (meets_at m query) (keys_of (filter c es))) ≡ wanted b) [ true ↦ ap (λ ids. e.0 ∷ ids) rest | false ↦ rest ]
            ∙ ap (λ b. wanted (b && meets e.1 query)) (sym (only e is))
        | false ↦ λ is.
            rest ∙ (elim (is_id_of type e.0) as (λ b. is_id_of type e.0 ≡ b → wanted false ≡ wanted (b && meets e.1 query)) [
              | true ↦ λ id. elim (meets e.1 query) as (λ b. meets e.1 query ≡ b → wanted false ≡ wanted b) [ true ↦ λ met. absurd (true≢false (sym (all e id met) ∙ is)) | false ↦ λ met. refl ] refl
              | false ↦ λ id. refl
            ] refl)
      ] refl

  keys_of_type : (es : Pairs) → filter (is_id_of type) (keys_of es) ≡ keys_of (filter (λ e. is_id_of type e.0) es)
  keys_of_type [] = refl
  keys_of_type (e ∷ es) =
      elim (is_id_of type e.0) as (λ b. cond b (e.0 ∷ filter (is_id_of type) (keys_of es)) (filter (is_id_of type) (keys_of es)) ≡ keys_of (cond b (e ∷ filter (λ e. is_id_of type e.0) es) (filter (λ e. is_id_of type e.0) es))) [
        | true ↦ ap (λ ids. e.0 ∷ ids) (keys_of_type es)
        | false ↦ keys_of_type es
      ]

  pub walk_is : AreRising m → filter (meets_at m query) (filter (is_id_of type) (keys_of m)) ≡ ids_meeting m type query
  walk_is rising = ap (filter (meets_at m query)) (keys_of_type m) ∙ met_among (λ e. is_id_of type e.0) (λ e is. is) (λ e id met. id) m (pairs_found m rising)

  pub part_is : AreRising m → (part : Query) → ((d : Data) → meets d query ≡ true → meets d part ≡ true) → AreCandidates m type query (ids_meeting m type part)
  part_is rising part implied =
      met_among (λ e. is_id_of type e.0 && meets e.1 part) (λ e is. and_left (is_id_of type e.0) (meets e.1 part) is)
      (λ e id met. ap (λ b. b && meets e.1 part) id ∙ implied e.1 met) m (pairs_found m rising)

pub all_true : (bs : List Bool) (i : ℕ) (d : Bool) → i < length bs → list_all (λ met. met) bs ≡ true → get_or bs i d ≡ true
all_true [] i d within all = absurd (omega arith)
all_true (true ∷ bs) zero d within all = refl
all_true (true ∷ bs) (suc i) d within all = all_true bs i d (omega arith) all
all_true (false ∷ bs) i d within all = cc

-- what meets each of some queries meets the one at a place
pub part_met : (parts : Vec Query Global) (i : ℕ) (part : Query) → i < length parts.items → part ≡ get_or parts.items i part → (d : Data) → meets d (query.And parts) ≡ true → meets d part ≡ true
part_met parts i part within here d met =
    let each : list_all (λ met. met) (map (meets d) parts.items) ≡ true = sym (ap (meets d) (sym (query.rolls-And parts)) ∙ fold-roll-Query Bool (meets_with d) (Query-F.And parts)) ∙ met in
    ap (meets d) here ∙ sym (get_or-map (meets d) parts.items i part (meets d part) within) ∙ all_true (map (meets d) parts.items) i (meets d part) (omega (arith, length-map parts.items (meets d))) each
