-- What a completed diff names: what the wanted one does, and shapes and bindings.
use Rattle.std.proofs.Common.{◌≡◌, ℕ, Bool, true, false, ◌&&◌, cond, List, [], ◌∷◌, length, Option, Some, None, Result, Ok, Err, Less, Equal, Greater, refl, ap, subst, ◌∙◌}
use Rattle.std.specs.Prelude.{nat_lt, filter, not}
use Rattle.std.specs.List.{list_all}
use Rattle.std.specs.Option.{option_map_or}
use Rattle.std.specs.FinMap.Entries.{by_order}
use Rattle.rooms_val.proofs.Truths.{and_true, and_left, and_right}
use Rattle.rooms_val.specs.Data.{Data, Pairs}
use Rattle.rooms_val.specs.Maps.{value_at, with_key, keys_of, order, ties, AreRising}
use Rattle.rooms_val.proofs.MapsLemmas.{ties_same, rising-with_key}
use Rattle.field_ops.specs.RecordOps.{RecordOpTree, remove, RecordOps}
use Rattle.schema_core.specs.Tree.{SchemaTree}
use Rattle.schema_core.specs.Admits.{is_document}
use Rattle.doc_model.specs.Documents.{fold_raw}
use Rattle.side_effects.specs.declared.completion.TheConstants.{MOST_OPERATIONS}
use Rattle.side_effects.specs.ReachingLaws.{IsIn, IsClosed}
use Rattle.shape_tree.specs.Records.{is_shape, is_binding}
use Rattle.side_effects.specs.Records.{parent_of, from_of, to_of, holders_of, has}
use Rattle.side_effects.specs.Placed.{is_unplaced, placed, unplaced, placing, and_then, all_placed}
use Rattle.side_effects.specs.Removed.{removes, holders, goes, with_removes}
use Rattle.side_effects.specs.Completed.{wrong_scope, no_record, invalid, first_refusal, unless, or_else, misnamed, unfit, not_whole, if_few, indexed, completed}
use Rattle.side_effects.specs.declared.fault.EditFault.{EditFault}
use Rattle.side_effects.specs.declared.fault.EditFault.TheVariants.{TooMany, WrongScope}
use Rattle.side_effects.proofs.RemovesLemmas.{removed_is, all_removed, rising-all_removed}
use Rattle.side_effects.proofs.GoesLemmas.{goes_within}
use Rattle.side_effects.proofs.PlacingLemmas.{rising-placed}

pub not_err : {A : Type 0} (fault : EditFault) (x : A) → ◌≡◌ {A = Result A EditFault} (Err fault) (Ok x) → ⊥
not_err fault x is = cc

pub same_ok : {A : Type 0} (x y : A) → ◌≡◌ {A = Result A EditFault} (Ok x) (Ok y) → x ≡ y
same_ok x y is = cc

pub and_then_ok : {A B : Type 0} (answer : Result A EditFault) (next : A → Result B EditFault) (y : B) → and_then answer next ≡ Ok y → (x : A) × (answer ≡ Ok x) × (next x ≡ Ok y)
and_then_ok (Ok x) next y is = (x, refl, is)
and_then_ok (Err fault) next y is = absurd (not_err fault y is)

unless_ok : {A : Type 0} (o : Option EditFault) (next : Result A EditFault) (y : A) → unless o next ≡ Ok y → (o ≡ None) × (next ≡ Ok y)
unless_ok None next y is = (refl, is)
unless_ok (Some fault) next y is = absurd (not_err fault y is)

neither : (one other : Option EditFault) → or_else one other ≡ None → (one ≡ None) × (other ≡ None)
neither None other is = (refl, is)
neither (Some fault) other is = absurd (cc)

cond_ok : {A : Type 0} (many : Bool) (next : Result A EditFault) (y : A) → cond many (Err TooMany) next ≡ Ok y → next ≡ Ok y
cond_ok true next y is = absurd (not_err TooMany y is)
cond_ok false next y is = is

module _ (p : List ℕ → Bool) where
  abbrev pub AllPass : RecordOps → Type 0
  AllPass diff = list_all (λ c. p c.0) diff ≡ true

  pass_at : (diff : RecordOps) (q : List ℕ) (c : RecordOpTree) → AllPass diff → value_at diff q ≡ Some c → p q ≡ true
  pass_at [] q c each is = absurd (let no : None ≡ Some c = is in (cc))
  pass_at (e ∷ diff) q c each is = elim (ties q e.0) as (λ t. ties q e.0 ≡ t → cond t (Some e.1) (value_at diff q) ≡ Some c → p q ≡ true) [
    | true ↦ λ same _. ap p (ties_same q e.0 same) ∙ and_left (p e.0) (list_all (λ d. p d.0) diff) each
    | false ↦ λ _ there. pass_at diff q c (and_right (p e.0) (list_all (λ d. p d.0) diff) each) there
  ] refl is

  pass_put : (diff : RecordOps) (id : List ℕ) (c : RecordOpTree) → AllPass diff → p id ≡ true → AllPass (with_key diff id c)
  pass_put [] id c each one = and_true (p id) true one refl
  pass_put (e ∷ diff) id c each one =
      let first = and_left (p e.0) (list_all (λ d. p d.0) diff) each in
      let later = and_right (p e.0) (list_all (λ d. p d.0) diff) each in
      elim (order id e.0) as (λ o. AllPass (by_order o ((id, c) ∷ e ∷ diff) ((e.0, c) ∷ diff) (e ∷ with_key diff id c))) [
        | Less ↦ and_true (p id) _ one each
        | Equal ↦ and_true (p e.0) _ first later
        | Greater ↦ and_true (p e.0) _ first (pass_put diff id c later one)
      ]

  pass_filter : (test : List ℕ × RecordOpTree → Bool) (diff : RecordOps) → AllPass diff → AllPass (filter test diff)
  pass_filter test [] each = refl
  pass_filter test (e ∷ diff) each =
      let first = and_left (p e.0) (list_all (λ d. p d.0) diff) each in
      let later = pass_filter test diff (and_right (p e.0) (list_all (λ d. p d.0) diff) each) in
      elim (test e) as (λ b. AllPass (cond b (e ∷ filter test diff) (filter test diff))) [
        | true ↦ and_true (p e.0) (list_all (λ d. p d.0) (filter test diff)) first later
        | false ↦ later
      ]

  pass_placed : (s : SchemaTree) (m : Pairs) (left diff all : RecordOps) → AllPass diff → AllPass left → all_placed s m diff left ≡ Ok all → AllPass all
  pass_placed s m [] diff all each rest is = subst AllPass (same_ok diff all is) each
  pass_placed s m (c ∷ left) diff all each rest is =
      let found = and_then_ok (placing s (fold_raw m diff) c.0 c.1) (λ op. all_placed s m (with_key diff c.0 op) left) all is in
      pass_placed s m left (with_key diff c.0 found.0) all (pass_put diff c.0 found.0 each (and_left (p c.0) (list_all (λ d. p d.0) left) rest)) (and_right (p c.0) (list_all (λ d. p d.0) left) rest) found.2

  pass_removed : (ids : List (List ℕ)) (diff : RecordOps) → AllPass diff → list_all p ids ≡ true → AllPass (all_removed diff ids)
  pass_removed [] diff each rest = each
  pass_removed (id ∷ ids) diff each rest = pass_removed ids (with_key diff id remove) (pass_put diff id remove each (and_left (p id) (list_all p ids) rest)) (and_right (p id) (list_all p ids) rest)

  those_pass : (test : List ℕ → Bool) → ((id : List ℕ) → test id ≡ true → p id ≡ true) → (ids : List (List ℕ)) → list_all p (filter test ids) ≡ true
  those_pass test imp [] = refl
  those_pass test imp (id ∷ ids) = elim (test id) as (λ b. test id ≡ b → list_all p (cond b (id ∷ filter test ids) (filter test ids)) ≡ true) [
    | true ↦ λ is. and_true (p id) (list_all p (filter test ids)) (imp id is) (those_pass test imp ids)
    | false ↦ λ _. those_pass test imp ids
  ] refl

  module _ (shapes : (id : List ℕ) → is_shape id ≡ true → p id ≡ true) (bindings : (id : List ℕ) → is_binding id ≡ true → p id ≡ true) where
    hung_pass : (id h : List ℕ) (d : Data) → IsIn h (holders_of id d) → p id ≡ true
    hung_pass id h d is = elim (is_shape id) as (λ b. is_shape id ≡ b → IsIn h (cond b (parent_of d ∷ []) (cond (is_binding id) (from_of d ∷ to_of d ∷ []) [])) → p id ≡ true) [
      | true ↦ λ one _. shapes id one
      | false ↦ λ _ on. elim (is_binding id) as (λ b. is_binding id ≡ b → IsIn h (cond b (from_of d ∷ to_of d ∷ []) []) → p id ≡ true) [
        | true ↦ λ one _. bindings id one
        | false ↦ λ _ none. absurd none
      ] refl on
    ] refl is

    held_pass : (m after : Pairs) (id h : List ℕ) → IsIn h (holders m after id) → p id ≡ true
    held_pass m after id h is = elim (has m id) as (λ b. IsIn h (cond b (option_map_or (holders_of id) (value_at after id) []) []) → p id ≡ true) [
      | true ↦ λ on. elim (value_at after id) as (λ o. IsIn h (option_map_or (holders_of id) o []) → p id ≡ true) [
        | None ↦ λ none. absurd none
        | Some d ↦ λ held. hung_pass id h d held
      ] on
      | false ↦ λ none. absurd none
    ] is

    pass_removes : (m : Pairs) (diff : RecordOps) → AllPass diff → AllPass (with_removes m diff)
    pass_removes m diff each =
        pass_removed (filter (goes m diff) (keys_of m)) diff each (those_pass (goes m diff) (goes_within m diff p closed) (keys_of m))
      where
        closed : IsClosed (holders m (fold_raw m diff)) (removes diff) p
        closed = record {
          ends = λ q is. pass_at diff q remove each (removed_is diff q is);
          below = λ q h is _. held_pass m (fold_raw m diff) q h is;
        }

all_documents : (s : SchemaTree) (wanted : RecordOps) → first_refusal (wrong_scope s) wanted ≡ None → list_all (λ c. is_document s c.0) wanted ≡ true
all_documents s [] is = refl
all_documents s (c ∷ wanted) is = elim (is_document s c.0) as (λ b.
    option_map_or (λ (fault : EditFault). Some fault) (cond b None (Some (WrongScope c.0))) (first_refusal (wrong_scope s) wanted) ≡ None → (b && list_all (λ d. is_document s d.0) wanted) ≡ true) [
      | true ↦ λ rest. all_documents s wanted rest
      | false ↦ λ never. absurd (cc)
    ] is

rising_placed : (s : SchemaTree) (m : Pairs) (left diff all : RecordOps) → AreRising diff → all_placed s m diff left ≡ Ok all → AreRising all
rising_placed s m [] diff all rising is = subst AreRising (same_ok diff all is) rising
rising_placed s m (c ∷ left) diff all rising is =
    let found = and_then_ok (placing s (fold_raw m diff) c.0 c.1) (λ op. all_placed s m (with_key diff c.0 op) left) all is in
    rising_placed s m left (with_key diff c.0 found.0) all (rising-with_key diff c.0 found.0 rising) found.2

module _ (s : SchemaTree) (m : Pairs) (wanted diff : RecordOps) (is : completed s m wanted ≡ Ok diff) where
  pub record Came : Type 0 where
    pub filled : RecordOps
    pub scoped : first_refusal (wrong_scope s) wanted ≡ None
    pub there : first_refusal (no_record m) wanted ≡ None
    pub valid : first_refusal (invalid s m) (placed m wanted) ≡ None
    pub placed_all : all_placed s m (placed m wanted) (unplaced m wanted) ≡ Ok filled
    pub removed_all : with_removes m filled ≡ diff

  pub came : Came
  came =
      let few = cond_ok (nat_lt MOST_OPERATIONS (length wanted)) (and_then (indexed s m wanted) (λ d. unless (not_whole m wanted (with_removes m d)) (if_few (with_removes m d)))) diff is in
      let found = and_then_ok (indexed s m wanted) (λ d. unless (not_whole m wanted (with_removes m d)) (if_few (with_removes m d))) diff few in
      let whole = unless_ok (not_whole m wanted (with_removes m found.0)) (if_few (with_removes m found.0)) diff found.2 in
      let fits = unless_ok (unfit s m wanted) (all_placed s m (placed m wanted) (unplaced m wanted)) found.0 found.1 in
      let named = neither (misnamed s m wanted) (first_refusal (invalid s m) (placed m wanted)) fits.0 in
      let scope = neither (first_refusal (wrong_scope s) wanted) (first_refusal (no_record m) wanted) named.0 in
      record {
        filled = found.0;
        scoped = scope.0;
        there = scope.1;
        valid = named.1;
        placed_all = fits.1;
        removed_all = same_ok (with_removes m found.0) diff (cond_ok (nat_lt MOST_OPERATIONS (length (with_removes m found.0))) (Ok (with_removes m found.0)) diff whole.1);
      }

  -- its ids rise
  pub completed_rises : AreRising wanted → AreRising diff
  completed_rises rising =
      subst AreRising came.removed_all (
      rising-all_removed (filter (goes m came.filled) (keys_of m)) came.filled (rising_placed s m (unplaced m wanted) (placed m wanted) came.filled (rising-placed m wanted rising) came.placed_all))

  -- it names ids of document scope alone, where shapes and bindings are of that scope
  pub completed_documents : ((id : List ℕ) → is_shape id ≡ true → is_document s id ≡ true) → ((id : List ℕ) → is_binding id ≡ true → is_document s id ≡ true)
      → list_all (λ c. is_document s c.0) diff ≡ true
  completed_documents shapes bindings =
      let p = is_document s in
      let all = all_documents s wanted came.scoped in
      let kept = pass_filter p (λ c. not (is_unplaced m c.0 c.1)) wanted all in
      let new = pass_filter p (λ c. is_unplaced m c.0 c.1) wanted all in
      subst (AllPass p) came.removed_all (pass_removes p shapes bindings m came.filled (pass_placed p s m (unplaced m wanted) (placed m wanted) came.filled kept new came.placed_all))
