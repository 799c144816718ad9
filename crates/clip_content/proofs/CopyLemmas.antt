-- Which shapes are copied.
use Rattle.std.proofs.Common.{◌≡◌, ℕ, zero, suc, Bool, true, false, ◌||◌, cond, List, [], ◌∷◌, length, Option, Some, None, inl, inr, ◌⊎◌, refl, sym, ap, ◌∙◌}
use Rattle.std.specs.Prelude.{is_some, option_map, option_to_list}
use Rattle.std.specs.List.{list_any}
use Rattle.std.proofs.lemmas.List.{length-map}
use Rattle.rooms_val.specs.Data.{Data, Pairs}
use Rattle.rooms_val.specs.Maps.{value_at, keys_of}
use Rattle.shape_tree.specs.Records.{is_shape}
use Rattle.side_effects.specs.Reaching.{reaches}
use Rattle.side_effects.specs.ReachingLaws.{IsIn, AreAll, IsClosed}
use Rattle.side_effects.specs.Records.{parent_of}
use Rattle.side_effects.specs.Whole.{parent_at, parents}
use Rattle.side_effects.proofs.ReachingLemmas.{closed_below, has_ends, within, or_false as or_none}
use Rattle.rooms_val.proofs.Truths.{or_left}
use Rattle.side_effects.proofs.FilterLemmas.{is_in-keys}
use Rattle.clip_content.specs.Copied.{is_one_of, is_copied}

-- steps of a walk up the parents
module _ {X : Type 0} (up : X → List X) (is_end : X → Bool) where
  pub reach_here : (n : ℕ) (x : X) → is_end x ≡ true → reaches up is_end n x ≡ true
  unfolding reaches
  reach_here zero x is = is
  reach_here (suc n) x is = or_left (is_end x) (list_any (reaches up is_end n) (up x)) is

  pub reach_none : (x : X) → reaches up is_end 0 x ≡ is_end x
  unfolding reaches
  reach_none x = refl

  pub reach_up : (n : ℕ) (x y : X) → is_end x ≡ false → up x ≡ y ∷ [] → reaches up is_end (suc n) x ≡ reaches up is_end n y
  unfolding reaches
  reach_up n x y isnt one = ap (λ b. b || list_any (reaches up is_end n) (up x)) isnt ∙ ap (list_any (reaches up is_end n)) one ∙ or_none (reaches up is_end n y)

  pub reach_no : (n : ℕ) (x : X) → is_end x ≡ false → up x ≡ [] → reaches up is_end n x ≡ false
  unfolding reaches
  reach_no zero x isnt none = isnt
  reach_no (suc n) x isnt none = ap (λ b. b || list_any (reaches up is_end n) (up x)) isnt ∙ ap (list_any (reaches up is_end n)) none

at_key : (m : Pairs) (q : List ℕ) (o : Option Data) → value_at m q ≡ o → IsIn q (keys_of m) ⊎ (option_to_list (option_map parent_of o) ≡ [])
at_key m q None is = inr refl
at_key m q (Some d) is = inl (is_in-keys m q (ap is_some is))

pub parents_within : (m : Pairs) (is_end : List ℕ → Bool) → AreAll (parents m) is_end (keys_of m)
parents_within m is_end q = elim (is_shape q) as (λ b. IsIn q (keys_of m) ⊎ (option_to_list (option_map parent_of (cond b (value_at m q) None)) ≡ [])) [
  | true ↦ at_key m q (value_at m q) refl
  | false ↦ inr refl
]

module _ (m : Pairs) (ids : List (List ℕ)) where
  by_keys : is_copied m ids ≡ reaches (parents m) (is_one_of ids) (length (keys_of m))
  by_keys = λ i q. reaches (parents m) (is_one_of ids) (sym (length-map m (λ e. e.0)) i) q

  pub copied_closed : IsClosed (parents m) (is_one_of ids) (is_copied m ids)
  copied_closed = record {
    ends = λ q is. ap (λ f. f q) by_keys ∙ has_ends (parents m) (is_one_of ids) (keys_of m) (parents_within m (is_one_of ids)) q is;
    below = λ q p is holds. ap (λ f. f q) by_keys ∙ closed_below (parents m) (is_one_of ids) (keys_of m) (parents_within m (is_one_of ids)) q p is (sym (ap (λ f. f p) by_keys) ∙ holds);
  }

  pub copied_least : (in_set : List ℕ → Bool) → IsClosed (parents m) (is_one_of ids) in_set → (q : List ℕ) → is_copied m ids q ≡ true → in_set q ≡ true
  copied_least in_set closed q is = within (parents m) (is_one_of ids) in_set closed (length m) q is

-- one step of a walk up the parents, with so many steps left
module _ (m : Pairs) (is_end : List ℕ → Bool) where
  pub walk_here : (n : ℕ) (at : List ℕ) (all : Bool) → reaches (parents m) is_end n at ≡ all → is_end at ≡ true → true ≡ all
  walk_here n at all so_far is = sym (reach_here (parents m) is_end n at is) ∙ so_far

  pub walk_end : (n : ℕ) (at : List ℕ) (all : Bool) → reaches (parents m) is_end n at ≡ all → is_end at ≡ false → parent_at m at ≡ None → false ≡ all
  walk_end n at all so_far isnt none = sym (reach_no (parents m) is_end n at isnt (ap option_to_list none)) ∙ so_far

  pub walk_up : (n left : ℕ) (at parent : List ℕ) (all : Bool) → n ≡ suc left → reaches (parents m) is_end n at ≡ all → is_end at ≡ false → parent_at m at ≡ Some parent → reaches (parents m) is_end left parent ≡ all
  walk_up n left at parent all step so_far isnt one =
      sym (reach_up (parents m) is_end left at parent isnt (ap option_to_list one)) ∙ ap (λ k. reaches (parents m) is_end k at) (sym step) ∙ so_far

  pub walk_done : (n : ℕ) (at : List ℕ) (all : Bool) → n ≡ 0 → reaches (parents m) is_end n at ≡ all → is_end at ≡ all
  walk_done n at all none so_far = sym (reach_none (parents m) is_end at) ∙ ap (λ k. reaches (parents m) is_end k at) (sym none) ∙ so_far
