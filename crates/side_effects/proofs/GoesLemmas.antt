-- What is left once links are swept away is the diff with a remove for what goes.
use Rattle.std.proofs.Common.{◌≡◌, ℕ, Bool, true, false, ◌&&◌, cond, List, [], ◌∷◌, ◌++◌, length, map, Option, Some, None, ◌⊎◌, inl, inr, refl, sym, ap, subst, ◌∙◌}
use Rattle.std.specs.Prelude.{filter, codes}
use Rattle.std.specs.List.{flat_map}
use Rattle.std.specs.Option.{option_map_or}
use Rattle.std.proofs.lemmas.List.{length-map}
use Rattle.rooms_val.specs.Data.{Data, Pairs}
use Rattle.rooms_val.specs.Maps.{value_at, keys_of, AreRising}
use Rattle.rooms_val.proofs.MapsLemmas.{same_pairs}
use Rattle.field_ops.specs.RecordOps.{remove, RecordOps}
use Rattle.doc_model.specs.Documents.{fold_raw}
use Rattle.side_effects.specs.ReachingLaws.{IsIn, AreAll, IsClosed}
use Rattle.side_effects.specs.Reaching.{reaches}
use Rattle.side_effects.proofs.ReachingLemmas.{alone, closed_below, has_ends, within}
use Rattle.rooms_val.proofs.Truths.{iff_same}
use Rattle.shape_tree.specs.Records.{text_or_empty, is_shape, is_binding}
use Rattle.side_effects.specs.Records.{holders_of, has}
use Rattle.side_effects.specs.Removed.{removes, holders, goes, with_removes}
use Rattle.side_effects.specs.Links.{Links, links_of, links, Sweeps, AreFree}
use Rattle.side_effects.proofs.FilterLemmas.{is_in-keys, keys-is_in, any-kept}
use Rattle.side_effects.proofs.RemovesLemmas.{removed_is, at-all_removed, rising-all_removed}

module _ {X : Type 0} where
  in_left : (xs ys : List X) (x : X) → IsIn x xs → IsIn x (xs ++ ys)
  in_left [] ys x is = absurd is
  in_left (y ∷ xs) ys x is = elim is [
    | inl same ↦ inl same
    | inr later ↦ inr (in_left xs ys x later)
  ]

  in_right : (xs ys : List X) (x : X) → IsIn x ys → IsIn x (xs ++ ys)
  in_right [] ys x is = is
  in_right (y ∷ xs) ys x is = inr (in_right xs ys x is)

  in_either : (xs ys : List X) (x : X) → IsIn x (xs ++ ys) → IsIn x xs ⊎ IsIn x ys
  in_either [] ys x is = inr is
  in_either (y ∷ xs) ys x is = elim is [
    | inl same ↦ inl (inl same)
    | inr later ↦ elim (in_either xs ys x later) [
      | inl there ↦ inl (inr there)
      | inr there ↦ inr there
    ]
  ]

module _ {X Y : Type 0} (f : X → List Y) where
  in_flat : (xs : List X) (x : X) (y : Y) → IsIn x xs → IsIn y (f x) → IsIn y (flat_map f xs)
  in_flat [] x y is holds = absurd is
  in_flat (z ∷ xs) x y is holds = elim is [
    | inl same ↦ in_left (f z) (flat_map f xs) y (subst (λ v. IsIn y (f v)) same holds)
    | inr later ↦ in_right (f z) (flat_map f xs) y (in_flat xs x y later holds)
  ]

  flat_in : (xs : List X) (y : Y) → IsIn y (flat_map f xs) → (x : X) × IsIn x xs × IsIn y (f x)
  flat_in [] y is = absurd is
  flat_in (z ∷ xs) y is = elim (in_either (f z) (flat_map f xs) y is) [
    | inl here ↦ (z, inl refl, here)
    | inr later ↦ let found = flat_in xs y later in (found.0, inr found.1, found.2)
  ]

abbrev with_id : List ℕ → List ℕ → List ℕ × List ℕ
with_id q h = (q, h)

abbrev held_by : Pairs → List ℕ → List (List ℕ)
held_by after q = option_map_or (holders_of q) (value_at after q) []

-- a record's links lead to what it hangs on
module _ (q : List ℕ) where
  abbrev shape_links : Option Data → Links
  shape_links o = option_map_or (λ d. (q, text_or_empty d (codes "parentId")) ∷ []) o []

  abbrev binding_links : Option Data → Links
  binding_links o = option_map_or (λ d. (q, text_or_empty d (codes "fromId")) ∷ []) o [] ++ option_map_or (λ d. (q, text_or_empty d (codes "toId")) ∷ []) o []

  abbrev held_as : Bool → Bool → Data → List (List ℕ)
  held_as shape binding d = cond shape (text_or_empty d (codes "parentId") ∷ []) (cond binding (text_or_empty d (codes "fromId") ∷ text_or_empty d (codes "toId") ∷ []) [])

  links_as : (shape binding : Bool) (o : Option Data)
      → cond {A = Links} shape (shape_links o) (cond {A = Links} binding (binding_links o) []) ≡ map (with_id q) (option_map_or (held_as shape binding) o [])
  links_as true binding None = refl
  links_as true binding (Some d) = refl
  links_as false true None = refl
  links_as false true (Some d) = refl
  links_as false false None = refl
  links_as false false (Some d) = refl

links_are : (after : Pairs) (q : List ℕ) → links_of after q ≡ map (with_id q) (held_by after q)
links_are after q = links_as q (is_shape q) (is_binding q) (value_at after q)

in_with : (q : List ℕ) (hs : List (List ℕ)) (h : List ℕ) → IsIn h hs → IsIn (q, h) (map (with_id q) hs)
in_with q [] h is = absurd is
in_with q (k ∷ hs) h is = elim is [
  | inl same ↦ inl (ap (with_id q) same)
  | inr later ↦ inr (in_with q hs h later)
]

with_in : (q : List ℕ) (hs : List (List ℕ)) (l : List ℕ × List ℕ) → IsIn l (map (with_id q) hs) → (l.0 ≡ q) × IsIn l.1 hs
with_in q [] l is = absurd is
with_in q (k ∷ hs) l is = elim is [
  | inl same ↦ (ap (λ e. e.0) same, inl (ap (λ e. e.1) same))
  | inr later ↦ let found = with_in q hs l later in (found.0, inr found.1)
]

module _ (m after : Pairs) where
  link_holds : (l : List ℕ × List ℕ) → IsIn l (links m after) → IsIn l.1 (holders m after l.0)
  link_holds l is =
      let found = flat_in (links_of after) (keys_of m) l is in
      let q = found.0 in
      let held = with_in q (held_by after q) l (subst (IsIn l) (links_are after q) found.2) in
      let there : has m l.0 ≡ true = ap (has m) held.0 ∙ keys-is_in m q found.1 in
      subst (λ hs. IsIn l.1 hs) (sym (ap (λ b. cond b (held_by after l.0) []) there)) (subst (λ id. IsIn l.1 (held_by after id)) (sym held.0) held.1)

  holds_link : (q h : List ℕ) → IsIn h (holders m after q) → IsIn (q, h) (links m after)
  holds_link q h is = elim (has m q) as (λ b. has m q ≡ b → IsIn h (cond b (held_by after q) []) → IsIn (q, h) (links m after)) [
    | true ↦ λ there held. in_flat (links_of after) (keys_of m) q (q, h) (is_in-keys m q there) (subst (IsIn (q, h)) (sym (links_are after q)) (in_with q (held_by after q) h held))
    | false ↦ λ _ none. absurd none
  ] refl is

  pub all_hold : (is_end : List ℕ → Bool) → AreAll (holders m after) is_end (keys_of m)
  all_hold is_end q = elim (has m q) as (λ b. has m q ≡ b → IsIn q (keys_of m) ⊎ (cond b (held_by after q) [] ≡ [])) [
    | true ↦ λ there. inl (is_in-keys m q there)
    | false ↦ λ _. inr refl
  ] refl

module _ (m : Pairs) (diff : RecordOps) where
  abbrev up_from : List ℕ → List (List ℕ)
  up_from = holders m (fold_raw m diff)

  abbrev at_keys : List ℕ → Bool
  at_keys = reaches up_from (removes diff) (length (keys_of m))

  goes_is : goes m diff ≡ at_keys
  goes_is = λ i q. reaches up_from (removes diff) (sym (length-map m (λ e. e.0)) i) q

  pub removed_goes : (q : List ℕ) → removes diff q ≡ true → goes m diff q ≡ true
  removed_goes q is = ap (λ f. f q) goes_is ∙ has_ends up_from (removes diff) (keys_of m) (all_hold m (fold_raw m diff) (removes diff)) q is

  pub hung_goes : (q h : List ℕ) → IsIn h (up_from q) → goes m diff h ≡ true → goes m diff q ≡ true
  hung_goes q h is holds =
      ap (λ f. f q) goes_is
      ∙ closed_below up_from (removes diff) (keys_of m) (all_hold m (fold_raw m diff) (removes diff)) q h is (sym (ap (λ f. f h) goes_is) ∙ holds)

  pub goes_within : (in_set : List ℕ → Bool) → IsClosed up_from (removes diff) in_set → (q : List ℕ) → goes m diff q ≡ true → in_set q ≡ true
  goes_within in_set closed q is = within up_from (removes diff) in_set closed (length m) q is

  -- what goes is in the document, or is removed by the diff
  gone_there : (q : List ℕ) → goes m diff q ≡ true → has m q ≡ false → removes diff q ≡ true
  gone_there q is gone = goes_alone (length m) is
    where
      none : up_from q ≡ []
      none = ap (λ b. cond b (held_by (fold_raw m diff) q) []) gone

      goes_alone : (n : ℕ) → reaches up_from (removes diff) n q ≡ true → removes diff q ≡ true
      goes_alone n there = sym (alone up_from (removes diff) q none n) ∙ there

  module _ (left : Links) (new : RecordOps) (swept : Sweeps (links m (fold_raw m diff)) diff left new) (free : AreFree left new) where
    swept_closed : IsClosed up_from (removes diff) (removes new)
    swept_closed = record {
      ends = swept.starts;
      below = λ q h is holds. elim (swept.done (q, h) (holds_link m (fold_raw m diff) q h is)) [
        | inl there ↦ absurd (free (q, h) there holds)
        | inr gone ↦ gone
      ];
    }

    swept_goes : (q : List ℕ) → removes new q ≡ goes m diff q
    swept_goes q = iff_same (removes new q) (goes m diff q)
        (swept.least (goes m diff) removed_goes (λ l is holds. hung_goes l.0 l.1 (link_holds m (fold_raw m diff) l is) holds) q)
        (goes_within (removes new) swept_closed q)

    at_swept : (q : List ℕ) → value_at new q ≡ value_at (with_removes m diff) q
    at_swept q =
        swept.keeps q
        ∙ ap (λ b. cond b (Some remove) (value_at diff q)) (swept_goes q)
        ∙ by_there (goes m diff q) (has m q) (λ goes gone. removed_is diff q (gone_there q goes gone))
        ∙ ap (λ b. cond b (Some remove) (value_at diff q)) (sym (any-kept (goes m diff) m q))
        ∙ sym (at-all_removed (filter (goes m diff) (keys_of m)) diff q)
      where
        by_there : (g h : Bool) → (g ≡ true → h ≡ false → value_at diff q ≡ Some remove) → cond g (Some remove) (value_at diff q) ≡ cond (g && h) (Some remove) (value_at diff q)
        by_there true true gone = refl
        by_there true false gone = sym (gone refl refl)
        by_there false h gone = refl

    pub swept_is : AreRising diff → new ≡ with_removes m diff
    swept_is rising =
        same_pairs new (with_removes m diff) (swept.rising rising) (rising-all_removed (filter (goes m diff) (keys_of m)) diff rising) at_swept

  -- where nothing is removed, nothing goes
  pub none_goes : AreRising diff → ((q : List ℕ) → removes diff q ≡ false) → diff ≡ with_removes m diff
  none_goes rising none =
      same_pairs diff (with_removes m diff) rising (rising-all_removed (filter (goes m diff) (keys_of m)) diff rising) (λ q.
      sym (at-all_removed (filter (goes m diff) (keys_of m)) diff q
      ∙ ap (λ b. cond b (Some remove) (value_at diff q)) (any-kept (goes m diff) m q ∙ ap (λ b. b && has m q) (stays q))))
    where
      closed : IsClosed up_from (removes diff) (λ q. false)
      closed = record { ends = λ q is. sym (none q) ∙ is; below = λ q h is never. never }

      stays : (q : List ℕ) → goes m diff q ≡ false
      stays q = iff_same (goes m diff q) false (goes_within (λ _. false) closed q) (λ never. absurd (cc))
