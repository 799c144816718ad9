-- The value of some JSON, part by part.
use Rattle.std.proofs.Common.{◌≡◌, ℕ, T, List, [], ◌∷◌, ◌++◌, map, Less, string_bytes, string_cmp, refl, sym, ap, subst, ◌∙◌, append_assoc}
use Rattle.std.specs.FinMap.Entries.{below_all}
use Rattle.std.specs.Ordering.{is_lt}
use Rattle.std.specs.List.{AllByRecursion}
use Rattle.std.specs.List.Sorted.{IsStrictlySortedBy}
use Rattle.std.specs.Map.{keys_of}
use Rattle.serde_json.specs.declared.value.Value.{Value}
use Rattle.serde_json.specs.View.{view, items_view, members_view}
use Rattle.serde_json.proofs.Views.{Entry}
use Rattle.rooms_val.proofs.Truths.{and_holds}
use Rattle.rooms_val.specs.Data.{Data, items_of, members_of, map as map', IsSound, AreSoundMembers}
use Rattle.rooms_val.specs.Json.{value_in, items_in, members_in}
use Rattle.rooms_val.specs.Maps.{order, AreRising}
use Rattle.rooms_val.specs.View.{data_of, pairs_view}
use Rattle.rooms_val.specs.declared.val.Val.{Val}
use Rattle.rooms_val.proofs.DataLemmas.{pairs_of-members_of}

abbrev pub pair_in : Entry → List ℕ × Data
pair_in e = (string_bytes e.0, value_in (view e.1))

pub items_in-items_view : (vs : List Value) → items_of (map (λ v. value_in (view v)) vs) ≡ items_in (items_view vs)
items_in-items_view [] = refl
items_in-items_view (v ∷ vs) = rw (items_in-items_view vs)

pub members_in-members_view : (es : List Entry) → members_of (map pair_in es) ≡ members_in (members_view es)
members_in-members_view [] = refl
members_in-members_view (e ∷ es) = rw (members_in-members_view es)

below_from : (k : List ℕ) (es : List Entry) → AllByRecursion (λ y. order k (string_bytes y) ≡ Less) (keys_of es) → T (below_all order k (map pair_in es))
below_from k [] below = tt
below_from k (e ∷ es) below = and_holds _ _ (subst (λ o. T (is_lt o)) (sym below.0) tt) (below_from k es below.1)

rising_from_ordered : (es : List Entry) → IsStrictlySortedBy string_cmp (keys_of es) → AreRising (map pair_in es)
unfolding IsStrictlySortedBy
rising_from_ordered [] ordered = tt
rising_from_ordered (e ∷ es) ordered = and_holds _ _ (below_from (string_bytes e.0) es ordered.0) (rising_from_ordered es ordered.1)

-- sound values under the keys of an object, which rise, are a sound map
pub sound_from_ordered : (ps : List (List ℕ × Data)) (es : List Entry) → ps ≡ map pair_in es → IsStrictlySortedBy string_cmp (keys_of es) → AreSoundMembers (members_of ps) → IsSound (map' (members_of ps))
sound_from_ordered ps es same ordered each = (subst AreRising (sym (pairs_of-members_of ps)) (subst AreRising (sym same) (rising_from_ordered es ordered)), each)

pub each_sound_push : (ps : List (List ℕ × Data)) (k : List ℕ) (d : Data) → AreSoundMembers (members_of ps) → IsSound d → AreSoundMembers (members_of (ps ++ (k, d) ∷ []))
each_sound_push [] k d each sound = (sound, tt)
each_sound_push (p ∷ ps) k d each sound = (each.0, each_sound_push ps k d each.1 sound)

pub pairs_view-push : (es : List (List ℕ × Val)) (k : List ℕ) (v : Val) → pairs_view (es ++ (k, v) ∷ []) ≡ pairs_view es ++ (k, data_of v) ∷ []
pairs_view-push [] k v = refl
pairs_view-push (e ∷ es) k v = ap (λ rest. (e.0, data_of e.1) ∷ rest) (pairs_view-push es k v)

-- what was taken off what is left and put at the end, is still among all
pub moved : {X : Type 0} (done left rest new all : List X) (x y : X) → done ++ left ≡ all → left ≡ x ∷ rest → new ≡ done ++ y ∷ [] → y ≡ x → new ++ rest ≡ all
moved done left rest new all x y whole off on same = ap (λ xs. xs ++ rest) on ∙ append_assoc done (y ∷ []) rest ∙ ap (λ z. done ++ z ∷ rest) same ∙ ap (λ xs. done ++ xs) (sym off) ∙ whole
