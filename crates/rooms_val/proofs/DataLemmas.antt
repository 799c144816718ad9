-- Values to and from their parts, and their soundness under each change.
use Rattle.std.proofs.Common.{◌≡◌, ℕ, List, [], ◌∷◌, ◌++◌, Bool, Option, Some, None, not, cond, T, true, false, refl, sym, ap, subst}
use Rattle.std.specs.FinMap.Entries.{where_key, is_sorted-where_key}
use Rattle.rooms_val.specs.Data.{Data, map, Pairs, items_of, list_of, Members, no_members, member, members_of, pairs_of, IsSound, AreSoundItems, AreSoundMembers, IsSoundRecord}
use Rattle.rooms_val.specs.Maps.{order, ties, AreRising, value_at, with_key, without_key, set_at, EachValue}
use Rattle.rooms_val.specs.View.{data_of, val_of, items_view, pairs_view}
use Rattle.rooms_val.specs.declared.val.Val.{Val}
use Rattle.rooms_val.specs.declared.val.Val.TheVariants as v
use Rattle.rooms_val.proofs.MapsLemmas.{rising-with_key, each-with_key, each-where_key, rising-seen}

pub list_of-items_of : (ds : List Data) → list_of (items_of ds) ≡ ds
list_of-items_of [] = refl
list_of-items_of (d ∷ ds) = ap (λ rest. d ∷ rest) (list_of-items_of ds)

pub pairs_of-members_of : (ps : Pairs) → pairs_of (members_of ps) ≡ ps
pairs_of-members_of [] = refl
pairs_of-members_of (p ∷ ps) = ap (λ rest. p ∷ rest) (pairs_of-members_of ps)

pub members_of-pairs_of : (ms : Members) → members_of (pairs_of ms) ≡ ms
members_of-pairs_of no_members = refl
members_of-pairs_of (member k d ms) = ap (λ rest. member k d rest) (members_of-pairs_of ms)

-- each `Val` is the one that stands for its value
pub val_of-data_of : (x : Val) → val_of (data_of x) ≡ x
val_of-data_of v.Null = refl
val_of-data_of (v.Bool b) = refl
val_of-data_of (v.Int z) = refl
val_of-data_of (v.Text s) = refl
val_of-data_of (v.List ds) = ap v.List (list_of-items_of ds)
val_of-data_of (v.Map ps) = ap v.Map (pairs_of-members_of ps)

pub each_sound : (ps : Pairs) → AreSoundMembers (members_of ps) ≡ EachValue IsSound ps
each_sound [] = refl
each_sound (p ∷ ps) = ap (λ rest. IsSound p.1 × rest) (each_sound ps)

-- the keys of a sound map rise
pub rising_pairs : (ps : Pairs) → IsSound (map (members_of ps)) → AreRising ps
rising_pairs ps sound = subst AreRising (pairs_of-members_of ps) sound.0

pub rising_from_sound : (es : List (List ℕ × Val)) → IsSound (map (members_of (pairs_view es))) → AreRising es
rising_from_sound es sound = subst T (rising-seen data_of es) (rising_pairs (pairs_view es) sound)

sound_from : (ps : Pairs) → AreRising ps → EachValue IsSound ps → IsSound (map (members_of ps))
sound_from ps rising each = (subst AreRising (sym (pairs_of-members_of ps)) rising, subst (λ t. t) (sym (each_sound ps)) each)

each_in : (ps : Pairs) → IsSound (map (members_of ps)) → EachValue IsSound ps
each_in ps sound = subst (λ t. t) (each_sound ps) sound.1

pub sound-with_key : (ps : Pairs) (k : List ℕ) (d : Data) → IsSound (map (members_of ps)) → IsSound d → IsSound (map (members_of (with_key ps k d)))
sound-with_key ps k d sound new = sound_from _ (rising-with_key ps k d (rising_pairs ps sound)) (each-with_key IsSound ps k d (each_in ps sound) new)

pub sound-where_key : (p : List ℕ → Bool) (ps : Pairs) → IsSound (map (members_of ps)) → IsSound (map (members_of (where_key order p ps)))
sound-where_key p ps sound = sound_from _ (is_sorted-where_key order p ps (rising_pairs ps sound)) (each-where_key IsSound p ps (each_in ps sound))

pub sound-without_key : (ps : Pairs) (k : List ℕ) → IsSound (map (members_of ps)) → IsSound (map (members_of (without_key ps k)))
sound-without_key ps k sound = sound-where_key (λ q. not (ties k q)) ps sound

pub sound-set_at : (ps : Pairs) (k : List ℕ) (o : Option Data) → IsSound (map (members_of ps)) → IsSoundRecord o → IsSound (map (members_of (set_at ps k o)))
sound-set_at ps k None sound new = sound-without_key ps k sound
sound-set_at ps k (Some d) sound new = sound-with_key ps k d sound new

-- what stands in a sound map is sound
pub sound_at : (ps : Pairs) (k : List ℕ) → AreSoundMembers (members_of ps) → IsSoundRecord (value_at ps k)
sound_at [] k each = tt
sound_at (p ∷ ps) k each = elim (ties k p.0) as (λ b. IsSoundRecord (cond b (Some p.1) (value_at ps k))) [ true ↦ each.0 | false ↦ sound_at ps k each.1 ]

pub sound_push : (ds : List Data) (d : Data) → AreSoundItems (items_of ds) → IsSound d → AreSoundItems (items_of (ds ++ d ∷ []))
sound_push [] d each sound = (sound, tt)
sound_push (e ∷ ds) d each sound = (each.0, sound_push ds d each.1 sound)

pub items_view-push : (vs : List Val) (v : Val) → items_view (vs ++ v ∷ []) ≡ items_view vs ++ data_of v ∷ []
items_view-push [] v = refl
items_view-push (w ∷ vs) v = ap (λ rest. data_of w ∷ rest) (items_view-push vs v)
