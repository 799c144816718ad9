-- What holds of every list of changes: no id stands twice, and each change says whether it is live.
use Rattle.std.proofs.Common.{◌≡◌, ℕ, Bool, true, false, T, List, [], ◌∷◌, ◌++◌, get_or, All, Contains, Ordering, Less, Equal, sym, ap, subst, ◌∙◌, inl, inr, arith}
use Rattle.std.specs.FinMap.Entries.{below_all}
use Rattle.std.proofs.lemmas.List.{map-append}
use Rattle.std.proofs.lemmas.List.Elements.{All-map, Contains-get_or}
use Rattle.links_core.specs.Lists.{list_at, IsApart}
use Rattle.links_core.proofs.Members.{here, there, none_in_nil, contains_cases, in_either, apart_join}
use Rattle.rooms_val.specs.Maps.{order}
use Rattle.rooms_val.proofs.MapsLemmas.{first, second, less, order_itself}
use Rattle.change_list.specs.declared.entries.Change.{Change}
use Rattle.change_list.specs.Changes.{Changes, HasDistinctIds, AreInOrder}
use Rattle.change_list.specs.Kept.{entry_at, changes_at, keyed, HasRisingIds, IsKept}
use Rattle.change_list.proofs.OneChange.{named}

below_node : (entries : List Change) (key : List ℕ) (nodes : List ℕ) (m : ℕ) → T (below_all order key (keyed entries nodes)) → Contains nodes m → order key (entry_at entries m).id ≡ Less
below_node entries key [] m h q = absurd (none_in_nil m q)
below_node entries key (x ∷ nodes) m h q = elim (contains_cases m x nodes q) [
  | inl e ↦ subst (λ (n : ℕ). order key (entry_at entries n).id ≡ Less) e (less _ (first _ _ h))
  | inr rest ↦ below_node entries key nodes m (second _ _ h) rest
]

-- where the ids rise, two nodes of one id are one node
same_node : (entries : List Change) (nodes : List ℕ) (m n : ℕ) → HasRisingIds entries nodes → Contains nodes m → Contains nodes n → (entry_at entries m).id ≡ (entry_at entries n).id → m ≡ n
same_node entries [] m n h p q e = absurd (none_in_nil m p)
same_node entries (x ∷ nodes) m n h p q e = elim (contains_cases m x nodes p) [
  | inl a ↦ elim (contains_cases n x nodes q) [
    | inl b ↦ sym a ∙ b
    | inr b ↦ absurd (apart (sym (below_node entries (entry_at entries x).id nodes n (first _ _ h) b) ∙ tie (ap (λ w. (entry_at entries w).id) a ∙ e)))
  ]
  | inr a ↦ elim (contains_cases n x nodes q) [
    | inl b ↦ absurd (apart (sym (below_node entries (entry_at entries x).id nodes m (first _ _ h) a) ∙ tie (ap (λ w. (entry_at entries w).id) b ∙ sym e)))
    | inr b ↦ same_node entries nodes m n (second _ _ h) a b e
  ]
]
  where
    apart : ◌≡◌ {A = Ordering} Less Equal → ⊥
    apart d = cc

    tie : {j k : List ℕ} → j ≡ k → order j k ≡ Equal
    tie {j} {k} d = subst (λ (i : List ℕ). order j i ≡ Equal) d (order_itself j)

distinct_ids : (entries : List Change) (nodes xs : List ℕ) → HasRisingIds entries nodes → ((m : ℕ) → Contains xs m → Contains nodes m) → IsApart xs → HasDistinctIds (changes_at entries xs)
distinct_ids entries nodes [] h within apart = tt
distinct_ids entries nodes (x ∷ xs) h within apart = (
  λ q. let n = named entries xs (entry_at entries x).id q in
      apart.0 (subst (λ (w : ℕ). Contains xs w) (same_node entries nodes n.0 x h (within n.0 (there n.0 x xs n.1)) (within x (here x xs)) n.2) n.1),
  distinct_ids entries nodes xs h (λ m q. within m (there m x xs q)) apart.1,
)

all_are : (entries : List Change) (xs : List ℕ) (live : Bool) → ((m : ℕ) → Contains xs m → (entry_at entries m).live ≡ live) → All (λ c. c.live ≡ live) (changes_at entries xs)
all_are entries xs live h =
    All-map (λ (c : Change). c.live ≡ live) (entry_at entries) xs (λ i d low. h (get_or xs i d) (Contains-get_or xs i d low))

pub in_order : (lists : List (List ℕ)) (entries : List Change) (nodes : List ℕ) (count : ℕ) (changes : Changes) → IsKept lists entries nodes count → changes.live ≡ changes_at entries (list_at lists 0) → changes.dead ≡ changes_at entries (list_at lists 1) → AreInOrder changes
in_order lists entries nodes count changes k live dead = rw (live, dead) (record {
  distinct = subst HasDistinctIds (map-append (entry_at entries) (list_at lists 0) (list_at lists 1)) (distinct_ids entries nodes (list_at lists 0 ++ list_at lists 1) k.rising (λ m q. elim (in_either m (list_at lists 0) (list_at lists 1) q) [ inl l ↦ (k.live_listed m l).0 | inr l ↦ (k.dead_listed m l).0 ]) (apart_join (list_at lists 0) (list_at lists 1) (k.sound.once 0) (k.sound.once 1) (λ x p q. zero-one (k.sound.in_one 0 1 x p q))));
  live_clocks = k.live_clocks;
  dead_clocks = k.dead_clocks;
  live_are = all_are entries (list_at lists 0) true (λ m q. (k.live_listed m q).1);
  dead_are = all_are entries (list_at lists 1) false (λ m q. (k.dead_listed m q).1);
})
  where
    zero-one : ◌≡◌ {A = ℕ} 0 1 → ⊥
    zero-one e = omega arith
