-- The last entries where a room begins from a saved one.
use Rattle.std.proofs.Common.{◌≡◌, ℕ, zero, suc, ◌+◌, ◌-◌, ◌≤◌, ◌<◌, min, pos, List, [], ◌∷◌, ◌++◌, length, map, drop, None, refl, sym, ap, ◌∙◌, arith}
use Rattle.std.proofs.lemmas.List.{length-append, append-nil, append_assoc}
use Rattle.circular_buffer.specs.Buffer.{keep_last}
use Rattle.rooms_val.specs.Maps.{value_at}
use Rattle.field_ops.specs.RecordOps.{RecordOps}
use Rattle.field_ops.specs.Patched.{raw}
use Rattle.room_accept.specs.Suiting.{left_under}
use Rattle.room_model.specs.Histories.{History, records_of}
use Rattle.room_model.specs.Saves.{diff_at, begun_to}
use Rattle.room_model.specs.declared.history.Entry.{Entry}
use Rattle.room_model.specs.declared.limits.TheConstants.{MOST_TOLD}
use Rattle.room_model.specs.declared.saved.SavedRoom.{SavedRoom}
use Rattle.room_history.specs.Begins.{left_of, tree_at, trees_after}
use Rattle.room_history.specs.Entries.{RecentTree, newest, trees_of}
use Rattle.room_model.proofs.BegunLemmas.{rising-diff}
use Rattle.room_history.proofs.BegunLemmas.{Fits}
use Rattle.room_history.proofs.LeftLemmas.{left-after}
use Rattle.room_history.proofs.NextLemmas.{AreNew, all_new, long}

left_new : (history : History) (diff : RecordOps) → AreNew history diff → left_under (records_of history) diff ≡ left_of diff
left_new history [] new = refl
left_new history (c ∷ diff) new = (λ i. (c.0, raw c.1 (new.0 i)) ∷ left_new history diff new.1 i)

pub trees_alike : (f g : ℕ → RecordOps) → ((n : ℕ) → f n ≡ g n) → (a n : ℕ) → trees_after f a n ≡ trees_after g a n
trees_alike f g alike a zero = refl
trees_alike f g alike a (suc n) = (λ i. trees_alike f g alike a n i ++ (record { clock = pos (a + suc n); entry = record { diff = alike (a + suc n) i; author = None }; after = left_of (alike (a + suc n) i) }) ∷ [])

trees_long : (f : ℕ → RecordOps) (a n : ℕ) → length (trees_after f a n) ≡ n
trees_long f a zero = refl
trees_long f a (suc n) = let ih = trees_long f a n in let more = length-append (trees_after f a n) (tree_at f (a + suc n) ∷ []) in omega arith

trees_split : (f : ℕ → RecordOps) (a n : ℕ) → trees_after f 0 (a + n) ≡ trees_after f 0 a ++ trees_after f a n
trees_split f a zero = let same : a + 0 ≡ a = omega arith in ap (trees_after f 0) same ∙ sym (append-nil (trees_after f 0 a))
trees_split f a (suc n) =
    let next : a + suc n ≡ suc (a + n) = omega arith in
    let clock : 0 + suc (a + n) ≡ a + suc n = omega arith in
    ap (trees_after f 0) next
    ∙ (λ i. trees_split f a n i ++ tree_at f (clock i) ∷ [])
    ∙ append_assoc (trees_after f 0 a) (trees_after f a n) (tree_at f (a + suc n) ∷ [])

drop_front : {X : Type 0} (xs ys : List X) → drop (length xs) (xs ++ ys) ≡ ys
drop_front [] ys = refl
drop_front (x ∷ xs) ys = drop_front xs ys

-- the last of all
pub trees_last : (f : ℕ → RecordOps) (n : ℕ) → keep_last MOST_TOLD (trees_after f 0 n) ≡ trees_after f (n - MOST_TOLD) (min n MOST_TOLD)
trees_last f n =
    let a = n - MOST_TOLD in
    let k = min n MOST_TOLD in
    let whole : n ≡ a + k = omega arith in
    let split : trees_after f 0 n ≡ trees_after f 0 a ++ trees_after f a k = ap (trees_after f 0) whole ∙ trees_split f a k in
    let long : length (trees_after f 0 n) - MOST_TOLD ≡ length (trees_after f 0 a) = ap (λ m. m - MOST_TOLD) (trees_long f 0 n) ∙ sym (trees_long f 0 a) in
    (λ i. drop (long i) (split i)) ∙ drop_front (trees_after f 0 a) (trees_after f a k)

-- the last ones with one more, as long as there are few
pub next_tree : (f : ℕ → RecordOps) (lo at capacity : ℕ) (old new : List RecentTree) (tree : RecentTree) → lo ≤ at → at < lo + MOST_TOLD → capacity ≡ MOST_TOLD
    → old ≡ trees_after f lo (at - lo) → new ≡ keep_last capacity (old ++ tree ∷ []) → tree ≡ tree_at f (suc at) → new ≡ trees_after f lo (suc at - lo)
next_tree f lo at capacity old new tree from few full was is one =
    let k = at - lo in
    let clock : suc at ≡ lo + suc k = omega arith in
    let count : suc at - lo ≡ suc k = omega arith in
    let long : length (trees_after f lo k ++ tree_at f (lo + suc k) ∷ []) ≡ k + 1 =
    length-append (trees_after f lo k) (tree_at f (lo + suc k) ∷ []) ∙ ap (λ n. n + 1) (trees_long f lo k) in
    let nothing : length (trees_after f lo k ++ tree_at f (lo + suc k) ∷ []) - MOST_TOLD ≡ 0 = omega arith in
    is ∙ (λ i. keep_last (full i) (was i ++ one i ∷ [])) ∙ ap (λ n. keep_last MOST_TOLD (trees_after f lo k ++ tree_at f n ∷ [])) clock
    ∙ ap (λ n. drop n (trees_after f lo k ++ tree_at f (lo + suc k) ∷ [])) nothing
    ∙ ap (trees_after f lo) (sym count)

module _ (saved : SavedRoom) (fits : Fits saved) where
  newest_is : (n : ℕ) → newest (record { diff = diff_at saved (suc n); author = None }) (begun_to saved n) ≡ tree_at (diff_at saved) (suc n)
  newest_is n =
      let diff = diff_at saved (suc n) in
      let entry : Entry = record { diff = diff; author = None } in
      let after : map (λ c. (c.0, value_at (records_of (entry ∷ begun_to saved n)) c.0)) diff ≡ left_of diff =
      left-after diff (records_of (begun_to saved n)) (rising-diff saved (suc n)) ∙ left_new (begun_to saved n) diff (all_new saved fits n) in
      (λ i. record { clock = pos (suc (long saved n i)); entry = entry; after = after i })

  pub trees_are : (n : ℕ) → trees_of (begun_to saved n) ≡ trees_after (diff_at saved) 0 n
  trees_are zero = refl
  trees_are (suc n) =
      let clock : suc n ≡ 0 + suc n = omega arith in
      (λ i. trees_are n i ++ newest_is n i ∷ []) ∙ ap (λ m. trees_after (diff_at saved) 0 n ++ tree_at (diff_at saved) m ∷ []) clock
