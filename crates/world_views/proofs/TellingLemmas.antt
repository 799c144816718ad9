-- What all clients have to tell where one alone may have something.
use Rattle.std.proofs.Common.{◌≡◌, ◌≢◌, ℕ, zero, suc, ◌+◌, List, [], ◌∷◌, ◌++◌, length, Some, map, refl, sym, ap, subst, ◌∙◌, slice_get, slice_set, append-nil, arith}
use Rattle.rooms_val.specs.Data.{Pairs}
use Rattle.record_store.specs.Seen.{Seen, records}
use Rattle.live_views.specs.Watches.{Watched, told_now, news}
use Rattle.sync_world.specs.Keeping.{AreKept}
use Rattle.world_views.specs.Views.{told_lines, clients_told, told_line, lines_of}
use Rattle.world_views.specs.Standing.{IsQuiet}
use Rattle.world_views.proofs.QuietLemmas.{quiet_stays}

-- what the stores of clients have
abbrev pub maps_of : List Seen → List Pairs
maps_of stores = map records stores

less_one : (a b : ℕ) → suc a ≡ suc b → a ≡ b
less_one a b is = omega (arith, is)

-- what is kept of all but the first
tail_kept : {C K : Type 0} (Is : C → K → Type 0) (c : C) (clients : List C) (k : K) (kept : List K) → AreKept Is (c ∷ clients) (k ∷ kept) → AreKept Is clients kept
tail_kept Is c clients k kept all = record { long = less_one (length kept) (length clients) all.long; each = λ n d x at there. all.each (suc n) d x at there }

-- where nobody has something to tell no line is told, and what was told stays
pub none_tells : (n : ℕ) (watched : List (List Watched)) (stores : List Seen) → AreKept IsQuiet watched stores
    → (told_lines n (maps_of stores) watched ≡ []) × (clients_told (maps_of stores) watched ≡ watched)
none_tells n [] [] quiet = (refl, refl)
none_tells n [] (s ∷ stores) quiet = absurd (let no : suc (length stores) ≡ 0 = quiet.long in cc)
none_tells n (ws ∷ watched) [] quiet = absurd (let no : 0 ≡ suc (length watched) = quiet.long in cc)
none_tells n (ws ∷ watched) (s ∷ stores) quiet =
    let head = quiet.each 0 ws s refl refl in
    let tail = none_tells (n + 1) watched stores (tail_kept IsQuiet ws watched s stores quiet) in (
      (λ i. map (told_line n) (head i) ++ tail.0 i),
      (λ i. quiet_stays (records s) 0 ws head i ∷ tail.1 i),
    )

-- all clients but one have nothing to tell
pub record AreQuietBut (number : ℕ) (watched : List (List Watched)) (stores : List Seen) : Type 0 where
  pub long : length stores ≡ length watched
  pub quiet : (n : ℕ) (ws : List Watched) (store : Seen) → n ≢ number → slice_get watched n ≡ Some ws → slice_get stores n ≡ Some store → IsQuiet ws store

-- then that one's lines are told, and no other's
pub one_tells : (n number : ℕ) (watched : List (List Watched)) (stores : List Seen) (ws : List Watched) (store : Seen) → AreQuietBut number watched stores
    → slice_get watched number ≡ Some ws → slice_get stores number ≡ Some store
    → (told_lines n (maps_of stores) watched ≡ lines_of (records store) (n + number) ws)
    × (clients_told (maps_of stores) watched ≡ slice_set watched number (map (told_now (records store)) ws))
one_tells n number [] stores ws store quiet at there = absurd (cc)
one_tells n number (vs ∷ watched) [] ws store quiet at there = absurd (cc)
one_tells n zero (vs ∷ watched) (s ∷ stores) ws store quiet at there =
    let same : vs ≡ ws = cc in
    let store_is : s ≡ store = cc in
    let tail = none_tells (n + 1) watched stores (record {
      long = less_one (length stores) (length watched) quiet.long;
      each = λ k us t is here. quiet.quiet (suc k) us t (λ e. absurd (let no : suc k ≡ zero = e in cc)) is here;
    }) in
    let first : n ≡ n + 0 = omega arith in (
      (λ i. lines_of (records (store_is i)) (first i) (same i) ++ tail.0 i) ∙ append-nil (lines_of (records store) (n + 0) ws),
      (λ i. map (told_now (records (store_is i))) (same i) ∷ tail.1 i),
    )
one_tells n (suc number) (vs ∷ watched) (s ∷ stores) ws store quiet at there =
    let head = quiet.quiet 0 vs s (λ e. absurd (let no : zero ≡ suc number = e in cc)) refl refl in
    let tail = one_tells (n + 1) number watched stores ws store (record {
      long = less_one (length stores) (length watched) quiet.long;
      quiet = λ k us t apart is here. quiet.quiet (suc k) us t (λ e. apart (less_one k number e)) is here;
    }) at there in
    let later : n + 1 + number ≡ n + suc number = omega arith in (
      (λ i. map (told_line n) (head i) ++ tail.0 i) ∙ ap (λ k. lines_of (records store) k ws) later,
      (λ i. quiet_stays (records s) 0 vs head i ∷ tail.1 i),
    )
