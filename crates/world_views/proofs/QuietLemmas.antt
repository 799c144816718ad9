-- Who has nothing to tell tells nothing, and once all was told nobody has.
use Rattle.std.proofs.Common.{◌≡◌, ℕ, ◌+◌, List, [], ◌∷◌, ◌++◌, length, Bool, true, false, Option, Some, None, map, is_eq, refl, sym, ap, subst, ◌∙◌, slice_get}
use Rattle.std.specs.Prelude.{if◌then◌else◌}
use Rattle.std.specs.Cmp.{tied_itself}
use Rattle.std.specs.Option.{option_map_or}
use Rattle.rooms_val.proofs.Truths.{is_Equal}
use Rattle.rooms_val.specs.Data.{Data, Pairs}
use Rattle.rooms_val.specs.Order.{data_cmp}
use Rattle.rooms_val.specs.OrderLaws.{same_data, data_total}
use Rattle.shape_tree.specs.Queries.{is_same}
use Rattle.shape_tree.specs.Views.{told}
use Rattle.live_views.specs.Watches.{Watched, told_now, is_told, news_of, news_from}
use Rattle.world_views.specs.Views.{told_lines, clients_told, told_line}

-- what was told last stays so where it is told again
told_again : (m : Pairs) (w : Watched) → is_told m w ≡ true → told_now m w ≡ w
told_again m w is =
    elim w.told as (λ o. option_map_or (λ d. is_same d (told m w.view)) o false ≡ true → w.told ≡ o → told_now m w ≡ w) [
      | None ↦ λ test at. absurd (let no : false ≡ true = test in cc)
      | Some d ↦ λ test at.
          let same = same_data d (told m w.view) (is_Equal (data_cmp d (told m w.view)) test) in
          let last : Some (told m w.view) ≡ w.told = ap (λ e. Some e) (sym same) ∙ sym at in
          λ i. record w { told = last i }
    ] is refl

told_first : (b : Bool) (x : ℕ × Data) (rest : List (ℕ × Data)) → (if b then [] else (x ∷ [])) ++ rest ≡ [] → (b ≡ true) × (rest ≡ [])
told_first true x rest is = (refl, is)
told_first false x rest is = absurd (cc)

-- a client that has nothing to tell keeps what was told
pub quiet_stays : (m : Pairs) (n : ℕ) (ws : List Watched) → news_from m n (map Some ws) ≡ [] → map (told_now m) ws ≡ ws
quiet_stays m n [] is = refl
quiet_stays m n (w ∷ ws) is =
    let parts = told_first (is_told m w) (n, told m w.view) (news_from m (n + 1) (map Some ws)) is in
    λ i. told_again m w parts.0 i ∷ quiet_stays m (n + 1) ws parts.1 i

-- and has nothing to tell once all was told
pub quiet_after : (m : Pairs) (n : ℕ) (ws : List Watched) → news_from m n (map Some (map (told_now m) ws)) ≡ []
quiet_after m n [] = refl
quiet_after m n (w ∷ ws) =
    let test : is_told m (told_now m w) ≡ true = ap is_eq (tied_itself data_total (told m w.view)) in
    (λ i. (if (test i) then [] else ((n, told m w.view) ∷ [])) ++ news_from m (n + 1) (map Some (map (told_now m) ws))) ∙ quiet_after m (n + 1) ws

-- no line is left once all was told
pub silent_after : (n : ℕ) (maps : List Pairs) (watched : List (List Watched)) → told_lines n maps (clients_told maps watched) ≡ []
silent_after n [] [] = refl
silent_after n [] (ws ∷ watched) = refl
silent_after n (m ∷ maps) [] = refl
silent_after n (m ∷ maps) (ws ∷ watched) = ap (λ news. map (told_line n) news ++ told_lines (n + 1) maps (clients_told maps watched)) (quiet_after m 0 ws) ∙ silent_after (n + 1) maps watched
