-- What a client watches, as the watches of a store have it: a further view, and what was told.
use Rattle.std.proofs.Common.{◌≡◌, ◌≢◌, ℕ, zero, suc, ◌<◌, ◌≤◌, nat_le, nat_lt, Bool, true, false, List, [], ◌∷◌, ◌++◌, length, Option, Some, None, is_some, map, refl, sym, ap, subst, ◌∙◌, arith}
use Rattle.std.specs.Prelude.{slice_index_or, IsNone, IsSome}
use Rattle.std.proofs.lemmas.Bool.Decides.{nat_tests}
use Rattle.rooms_val.specs.Data.{Pairs}
use Rattle.shape_tree.specs.declared.view.View.{View}
use Rattle.signal_core.specs.Watches.{watch_at, IsLeastFree, IsFull}
use Rattle.signal_core.specs.declared.watch.TheConstants.{MOST_WATCHES}
use Rattle.signal_core.specs.declared.watch.Watch.{Watch}
use Rattle.tl_rules.specs.declared.key.TlKey.{TlKey}
use Rattle.tl_rules.specs.declared.value.TlValue.{TlValue}
use Rattle.live_views.specs.Telling as telling
use Rattle.live_views.specs.Watches as views
use Rattle.live_views.specs.Watches.{Watched, Stand, StandsFor, IsWatching, told_now}

-- a watch of which nothing was told
abbrev pub new_watch : View → Watched
new_watch view = record { view = view; told = None }

-- what a client watches, as the watches of a store have it
abbrev pub some_of : List Watched → List (Option Watched)
some_of ws = map Some ws

below : (ws : List Watched) (n : ℕ) → n < length ws → (w : Watched) × (slice_index_or (some_of ws) n None ≡ Some w)
below [] n less = absurd (omega arith)
below (w ∷ ws) zero less = (w, refl)
below (w ∷ ws) (suc n) less = below ws n (omega arith)

behind : (ws : List Watched) (n : ℕ) → length ws ≤ n → slice_index_or (some_of ws) n None ≡ None
behind [] n more = refl
behind (w ∷ ws) zero more = absurd (omega arith)
behind (w ∷ ws) (suc n) more = behind ws n (omega arith)

not_none : {X : Type 0} (o : Option X) (x : X) → o ≡ Some x → IsNone o → ⊥
not_none o x is none = absurd (let no : true ≡ false = sym (ap is_some is) ∙ none in cc)

not_some : {X : Type 0} (o : Option X) → o ≡ None → IsSome o → ⊥
not_some o is some = absurd (let no : false ≡ true = sym (ap is_some is) ∙ some in cc)

is_there : {X : Type 0} (o : Option X) (x : X) → o ≡ Some x → IsSome o
is_there o x is = ap is_some is

module _ (slots : List (Option (Watch TlKey TlValue))) (ws : List Watched) (stand : Stand slots (some_of ws)) where
  slot_below : (n : ℕ) → n < length ws → (w : Watch TlKey TlValue) × (watch_at slots n ≡ Some w)
  slot_below n less =
      let at = below ws n less in
      let is = subst (StandsFor (watch_at slots n)) at.1 (stand n) in
      (record { key = telling.key_of at.0.view; told = is.0 }, is.1)

  slot_behind : (n : ℕ) → length ws ≤ n → watch_at slots n ≡ None
  slot_behind n more = subst (StandsFor (watch_at slots n)) (behind ws n more) (stand n)

  -- the least free number is how many views are watched
  pub least_free : (n : ℕ) → IsLeastFree slots n → n ≡ length ws
  least_free n least =
      let reached : length ws ≤ n = at_least (nat_lt n (length ws)) refl in
      let within : n ≤ length ws = at_most (nat_lt (length ws) n) refl in
      omega arith
    where
      at_least : (b : Bool) → nat_lt n (length ws) ≡ b → length ws ≤ n
      at_least true is = let less : n < length ws = grind (arith, nat_tests) in let at = slot_below n less in absurd (not_none (watch_at slots n) at.0 at.1 least.free)
      at_least false is = grind (arith, nat_tests)

      at_most : (b : Bool) → nat_lt (length ws) n ≡ b → n ≤ length ws
      at_most true is =
          let less : length ws < n = grind (arith, nat_tests) in
          absurd (not_some (watch_at slots (length ws)) (slot_behind (length ws) (omega arith)) (least.below (length ws) less))
      at_most false is = grind (arith, nat_tests)

  -- a client watches as many views as may be exactly if each number of its store is watched
  pub full_where : IsFull slots → nat_le MOST_WATCHES (length ws) ≡ true
  full_where full = by_test (nat_le MOST_WATCHES (length ws)) refl
    where
      by_test : (b : Bool) → nat_le MOST_WATCHES (length ws) ≡ b → b ≡ true
      by_test true is = refl
      by_test false is =
          let less : length ws < MOST_WATCHES = grind (arith, nat_tests) in
          absurd (not_some (watch_at slots (length ws)) (slot_behind (length ws) (omega arith)) (full (length ws) less))

  pub not_full : (IsFull slots → ⊥) → nat_le MOST_WATCHES (length ws) ≡ false
  not_full free = by_test (nat_le MOST_WATCHES (length ws)) refl
    where
      by_test : (b : Bool) → nat_le MOST_WATCHES (length ws) ≡ b → b ≡ false
      by_test true is = absurd (free (λ number less.
          let within : number < length ws = let more : MOST_WATCHES ≤ length ws = grind (arith, nat_tests) in omega arith in
          let at = slot_below number within in
          is_there (watch_at slots number) at.0 at.1))
      by_test false is = refl

-- a further view is watched by the number behind all others
added_here : (ws : List Watched) (w : Watched) → slice_index_or (some_of (ws ++ w ∷ [])) (length ws) None ≡ Some w
added_here [] w = refl
added_here (v ∷ ws) w = added_here ws w

added_apart : (ws : List Watched) (w : Watched) (n : ℕ) → n ≢ length ws → slice_index_or (some_of (ws ++ w ∷ [])) n None ≡ slice_index_or (some_of ws) n None
added_apart [] w zero apart = absurd (apart refl)
added_apart [] w (suc n) apart = refl
added_apart (v ∷ ws) w zero apart = refl
added_apart (v ∷ ws) w (suc n) apart = added_apart ws w n (λ e. apart (ap suc e))

pub adds_watch : (ws : List Watched) (view : View) (n : ℕ) → n ≡ length ws → IsWatching (some_of ws) (some_of (ws ++ new_watch view ∷ [])) n view
adds_watch ws view n is =
    subst (λ k. IsWatching (some_of ws) (some_of (ws ++ new_watch view ∷ [])) k view) (sym is)
    (added_here ws (new_watch view), λ other apart. added_apart ws (new_watch view) other apart)

-- all were told in a store as they were of a client
pub told_alike : (m : Pairs) (ws : List Watched) → views.all_told m (some_of ws) ≡ some_of (map (told_now m) ws)
told_alike m [] = refl
told_alike m (w ∷ ws) = ap (λ more. Some (told_now m w) ∷ more) (told_alike m ws)
