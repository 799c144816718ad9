-- What patches, inverses and patches in turn make of each key, and the laws that follow.
use Rattle.std.proofs.Common.{◌≡◌, ℕ, cond, List, [], ◌∷◌, Option, Some, None, option_map, unwrap_or, refl, sym, ap, ◌∙◌}
use Rattle.std.specs.Option.{option_and_then}
use Rattle.rooms_val.specs.Data.{Pairs}
use Rattle.rooms_val.specs.Maps.{AreRising, value_at}
use Rattle.field_ops.specs.ValueOps.{ValueOpTree, ValueOpTrees, no_edits, edit_at, edits_of, Patch}
use Rattle.field_ops.specs.Patched.{edited, patched, value_after}
use Rattle.field_ops.specs.Inverses.{undo, inverted}
use Rattle.field_ops.specs.Compose.{after, both, edit_after}
use Rattle.rooms_val.proofs.MapsLemmas.{by_tie, at-set_at, at-with_key, rising-set_at, rising-with_key}

pub rising-patched : (es : ValueOpTrees) (f : Pairs) → AreRising f → AreRising (patched es f)
rising-patched no_edits f rising = rising
rising-patched (edit_at k e es) f rising = rising-set_at (patched es f) k (edited e (value_at f k)) (rising-patched es f rising)

pub at-patched : (p : Patch) (f : Pairs) (k : List ℕ) → value_at (patched (edits_of p) f) k ≡ value_after (value_at p k) (value_at f k)
at-patched [] f k = refl
at-patched (e ∷ p) f k =
    at-set_at (patched (edits_of p) f) e.0 k (edited e.1 (value_at f e.0))
    ∙ by_tie (λ b. cond b (edited e.1 (value_at f e.0)) (value_at (patched (edits_of p) f) k) ≡ value_after (cond b (Some e.1) (value_at p k)) (value_at f k)) k e.0
    (λ same. ap (λ l. edited e.1 (value_at f l)) (sym same)) (at-patched p f k)

pub rising-inverted : (es : ValueOpTrees) (f : Pairs) → AreRising (inverted es f)
rising-inverted no_edits f = tt
rising-inverted (edit_at k e es) f = rising-set_at (inverted es f) k (undo e (value_at f k)) (rising-inverted es f)

pub at-inverted : (p : Patch) (f : Pairs) (k : List ℕ) → value_at (inverted (edits_of p) f) k ≡ option_and_then (λ e. undo e (value_at f k)) (value_at p k)
at-inverted [] f k = refl
at-inverted (e ∷ p) f k =
    at-set_at (inverted (edits_of p) f) e.0 k (undo e.1 (value_at f e.0))
    ∙ by_tie (λ b. cond b (undo e.1 (value_at f e.0)) (value_at (inverted (edits_of p) f) k) ≡ option_and_then (λ d. undo d (value_at f k)) (cond b (Some e.1) (value_at p k))) k e.0
    (λ same. ap (λ l. undo e.1 (value_at f l)) (sym same)) (at-inverted p f k)

pub rising-both : (q : ValueOpTrees) (p : Patch) → AreRising p → AreRising (both q p)
rising-both no_edits p rising = rising
rising-both (edit_at k e q) p rising = rising-with_key (both q p) k _ (rising-both q p rising)

at_both : (e : ValueOpTree) (first : Option ValueOpTree) → Some (unwrap_or (option_map (λ d. after e d) first) e) ≡ edit_after (Some e) first
at_both e None = refl
at_both e (Some d) = refl

pub at-both : (q p : Patch) (k : List ℕ) → value_at (both (edits_of q) p) k ≡ edit_after (value_at q k) (value_at p k)
at-both [] p k = refl
at-both (e ∷ q) p k =
    at-with_key (both (edits_of q) p) e.0 k (unwrap_or (option_map (λ d. after e.1 d) (value_at p e.0)) e.1)
    ∙ by_tie (λ b. cond b (Some (unwrap_or (option_map (λ d. after e.1 d) (value_at p e.0)) e.1)) (value_at (both (edits_of q) p) k) ≡ edit_after (cond b (Some e.1) (value_at q k)) (value_at p k)) k e.0
    (λ same. at_both e.1 (value_at p e.0) ∙ ap (λ l. edit_after (Some e.1) (value_at p l)) (sym same)) (at-both q p k)
