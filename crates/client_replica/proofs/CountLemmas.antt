-- How many edits name an id.
use Rattle.std.proofs.Common.{◌≡◌, ◌<◌, ◌+◌, ℕ, zero, suc, List, [], ◌∷◌, ◌++◌, drop, Bool, true, false, cond, ◌||◌, slice_get, Some, zero-add, refl, sym, ap, subst, ◌∙◌, arith}
use Rattle.std.specs.Prelude.{is_some, IsTrue, ◌↔◌}
use Rattle.std.proofs.lemmas.List.Sums.{sum_by-cons, sum_by-append}
use Rattle.rooms_val.proofs.Truths.{or_false_left, or_false_right}
use Rattle.rooms_val.specs.Maps.{value_at}
use Rattle.field_ops.specs.RecordOps.{RecordOps}
use Rattle.room_model.specs.Replicas.{Work, edit, presence}
use Rattle.edit_names.specs.Names.{Names, count_at, once}
use Rattle.client_replica.specs.Works.{diffs_in, pushed_diff}
use Rattle.client_replica.specs.Stashes.{is_named, times, AreCounted}

pub times-append : (diffs more : List RecordOps) (id : List ℕ) → times (diffs ++ more) id ≡ times diffs id + times more id
times-append diffs more id = sum_by-append (λ d. once d id) diffs more

pub times-more : (diffs : List RecordOps) (diff : RecordOps) (id : List ℕ) → times (diffs ++ diff ∷ []) id ≡ times diffs id + once diff id
times-more diffs diff id = times-append diffs (diff ∷ []) id ∙ ap (λ n. times diffs id + n) (zero-add (once diff id))

times_cons : (work : Work) (works : List Work) (id : List ℕ) → times (diffs_in (work ∷ works)) id ≡ once (pushed_diff (Some work)) id + times (diffs_in works) id
times_cons (edit diff) works id = sum_by-cons (λ d. once d id) diff (diffs_in works)
times_cons (presence d) works id = omega arith

times_after : (works : List Work) (k : ℕ) (id : List ℕ) → times (diffs_in (drop k works)) id ≡ once (pushed_diff (slice_get works k)) id + times (diffs_in (drop (suc k) works)) id
times_after [] zero id = refl
times_after [] (suc k) id = refl
times_after (work ∷ works) zero id = times_cons work works id
times_after (work ∷ works) (suc k) id = times_after works k id

-- the edits from a place on are the one there, if it is one, and those that follow it
pub times_left : (works : List Work) (k : ℕ) (id : List ℕ) → times (diffs_in (drop k works)) id ≡ once (pushed_diff (slice_get works k)) id + times (diffs_in (drop (k + 1) works)) id
times_left works k id =
    subst (λ n. times (diffs_in (drop k works)) id ≡ once (pushed_diff (slice_get works k)) id + times (diffs_in (drop n works)) id) (let next : suc k ≡ k + 1 = omega arith in next) (times_after works k id)

named_none : (diffs : List RecordOps) (id : List ℕ) → is_named diffs id ≡ false → times diffs id ≡ 0
named_none [] id none = refl
named_none (diff ∷ diffs) id none =
    let counted = sum_by-cons (λ d. once d id) diff diffs in
    let here = ap {B = ℕ} (λ b. cond b 1 0) (or_false_left (is_some (value_at diff id)) (is_named diffs id) none) in
    let later = named_none diffs id (or_false_right (is_some (value_at diff id)) (is_named diffs id) none) in
    omega (arith, counted, here, later)

named_some : (diffs : List RecordOps) (id : List ℕ) → is_named diffs id ≡ true → 0 < times diffs id
named_some [] id some = absurd (let no : false ≡ true = some in (cc))
named_some (diff ∷ diffs) id some = elim (is_some (value_at diff id)) as (λ b. is_some (value_at diff id) ≡ b → b || is_named diffs id ≡ true → 0 < times (diff ∷ diffs) id) [
  | true ↦ λ is _. let counted = sum_by-cons (λ d. once d id) diff diffs in let here = ap {B = ℕ} (λ b. cond b 1 0) is in omega (arith, counted, here)
  | false ↦ λ _ rest. let counted = sum_by-cons (λ d. once d id) diff diffs in let later = named_some diffs id rest in omega (arith, counted, later)
] refl some

is_not_so : (b : Bool) → (IsTrue b → ⊥) → b ≡ false
is_not_so true never = absurd (never refl)
is_not_so false never = refl

-- a count tells whether an id is named
pub has_named : (has : Bool) (diffs : List RecordOps) (names : Names) (id : List ℕ) → (IsTrue has ↔ (0 < count_at names id)) → AreCounted diffs names → has ≡ is_named diffs id
has_named has diffs names id tells counted = elim (is_named diffs id) as (λ b. is_named diffs id ≡ b → has ≡ b) [
  | true ↦ λ is. tells.1 (let some = named_some diffs id is in let same = counted id in omega (arith, some, same))
  | false ↦ λ is. is_not_so has (λ told. let some = tells.0 told in let none = named_none diffs id is in let same = counted id in omega (arith, some, none, same))
] refl

pub none_counted : (works : List Work) → works ≡ [] → AreCounted (diffs_in works) []
none_counted works none id = sym (ap (λ ws. times (diffs_in ws) id) none)
