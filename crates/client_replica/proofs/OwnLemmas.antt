-- Commits of own first edits, and what a stash holds once a base went on.
use Rattle.std.proofs.Common.{◌≡◌, ◌≤◌, ◌+◌, ℕ, zero, suc, drop, slice_get, List, [], ◌∷◌, ◌++◌, length, Bool, true, false, cond, ◌||◌, ◌&&◌, Option, Some, None, refl, sym, ap, ◌∙◌, arith}
use Rattle.std.specs.Prelude.{is_some, unwrap_or}
use Rattle.std.specs.FinMap.Entries as entries
use Rattle.std.proofs.lemmas.List.Sums.{sum_by-cons}
use Rattle.std.proofs.lemmas.Cmp.{nat_list_cmp_total}
use Rattle.std.proofs.lemmas.List.{drop-drop}
use Rattle.room_model.specs.Replicas.{Work}
use Rattle.sync_msgs.specs.declared.data_event.DataEvent.{DataEvent}
use Rattle.std.specs.Ordering.{is_eq}
use Rattle.rooms_val.proofs.Truths.{or_false_left, or_false_right}
use Rattle.rooms_val.specs.Data.{Data, Pairs}
use Rattle.rooms_val.specs.Maps.{order, AreRising, value_at, with_key, without_key, ties}
use Rattle.rooms_val.proofs.MapsLemmas.{by_tie, order_itself, at-with_key, at-without_key, rising-without_key, none_later}
use Rattle.field_ops.specs.RecordOps.{RecordOps}
use Rattle.doc_model.specs.Documents.{step_at, step, replay}
use Rattle.doc_model.specs.Inverses.{record_after}
use Rattle.doc_model.proofs.InverseLemmas.{at-step_at}
use Rattle.doc_store.specs.Slots.{Slots}
use Rattle.client_replica.specs.Works.{operations}
use Rattle.client_replica.specs.Stashes.{under, is_named, IsStash}
use Rattle.client_replica.specs.NewBases.{IsLaid, NamesWithin}
use Rattle.client_replica.specs.Owns.{commits, are_own, settled}
use Rattle.client_replica.proofs.StashLemmas.{unwrap_there, some_is}

pub never : (P : Type 0) → false ≡ true → P
never P is = absurd cc

module _ (admits : List ℕ → Data → Bool) where
  pub replay-append : (m : Pairs) (diffs more : List RecordOps) → replay admits m (diffs ++ more) ≡ replay admits (replay admits m diffs) more
  replay-append m [] more = refl
  replay-append m (diff ∷ diffs) more = replay-append (step admits m diff) diffs more

  -- what a diff doesn't name stays
  unnamed-step : (m : Pairs) (diff : RecordOps) (q : List ℕ) → is_some (value_at diff q) ≡ false → value_at (step admits m diff) q ≡ value_at m q
  unnamed-step m [] q none = refl
  unnamed-step m (c ∷ diff) q none =
      by_tie (λ t. is_some (cond t (Some c.1) (value_at diff q)) ≡ false → value_at (step_at admits m c.0 c.1) q ≡ cond t (record_after admits c.0 (Some c.1) (value_at m c.0)) (value_at m q)
      → value_at (step admits (step_at admits m c.0 c.1) diff) q ≡ value_at m q) q c.0
      (λ same is at. never _ (sym is))
      (λ is at. unnamed-step (step_at admits m c.0 c.1) diff q is ∙ at)
      none (at-step_at admits m c.0 q c.1)

  -- what no diff names stays
  pub unnamed : (m : Pairs) (diffs : List RecordOps) (q : List ℕ) → is_named diffs q ≡ false → value_at (replay admits m diffs) q ≡ value_at m q
  unnamed m [] q none = refl
  unnamed m (diff ∷ diffs) q none =
      unnamed (step admits m diff) diffs q (or_false_right (is_some (value_at diff q)) (is_named diffs q) none) ∙ unnamed-step m diff q (or_false_left (is_some (value_at diff q)) (is_named diffs q) none)

-- a rising map has no more ids than diffs have operations, if they name each
fewer : {X : Type 0} (es : List (List ℕ × X)) (k : List ℕ) (b : Bool) → cond b 1 0 + length (without_key es k) ≡ length es → length es ≤ length (without_key es k) + 1
fewer es k true is = omega (arith, is)
fewer es k false is = omega (arith, is)

not_named : (s : List ℕ × Option Data) (stash : Slots) → ((q : List ℕ) → is_some (value_at (s ∷ stash) q) ≡ true → false ≡ true) → true ≡ false
not_named s stash named = sym (named s.0 (ap (λ o. is_some (cond (is_eq o) (Some s.1) (value_at stash s.0))) (order_itself s.0)))

few_ops : (diff : RecordOps) (diffs : List RecordOps) (stash : Slots) → AreRising stash → ((q : List ℕ) → is_some (value_at stash q) ≡ true → is_some (value_at diff q) || is_named diffs q ≡ true)
    → ((s : Slots) → AreRising s → ((q : List ℕ) → is_some (value_at s q) ≡ true → is_named diffs q ≡ true) → length s ≤ operations diffs) → length stash ≤ length diff + operations diffs
few_ops [] diffs stash rising named rest = let few = rest stash rising named in omega (arith, few)
few_ops (c ∷ diff) diffs stash rising named rest =
    let left = without_key stash c.0 in
    let fewer_left = fewer stash c.0 (is_some (value_at stash c.0)) (entries.length_without order nat_list_cmp_total c.0 stash rising) in
    let few = few_ops diff diffs left (rising-without_key stash c.0 rising) (λ q is.
    by_tie (λ t. is_some (cond t None (value_at stash q)) ≡ true → (is_some (value_at stash q) ≡ true → is_some (cond t (Some c.1) (value_at diff q)) || is_named diffs q ≡ true)
    → is_some (value_at diff q) || is_named diffs q ≡ true) q c.0
    (λ same was name. never _ was) (λ was name. name was) (sym (ap is_some (at-without_key stash c.0 q)) ∙ is) (named q)) rest in
    omega (arith, few, fewer_left)

pub few_named : (diffs : List RecordOps) (stash : Slots) → AreRising stash → ((q : List ℕ) → is_some (value_at stash q) ≡ true → is_named diffs q ≡ true) → length stash ≤ operations diffs
few_named [] [] rising named = omega arith
few_named [] (s ∷ stash) rising named = never _ (sym (not_named s stash named))
few_named (diff ∷ diffs) stash rising named =
    let few = few_ops diff diffs stash rising named (few_named diffs) in let counted = sum_by-cons length diff diffs in omega (arith, few, counted)

not_kept : (named : Bool) (r : Option Data) → is_some (cond named (Some r) None) ≡ false → named ≡ false
not_kept true r is = absurd cc
not_kept false r is = refl

-- one id of the changes comes into the stash
abbrev pub settled_one : List RecordOps → Slots → List ℕ → Option Data → Slots
settled_one diffs stash k r = cond (is_named diffs k) (with_key stash k r) (without_key stash k)

at-settled_one : (diffs : List RecordOps) (stash : Slots) (k q : List ℕ) (r : Option Data) → value_at (settled_one diffs stash k r) q ≡ cond (ties q k) (cond (is_named diffs k) (Some r) None) (value_at stash q)
at-settled_one diffs stash k q r = elim (is_named diffs k) as (λ b. value_at (cond b (with_key stash k r) (without_key stash k)) q ≡ cond (ties q k) (cond b (Some r) None) (value_at stash q)) [
  | true ↦ at-with_key stash k q r
  | false ↦ at-without_key stash k q
]

pub settled-next : (diffs : List RecordOps) (k : List ℕ) (r : Option Data) (changes stash : Slots) (q : List ℕ) → AreRising ((k, r) ∷ changes)
    → settled diffs changes (settled_one diffs stash k r) q ≡ settled diffs ((k, r) ∷ changes) stash q
settled-next diffs k r changes stash q rising =
    ap (λ o. cond (is_some (value_at changes q)) (cond (is_named diffs q) (value_at changes q) None) o) (at-settled_one diffs stash k q r)
    ∙ by_tie (λ t. cond (is_some (value_at changes q)) (cond (is_named diffs q) (value_at changes q) None) (cond t (cond (is_named diffs k) (Some r) None) (value_at stash q))
    ≡ cond (is_some (cond t (Some r) (value_at changes q))) (cond (is_named diffs q) (cond t (Some r) (value_at changes q)) None) (value_at stash q)) q k
    (λ same.
    ap (λ o. cond (is_some o) (cond (is_named diffs q) o None) (cond (is_named diffs k) (Some r) None)) (ap (value_at changes) same ∙ none_later (k, r) changes rising)
    ∙ ap (λ x. cond (is_named diffs x) (Some r) None) (sym same)) refl

-- diffs still name ids of the stash alone
pub names-next : (diffs : List RecordOps) (k : List ℕ) (r : Option Data) (stash : Slots) → NamesWithin diffs stash → NamesWithin diffs (settled_one diffs stash k r)
names-next diffs k r stash names q none =
    by_tie (λ t. is_some (cond t (cond (is_named diffs k) (Some r) None) (value_at stash q)) ≡ false → is_named diffs q ≡ false) q k
    (λ same was. ap (is_named diffs) same ∙ not_kept (is_named diffs k) r was)
    (λ was. names q was) (sym (ap is_some (at-settled_one diffs stash k q r)) ∙ none)

-- what a stash holds once a base went on
settled_base : (named : Bool) (o : Option (Option Data)) (x y b : Option Data) → is_some o ≡ true → unwrap_or o x ≡ b → (named ≡ false → y ≡ b) → unwrap_or (cond named o None) y ≡ b
settled_base true o x y b some is unnamed = unwrap_there o some y x ∙ is
settled_base false o x y b some is unnamed = unnamed refl

settled_exact : (named : Bool) (o : Option (Option Data)) → is_some o ≡ true → is_some (cond named o None) ≡ named
settled_exact true o some = some
settled_exact false o some = refl

only_left : (before left : Bool) → (before ≡ true → false ≡ true) → before || left ≡ left
only_left true left touched = never _ (touched refl)
only_left false left touched = refl

still_under : (o : Option (Option Data)) (shown was b : Option Data) → unwrap_or o was ≡ b → (is_some o ≡ false → shown ≡ b) → unwrap_or o shown ≡ b
still_under (Some r) shown was b is free = is
still_under None shown was b is free = free refl

module _ (base m shown : Pairs) (before left : List RecordOps) (stash changes new : Slots) where
  -- what is left of the stash lies under the records that the diffs left make of a base that went on by changes
  pub settled_stash : IsLaid base m stash changes → ((q : List ℕ) → is_named before q ≡ true → is_some (value_at changes q) ≡ true) → ((q : List ℕ) → is_some (value_at stash q) ≡ is_named before q || is_named left q)
      → ((q : List ℕ) → value_at new q ≡ settled left changes stash q) → AreRising new → ((q : List ℕ) → is_named left q ≡ false → value_at shown q ≡ value_at base q) → IsStash base left shown new
  settled_stash lies touched held is rising free =
      let exact : (q : List ℕ) → is_some (value_at new q) ≡ is_named left q = λ q.
      ap is_some (is q)
      ∙ elim (is_some (value_at changes q)) as (λ b. is_some (value_at changes q) ≡ b → is_some (cond b (cond (is_named left q) (value_at changes q) None) (value_at stash q)) ≡ is_named left q) [
        | true ↦ λ some. settled_exact (is_named left q) (value_at changes q) some
        | false ↦ λ none. held q ∙ only_left (is_named before q) (is_named left q) (λ named. sym none ∙ touched q named)
      ] refl in
      record {
        base_is = λ q. ap (λ o. unwrap_or o (value_at shown q)) (is q)
            ∙ elim (is_some (value_at changes q)) as (λ b. is_some (value_at changes q) ≡ b → unwrap_or (cond b (cond (is_named left q) (value_at changes q) None) (value_at stash q)) (value_at shown q) ≡ value_at base q) [
              | true ↦ λ some. settled_base (is_named left q) (value_at changes q) (under stash m q) (value_at shown q) (value_at base q) some (lies q) (free q)
              | false ↦ λ none. still_under (value_at stash q) (value_at shown q) (value_at m q) (value_at base q)
                  (sym (ap (λ o. unwrap_or o (under stash m q)) (some_is (value_at changes q) none)) ∙ lies q)
                  (λ gone. free q (or_false_right (is_named before q) (is_named left q) (sym (held q) ∙ gone)))
            ] refl;
        exact = exact;
        rising = rising;
        few = few_named left new rising (λ q some. sym (exact q) ∙ some);
      }

get-drop : {X : Type 0} (xs : List X) (i : ℕ) → slice_get (drop i xs) 0 ≡ slice_get xs i
get-drop xs zero = refl
get-drop [] (suc i) = refl
get-drop (x ∷ xs) (suc i) = get-drop xs i

-- whether the events are commits is left to those that follow one
pub own-next : (is_doc : List ℕ → Bool) (works : List Work) (i : ℕ) (event : DataEvent) (all events : List DataEvent) → all ≡ event ∷ events
    → are_own is_doc (drop i works) all ≡ commits is_doc (slice_get works i) event && are_own is_doc (drop (i + 1) works) events
own-next is_doc works i event all events is =
    ap (are_own is_doc (drop i works)) is
    ∙ (λ j. commits is_doc (get-drop works i j) event && are_own is_doc (drop-drop 1 i works j) events)

-- what an operation leaves where it acts
pub left_after : (acts : Bool) (left after : Option Data) (before : Option Data) → Some left ≡ cond acts (Some after) None → left ≡ cond acts after before
left_after true left after before is = ap (λ o. unwrap_or o None) is
left_after false left after before is = absurd cc
