-- What a stash holds as edits are replayed, and that it brings back the base.
use Rattle.std.proofs.Common.{◌≡◌, ◌≤◌, ◌+◌, ℕ, List, [], ◌∷◌, ◌++◌, length, map, take, drop, get_or, Result, Ok, Err, Bool, true, false, cond, ◌||◌, Option, Some, None, refl, sym, ap, ◌∙◌, arith}
use Rattle.std.specs.Prelude.{is_some, unwrap_or, OnOk, OnErr}
use Rattle.std.proofs.lemmas.Grind.{take_at_read}
use Rattle.std.proofs.lemmas.List.{drop_all}
use Rattle.std.specs.FinMap.Entries as entries
use Rattle.std.proofs.lemmas.Cmp.{nat_list_cmp_total}
use Rattle.rooms_val.specs.Data.{Data, Pairs}
use Rattle.rooms_val.specs.Maps.{order, AreRising, value_at, set_at, with_key, without_key, ties, seen}
use Rattle.field_ops.specs.RecordOps.{RecordOpTree}
use Rattle.rooms_val.proofs.MapsLemmas.{by_tie, at-set_at, at-with_key, none_later, rising-set_at, rising-with_key, rising_rest, without_absent, same_pairs, at-without_key, rising-without_key, at-seen, taken_first}
use Rattle.doc_model.specs.Documents.{step_at}
use Rattle.doc_model.specs.Inverses.{record_after}
use Rattle.doc_model.proofs.InverseLemmas.{at-step_at}
use Rattle.doc_store.specs.Slots.{Slots}
use Rattle.client_replica.specs.Stashes.{under, written_over, kept, without_all}
use Rattle.room_model.proofs.LookUpLemmas.{or_assoc}
use Rattle.edit_names.proofs.NamesLemmas.{some-map}

-- what stands under an id once a stash is written over the records
pub at-written_over : (stash : Slots) (m : Pairs) (q : List ℕ) → AreRising stash → value_at (written_over stash m) q ≡ under stash m q
at-written_over [] m q rising = refl
at-written_over (s ∷ stash) m q rising =
    at-written_over stash (set_at m s.0 s.1) q (rising_rest s stash rising)
    ∙ ap (unwrap_or (value_at stash q)) (at-set_at m s.0 q s.1)
    ∙ by_tie (λ t. unwrap_or (value_at stash q) (cond t s.1 (value_at m q)) ≡ unwrap_or (cond t (Some s.1) (value_at stash q)) (value_at m q)) q s.0
    (λ same. ap (λ o. unwrap_or o s.1) (ap (value_at stash) same ∙ none_later s stash rising)) refl

pub rising-written_over : (stash : Slots) (m : Pairs) → AreRising m → AreRising (written_over stash m)
rising-written_over [] m rising = rising
rising-written_over (s ∷ stash) m rising = rising-written_over stash (set_at m s.0 s.1) (rising-set_at m s.0 s.1 rising)

-- a rising map to which each id gives what the stash, written over the records, gives
pub written_is : (stash : Slots) (m base : Pairs) → AreRising stash → AreRising m → AreRising base → ((q : List ℕ) → under stash m q ≡ value_at base q) → written_over stash m ≡ base
written_is stash m base rising rises rise same =
    same_pairs _ base (rising-written_over stash m rises) rise (λ q. at-written_over stash m q rising ∙ same q)

pub some_is : {X : Type 0} (o : Option X) → is_some o ≡ false → o ≡ None
some_is None is = refl
some_is (Some x) is = absurd cc

pub unwrap_there : {X : Type 0} (o : Option X) → is_some o ≡ true → (x y : X) → unwrap_or o x ≡ unwrap_or o y
unwrap_there None is x y = absurd cc
unwrap_there (Some z) is x y = refl

pub some_or : {X : Type 0} (t : Bool) (x : X) (o : Option X) → is_some (cond t (Some x) o) ≡ t || is_some o
some_or true x o = refl
some_or false x o = refl

or_itself : (a t : Bool) → a ≡ true → a ≡ a || t
or_itself true t is = refl
or_itself false t is = absurd cc

pub or_flip : (a b : Bool) → a || b ≡ b || a
or_flip true true = refl
or_flip true false = refl
or_flip false true = refl
or_flip false false = refl

-- a kept id is held, and the others are as before
pub exact-kept : (stash : Slots) (k : List ℕ) (r : Option Data) (q : List ℕ) → is_some (value_at (kept stash k r) q) ≡ is_some (value_at stash q) || ties q k
exact-kept stash k r q =
    elim (is_some (value_at stash k)) as (λ b. is_some (value_at stash k) ≡ b → is_some (value_at (cond b stash (with_key stash k r)) q) ≡ is_some (value_at stash q) || ties q k) [
      | true ↦ λ is. by_tie (λ t. is_some (value_at stash q) ≡ is_some (value_at stash q) || t) q k
          (λ same. or_itself (is_some (value_at stash q)) true (ap (λ x. is_some (value_at stash x)) same ∙ is)) (or_flip false (is_some (value_at stash q)))
      | false ↦ λ is. ap is_some (at-with_key stash k q r) ∙ some_or (ties q k) r (value_at stash q) ∙ or_flip (ties q k) (is_some (value_at stash q))
    ] refl

pub rising-kept : (stash : Slots) (k : List ℕ) (r : Option Data) → AreRising stash → AreRising (kept stash k r)
rising-kept stash k r rising = elim (is_some (value_at stash k)) as (λ b. AreRising (cond b stash (with_key stash k r))) [ true ↦ rising | false ↦ rising-with_key stash k r rising ]

pub few-cond : (b : Bool) (n m : ℕ) → m ≡ cond b n (n + 1) → m ≤ n + 1
few-cond true n m is = omega arith
few-cond false n m is = omega arith

pub few-kept : (stash : Slots) (k : List ℕ) (r : Option Data) → AreRising stash → length (kept stash k r) ≤ length stash + 1
few-kept stash k r rising = elim (is_some (value_at stash k)) as (λ b. length (cond b stash (with_key stash k r)) ≤ length stash + 1) [
  | true ↦ omega arith
  | false ↦ few-cond (is_some (value_at stash k)) (length stash) (length (with_key stash k r)) (entries.length-put order nat_list_cmp_total k r stash rising)
]

pub exact-next : {X : Type 0} (stash : Slots) (x : List ℕ × X) (left : List (List ℕ × X)) (m : Pairs) (q : List ℕ)
    → is_some (value_at (kept stash x.0 (value_at m x.0)) q) || is_some (value_at left q) ≡ is_some (value_at stash q) || is_some (value_at (x ∷ left) q)
exact-next stash x left m q =
    ap (λ b. b || is_some (value_at left q)) (exact-kept stash x.0 (value_at m x.0) q)
    ∙ or_assoc (is_some (value_at stash q)) (ties q x.0) (is_some (value_at left q))
    ∙ ap (λ b. is_some (value_at stash q) || b) (sym (some_or (ties q x.0) x.1 (value_at left q)))

-- a diff names the ids of its operations
pub named-seen : {X Y : Type 0} (f : X → Y) (es : List (List ℕ × X)) (q : List ℕ) → is_some (value_at (seen f es) q) ≡ is_some (value_at es q)
named-seen f es q = ap is_some (at-seen f es q) ∙ some-map f (value_at es q)

-- a map without some ids, one after the other
abbrev pub without_each : List (List ℕ) → Pairs → Pairs
without_each [] m = m
without_each (id ∷ ids) m = without_each ids (without_key m id)

pub cleared : (m : Pairs) → AreRising m → without_each (map (λ p. p.0) m) m ≡ []
cleared [] rising = refl
cleared (p ∷ m) rising = ap (without_each (map (λ p. p.0) m)) (sym (taken_first p m rising).rest_is) ∙ cleared m (rising_rest p m rising)

-- ids that were taken are forgotten from the last on
pub forgotten_last : (stash : Slots) (ids : List (List ℕ)) (id : List ℕ) → without_all stash (ids ++ id ∷ []) ≡ without_all (without_key stash id) ids
forgotten_last stash [] id = refl
forgotten_last stash (x ∷ ids) id = ap (λ s. without_key s x) (forgotten_last stash ids id)

-- an id that was added is taken away again
pub added_back : (stash : Slots) (k : List ℕ) (r : Option Data) → AreRising stash → is_some (value_at stash k) ≡ false → without_key (with_key stash k r) k ≡ stash
added_back stash k r rising fresh =
    same_pairs _ stash (rising-without_key (with_key stash k r) k (rising-with_key stash k r rising)) rising (λ q.
    at-without_key (with_key stash k r) k q ∙ ap (cond (ties q k) None) (at-with_key stash k q r)
    ∙ by_tie (λ t. cond t None (cond t (Some r) (value_at stash q)) ≡ value_at stash q) q k
    (λ same. sym (ap (value_at stash) same ∙ some_is (value_at stash k) fresh)) refl)

-- a kept id is forgotten again, with those before it
pub forgotten-kept : (stash : Slots) (ids : List (List ℕ)) (k : List ℕ) (r : Option Data) → AreRising stash → is_some (value_at stash k) ≡ false
    → without_all (with_key stash k r) (ids ++ k ∷ []) ≡ without_all stash ids
forgotten-kept stash ids k r rising fresh = forgotten_last (with_key stash k r) ids k ∙ ap (λ s. without_all s ids) (added_back stash k r rising fresh)

-- an id that isn't held is forgotten without effect
pub forgotten-absent : (stash : Slots) (ids : List (List ℕ)) (k : List ℕ) → is_some (value_at stash k) ≡ false → without_all stash (ids ++ k ∷ []) ≡ without_all stash ids
forgotten-absent stash ids k fresh = forgotten_last stash ids k ∙ ap (λ s. without_all s ids) (without_absent stash k (some_is (value_at stash k) fresh))

module _ (admits : List ℕ → Data → Bool) where
  -- an id that is kept before an operation is done to it: with the stash written over them the records are as they were
  pub under-kept : (stash : Slots) (m : Pairs) (k : List ℕ) (c : RecordOpTree) (q : List ℕ) → under (kept stash k (value_at m k)) (step_at admits m k c) q ≡ under stash m q
  under-kept stash m k c q =
      ap (unwrap_or (value_at (kept stash k (value_at m k)) q)) (at-step_at admits m k q c)
      ∙ elim (is_some (value_at stash k)) as (λ b. is_some (value_at stash k) ≡ b → unwrap_or (value_at (cond b stash (with_key stash k (value_at m k))) q) (cond (ties q k) (record_after admits k (Some c) (value_at m k)) (value_at m q)) ≡ under stash m q) [
        | true ↦ λ is. by_tie (λ t. unwrap_or (value_at stash q) (cond t (record_after admits k (Some c) (value_at m k)) (value_at m q)) ≡ under stash m q) q k
            (λ same. unwrap_there (value_at stash q) (ap (λ x. is_some (value_at stash x)) same ∙ is) _ _) refl
        | false ↦ λ is.
            ap (λ o. unwrap_or o (cond (ties q k) (record_after admits k (Some c) (value_at m k)) (value_at m q))) (at-with_key stash k q (value_at m k))
            ∙ by_tie (λ t. unwrap_or (cond t (Some (value_at m k)) (value_at stash q)) (cond t (record_after admits k (Some c) (value_at m k)) (value_at m q)) ≡ under stash m q) q k
            (λ same. sym (ap (λ x. unwrap_or (value_at stash x) (value_at m x)) same ∙ ap (λ o. unwrap_or o (value_at m k)) (some_is (value_at stash k) is))) refl
      ] refl

-- what an id is kept under, without an operation that is done to it
pub under-held : (stash : Slots) (m : Pairs) (k q : List ℕ) → under (kept stash k (value_at m k)) m q ≡ under stash m q
under-held stash m k q =
    elim (is_some (value_at stash k)) as (λ b. is_some (value_at stash k) ≡ b → unwrap_or (value_at (cond b stash (with_key stash k (value_at m k))) q) (value_at m q) ≡ under stash m q) [
      | true ↦ λ is. refl
      | false ↦ λ is.
          ap (λ o. unwrap_or o (value_at m q)) (at-with_key stash k q (value_at m k))
          ∙ by_tie (λ t. unwrap_or (cond t (Some (value_at m k)) (value_at stash q)) (value_at m q) ≡ under stash m q) q k
          (λ same. sym (ap (λ x. unwrap_or (value_at stash x) (value_at m x)) same ∙ ap (λ o. unwrap_or o (value_at m k)) (some_is (value_at stash k) is))) refl
    ] refl

pub take_next : {X : Type 0} (xs : List X) (n m : ℕ) (x : X) → m ≡ n + 1 → m ≤ length xs → x ≡ get_or xs n x → take m xs ≡ take n xs ++ x ∷ []
take_next xs n m x is within here = ap (λ k. take k xs) is ∙ (take_at_read xs n x (omega arith)).1 ∙ ap (λ y. take n xs ++ y ∷ []) (sym here)

-- what is left from the end on
pub none_after : {X : Type 0} (n : ℕ) (xs : List X) → length xs ≤ n → drop n xs ≡ []
none_after n xs past = drop_all n xs past

kept-absent : (stash : Slots) (k : List ℕ) (r : Option Data) → is_some (value_at stash k) ≡ false → kept stash k r ≡ with_key stash k r
kept-absent stash k r absent = ap (λ b. cond b stash (with_key stash k r)) absent

-- an id that isn't held is kept, or memory is refused
pub kept_fresh : {T E : Type 0} (result : Result T E) (stash new : Slots) (k : List ℕ) (r : Option Data) → is_some (value_at stash k) ≡ false
    → OnOk result (new ≡ with_key stash k r) → OnOk result (new ≡ kept stash k r)
kept_fresh (Ok x) stash new k r absent is = is ∙ sym (kept-absent stash k r absent)
kept_fresh (Err e) stash new k r absent is = is

pub forgotten_fresh : {T E : Type 0} (result : Result T E) (stash new : Slots) (ids : List (List ℕ)) (k : List ℕ) (r : Option Data) → AreRising stash → is_some (value_at stash k) ≡ false
    → OnOk result (new ≡ with_key stash k r) → OnErr result (new ≡ stash) → without_all new (ids ++ k ∷ []) ≡ without_all stash ids
forgotten_fresh (Ok x) stash new ids k r rising absent ok err = ap (λ s. without_all s (ids ++ k ∷ [])) ok ∙ forgotten-kept stash ids k r rising absent
forgotten_fresh (Err e) stash new ids k r rising absent ok err = ap (λ s. without_all s (ids ++ k ∷ [])) err ∙ forgotten-absent stash ids k absent

-- at the end of a diff the stash holds what it held and what the diff names
pub exact-end : {X Y : Type 0} (f : X → Y) (before after : Slots) (es : List (List ℕ × X)) (diff : List (List ℕ × Y)) (n : ℕ) → length es ≤ n → seen f es ≡ diff → (q : List ℕ)
    → is_some (value_at after q) || is_some (value_at (drop n es) q) ≡ is_some (value_at before q) || is_some (value_at es q)
    → is_some (value_at after q) ≡ is_some (value_at before q) || is_some (value_at diff q)
exact-end f before after es diff n past is q exact =
    or_flip false (is_some (value_at after q)) ∙ sym (ap (λ l. is_some (value_at after q) || is_some (value_at l q)) (none_after n es past))
    ∙ exact ∙ ap (λ b. is_some (value_at before q) || b) (sym (named-seen f es q) ∙ ap (λ d. is_some (value_at d q)) is)
