-- News of the watches, and which of them are due.
use Rattle.std.proofs.Common.{◌≡◌, ◌≢◌, ℕ, zero, suc, ◌+◌, ◌<◌, ◌≤◌, inl, inr, List, [], ◌∷◌, ◌++◌, length, take, drop, get_or, set, Option, Some, None, Result, Ok, Err, refl, sym, ◌∙◌, ap, subst, arith, length-append, length-set, get_or-set_other, get_or-set_same}
use Rattle.std.specs.Prelude.{is_some, IfSome, IfOk, option_map, map, slice_index, Contains}
use Rattle.std.specs.List.Sorted.{IsStrictlyIncreasing}
use Rattle.std.specs.declared.cmp.Ordering.{Ordering}
use Rattle.std.proofs.lemmas.Bool.{cases_lt}
use Rattle.std.proofs.Math.Seq.{take-append_seam}
use Rattle.signal_rules.specs.Meaning.{Meaning}
use Rattle.signal_values.specs.Kept.{IsFreshKey}
use Rattle.signal_values.specs.Seen.{IsFreshIn, value_in}
use Rattle.signal_values.specs.Seen as values
use Rattle.signal_core.specs.declared.watch.Watch.{Watch}
use Rattle.signal_core.specs.declared.watch.WatchId.{WatchId}
use Rattle.signal_core.specs.declared.news.News.{News}
use Rattle.signal_core.specs.Seen.{Seen}
use Rattle.signal_core.specs.Watches.{watch_at}
use Rattle.signal_core.specs.Gots.{AreGot}
use Rattle.signal_core.specs.Due.{IsDue, AreDue, AreTold, told_of, AreFreshKeys, AreFreshIn}
use Rattle.signal_core.specs.News.{IsNews, numbered, AddsNews, AreNews, AreNewsOf, told_slot, AreToldBy}
use Rattle.signal_core.proofs.GotLemmas.{got_none, got_then, got_fresh, got_value}
use Rattle.signal_core.proofs.WatchLemmas.{past, within, get_append, get_seam}

-- a value that wasn't told is news
pub news_some : {R K V : Type 0} (m : Meaning K V) (cmp : K → K → Ordering) (values : values.Seen R K V) (watch : Watch K V) (v : V) → v ≡ value_in m cmp values watch.key → watch.told ≢ Some (value_in m cmp values watch.key) → IsNews m cmp values (Some watch) (Some v)
news_some {R} {K} {V} m cmp values watch v is differs = (is, λ e. differs (e ∙ ap (λ (x : V). Some x) is))

-- where keys have the same values, the same is to be told
news_same : {R K V : Type 0} (m n : Meaning K V) (cmp : K → K → Ordering) (old new : values.Seen R K V) → ((key : K) → value_in m cmp old key ≡ value_in n cmp new key) → (slot : Option (Watch K V)) (news : Option V) → IsNews m cmp old slot news → IsNews n cmp new slot news
news_same m n cmp old new same None news is = is
news_same {R} {K} {V} m n cmp old new same (Some watch) None is = is ∙ ap (λ (x : V). Some x) (same watch.key)
news_same m n cmp old new same (Some watch) (Some v) is = (is.0 ∙ same watch.key, is.1)

-- an element below the end, whatever stands for those past it
pub at_any : {X : Type 0} (xs : List X) (i : ℕ) (d e : X) → i < length xs → get_or xs i d ≡ get_or xs i e
at_any [] i d e low = absurd (omega (arith, low))
at_any (x ∷ xs) zero d e low = refl
at_any (x ∷ xs) (suc i) d e low = at_any xs i d e (omega (arith, low))

if_some : {X : Type 0} (o : Option X) (P : X → Type 0) → ((x : X) → o ≡ Some x → P x) → IfSome o P
if_some None P f = tt
if_some (Some x) P f = f x refl

some_if : {X : Type 0} (o : Option X) (P : X → Type 0) (x : X) → IfSome o P → o ≡ Some x → P x
some_if None P x h e = absurd (cc)
some_if {X} (Some y) P x h e = let one : y ≡ x = cc in subst P one h

-- one more slot and its news
each_more : {R K V : Type 0} (m : Meaning K V) (cmp : K → K → Ordering) (values : values.Seen R K V) (watches : List (Option (Watch K V))) (told : List (Option V)) (i : ℕ) (slot : Option (Watch K V)) (news : Option V)
    → ((n : ℕ) → n < i → IsNews m cmp values (watch_at watches n) (get_or told n None)) → length told ≡ i → watch_at watches i ≡ slot → IsNews m cmp values slot news
    → (n : ℕ) → n < i + 1 → IsNews m cmp values (watch_at watches n) (get_or (told ++ news ∷ []) n None)
each_more {R} {K} {V} m cmp values watches told i slot news each room at is n low = elim (cases_lt n i) [
  | inl before ↦ subst (λ (x : Option V). IsNews m cmp values (watch_at watches n) x) (sym (get_append told news n (omega (arith, before, room)))) (each n before)
  | inr here ↦
      let one : n ≡ i = omega (arith, here, low) in
      let place : n ≡ length told = one ∙ sym room in
      subst (λ (s : Option (Watch K V)). IsNews m cmp values s (get_or (told ++ news ∷ []) n None)) (sym at ∙ ap (watch_at watches) (sym one))
      (subst (λ (x : Option V). IsNews m cmp values slot x) (sym (get_seam told news None) ∙ ap (λ (k : ℕ). get_or (told ++ news ∷ []) k None) (sym place)) is)
]

numbered_append : {V : Type 0} (number : ℕ) (told : List (Option V)) (news : Option V) → numbered number (told ++ news ∷ []) ≡ numbered number told ++ numbered (number + length told) (news ∷ [])
numbered_append number [] news = ap (λ (n : ℕ). numbered n (news ∷ [])) (omega arith)
numbered_append {V} number (None ∷ told) news =
    numbered_append (number + 1) told news ∙ ap (λ (n : ℕ). numbered (number + 1) told ++ numbered n (news ∷ [])) (omega arith)
numbered_append {V} number (Some v ∷ told) news =
    ap (λ (ds : List (WatchId × V)). (record { number = number }, v) ∷ ds) (numbered_append (number + 1) told news ∙ ap (λ (n : ℕ). numbered (number + 1) told ++ numbered n (news ∷ [])) (omega arith))

-- the news of all slots
are_news : {R K V : Type 0} (m : Meaning K V) (cmp : K → K → Ordering) (values : values.Seen R K V) (watches : List (Option (Watch K V))) (told : List (Option V)) (due : List (WatchId × V)) (i : ℕ)
    → ((n : ℕ) → n < i → IsNews m cmp values (watch_at watches n) (get_or told n None)) → length told ≡ i → length watches ≤ i → due ≡ numbered 0 told → AreNews m cmp values watches told due
are_news {R} {K} {V} m cmp values watches told due i each room far e = record {
  each = λ n. elim (cases_lt n i) [
    | inl low ↦ each n low
    | inr high ↦
        subst (λ (s : Option (Watch K V)). IsNews m cmp values s (get_or told n None)) (sym (past watches n (omega (arith, far, high))))
        (past told n (omega (arith, room, high)))
  ];
  due_are = e;
}

-- a round over the first slots: what it computed, and the news that it found
pub record IsRound {R K V : Type 0} (meaning : R → Meaning K V) (cmp : K → K → Ordering) (old : values.Seen R K V) (watches : List (Option (Watch K V))) (values : values.Seen R K V) (news : News V) (i : ℕ) : Type 0 where
  pub got : AreGot (meaning old.rules) cmp old values
  pub room : length news.told.items ≡ i
  pub each : (number : ℕ) → number < i → IsNews (meaning old.rules) cmp old (watch_at watches number) (get_or news.told.items number None)
  pub due_are : news.due.items ≡ numbered 0 news.told.items
  pub fresh : (number : ℕ) (watch : Watch K V) → number < i → watch_at watches number ≡ Some watch → IsFreshKey values.rows values.fresh watch.key

pub round_more : {R K V : Type 0} (meaning : R → Meaning K V) (cmp : K → K → Ordering) (old : values.Seen R K V) (watches : List (Option (Watch K V))) (values after : values.Seen R K V) (news more : News V) (i : ℕ) (slot : Option (Watch K V))
    → watch_at watches i ≡ slot → IsRound meaning cmp old watches values news i → AreGot (meaning values.rules) cmp values after → AddsNews (meaning values.rules) cmp values slot news more → IfSome slot (λ watch. IsFreshKey after.rows after.fresh watch.key)
    → IsRound meaning cmp old watches after more (i + 1)
round_more {R} {K} {V} meaning cmp old watches values after news more i slot at round got adds fresh = record {
  got = got_then meaning cmp old values after round.got got;
  room = ap length adds.told ∙ length-append news.told.items (adds.news ∷ []) ∙ ap (λ (n : ℕ). n + 1) round.room;
  each = subst (λ (told : List (Option V)). (n : ℕ) → n < i + 1 → IsNews (meaning old.rules) cmp old (watch_at watches n) (get_or told n None)) (sym adds.told)
      (each_more (meaning old.rules) cmp old watches news.told.items i slot adds.news round.each round.room at (news_same (meaning values.rules) (meaning old.rules) cmp values old (λ key. got_value meaning cmp old values key round.got) slot adds.news adds.is));
  due_are =
      let e : 0 + length news.told.items ≡ length news.told.items = omega arith in
      adds.due ∙ ap (λ (ds : List (WatchId × V)). ds ++ numbered (length news.told.items) (adds.news ∷ [])) round.due_are
      ∙ ap (λ (n : ℕ). numbered 0 news.told.items ++ numbered n (adds.news ∷ [])) (sym e) ∙ sym (numbered_append 0 news.told.items adds.news) ∙ ap (numbered 0) (sym adds.told);
  fresh = λ n watch low e. elim (cases_lt n i) [
    | inl before ↦ got.fresh watch.key (round.fresh n watch before e)
    | inr here ↦
        let one : n ≡ i = omega (arith, here, low) in
        some_if slot (λ w. IsFreshKey after.rows after.fresh w.key) watch fresh (sym at ∙ ap (watch_at watches) (sym one) ∙ e)
  ];
}

pub round_none : {R K V : Type 0} (meaning : R → Meaning K V) (cmp : K → K → Ordering) (old : values.Seen R K V) (watches : List (Option (Watch K V))) (news : News V) → news.told.items ≡ [] → news.due.items ≡ [] → IsRound meaning cmp old watches old news 0
round_none meaning cmp old watches news te de = record {
  got = got_none (meaning old.rules) cmp old;
  room = ap length te;
  each = λ n low. absurd (omega (arith, low));
  due_are = de ∙ ap (numbered 0) (sym te);
  fresh = λ n watch low e. absurd (omega (arith, low));
}

-- a round over all
pub round_news : {R K V : Type 0} (meaning : R → Meaning K V) (cmp : K → K → Ordering) (old : values.Seen R K V) (watches : List (Option (Watch K V))) (values : values.Seen R K V) (news : News V) (i : ℕ)
    → length watches ≤ i → IsRound meaning cmp old watches values news i → AreNews (meaning old.rules) cmp old watches news.told.items news.due.items
round_news meaning cmp old watches values news i far round = are_news (meaning old.rules) cmp old watches news.told.items news.due.items i round.each round.room far round.due_are

pub both_ok : {X Y : Type 0} (r : Result X Y) (P Q S : X → Type 0) → ((x : X) → P x → Q x → S x) → IfOk r P → IfOk r Q → IfOk r S
both_ok (Ok x) P Q S f p q = f x p q
both_ok (Err e) P Q S f p q = tt

-- the news that a round found are those of the graph that it left
pub news_after : {R K V : Type 0} (meaning : R → Meaning K V) (cmp : K → K → Ordering) (old new : values.Seen R K V) (seen watches : List (Option (Watch K V))) (news : News V)
    → seen ≡ watches → AreGot (meaning old.rules) cmp old new → AreNews (meaning old.rules) cmp old seen news.told.items news.due.items → length news.told.items ≡ length seen
    → AreNewsOf (meaning new.rules) cmp (record { values = new; watches = watches }) news
news_after {R} {K} {V} meaning cmp old new seen watches news same got are count = record {
  are = record {
    each = λ n. news_same (meaning old.rules) (meaning new.rules) cmp old new (λ key. sym (got_value meaning cmp old new key got)) (watch_at watches n) (get_or news.told.items n None)
        (subst (λ (ws : List (Option (Watch K V))). IsNews (meaning old.rules) cmp old (watch_at ws n) (get_or news.told.items n None)) same (are.each n));
    due_are = are.due_are;
  };
  within = let e = ap length same in omega (arith, count, e);
}

pub round_fresh : {R K V : Type 0} (meaning : R → Meaning K V) (cmp : K → K → Ordering) (old : values.Seen R K V) (watches : List (Option (Watch K V))) (values : values.Seen R K V) (news : News V) (i : ℕ)
    → length watches ≤ i → IsRound meaning cmp old watches values news i → AreFreshKeys watches values
round_fresh {R} {K} {V} meaning cmp old watches values news i far round n watch e =
    let low : n < length watches = within watches n (ap (λ (o : Option (Watch K V)). is_some o) e) in
    round.fresh n watch (omega (arith, low, far)) e

-- the watch of the next number, where all that are watched are fresh
pub round_free : {R K V : Type 0} (meaning : R → Meaning K V) (cmp : K → K → Ordering) (old : values.Seen R K V) (watches : List (Option (Watch K V))) (values : values.Seen R K V) (news : News V) (i : ℕ) (slot : Option (Watch K V))
    → watch_at watches i ≡ slot → IsRound meaning cmp old watches values news i → AreFreshIn watches old → IfSome slot (λ watch. IsFreshIn values watch.key)
round_free meaning cmp old watches values news i slot at round all = if_some slot (λ w. IsFreshIn values w.key) (λ w e. got_fresh (meaning old.rules) cmp old values w.key round.got (all i w (at ∙ e)))

-- a slot without news is as it was
untold : {K V : Type 0} (slot : Option (Watch K V)) → told_slot slot None ≡ slot
untold None = refl
untold (Some watch) = refl

-- a slot whose news count as told was told its value
told_is : {R K V : Type 0} (m : Meaning K V) (cmp : K → K → Ordering) (values : values.Seen R K V) (slot : Option (Watch K V)) (news : Option V) → IsNews m cmp values slot news → told_slot slot news ≡ option_map (told_of m cmp values) slot
told_is m cmp values None news is = refl
told_is {R} {K} {V} m cmp values (Some watch) None is = ap (λ (t : Option V). Some (record { key = watch.key; told = t })) is
told_is {R} {K} {V} m cmp values (Some watch) (Some v) is = ap (λ (x : V). Some (record { key = watch.key; told = Some x })) is.0

pub are_told : {R K V : Type 0} (m : Meaning K V) (cmp : K → K → Ordering) (old : Seen R K V) (told : List (Option V)) (due : List (WatchId × V)) (new : List (Option (Watch K V))) → AreNews m cmp old.values old.watches told due → AreToldBy old.watches told new → AreTold m cmp old new
are_told m cmp old told due new news by number = by.each number ∙ told_is m cmp old.values (watch_at old.watches number) (get_or told number None) (news.each number)

-- what was told after a computation is what was to be told before it
pub told_before : {R K V : Type 0} (meaning : R → Meaning K V) (cmp : K → K → Ordering) (old new : Seen R K V) (watches : List (Option (Watch K V)))
    → AreGot (meaning old.values.rules) cmp old.values new.values → new.watches ≡ old.watches → AreTold (meaning new.values.rules) cmp new watches → AreTold (meaning old.values.rules) cmp old watches
told_before {R} {K} {V} meaning cmp old new watches got same told number =
    told number ∙ ap (λ (ws : List (Option (Watch K V))). option_map (told_of (meaning new.values.rules) cmp new.values) (watch_at ws number)) same ∙ at (watch_at old.watches number)
  where
    at : (slot : Option (Watch K V)) → option_map (told_of (meaning new.values.rules) cmp new.values) slot ≡ option_map (told_of (meaning old.values.rules) cmp old.values) slot
    at None = refl
    at (Some watch) = ap (λ (x : V). Some (record { key = watch.key; told = Some x })) (got_value meaning cmp old.values new.values watch.key got)

-- the watches while they are told, from the last: those from the end of `left` on were told their news
pub record IsTelling {K V : Type 0} (old : List (Option (Watch K V))) (news : List (Option V)) (watches : List (Option (Watch K V))) (left : List (Option V)) : Type 0 where
  pub same_length : length watches ≡ length old
  pub fewer : length left ≤ length news
  pub rest : (number : ℕ) → number < length left → get_or left number None ≡ get_or news number None
  pub before : (number : ℕ) → number < length left → watch_at watches number ≡ watch_at old number
  pub after : (number : ℕ) → length left ≤ number → watch_at watches number ≡ told_slot (watch_at old number) (get_or news number None)

pub telling_more : {K V : Type 0} (old : List (Option (Watch K V))) (news : List (Option V)) (watches : List (Option (Watch K V))) (left next : List (Option V)) (told : Option V) (i : ℕ) (slot after : Option (Watch K V))
    → length news ≤ length old → IsTelling old news watches left → left ≡ next ++ told ∷ [] → i ≡ length next → after ≡ told_slot (get_or watches i slot) told → IsTelling old news (set watches i after) next
telling_more {K} {V} old news watches left next told i slot after room t e place tells =
    let count : length left ≡ length next + 1 = ap length e ∙ length-append next (told ∷ []) in
    let low : i < length watches = omega (arith, place, count, t.fewer, t.same_length, room) in
    record {
      same_length = length-set watches i after ∙ t.same_length;
      fewer = omega (arith, count, t.fewer);
      rest = λ n h. sym (get_append next told n (omega (arith, h))) ∙ ap (λ (xs : List (Option V)). get_or xs n None) (sym e) ∙ t.rest n (omega (arith, h, count));
      before = λ n h. get_or-set_other watches i n after None (omega (arith, h, place)) ∙ t.before n (omega (arith, h, count));
      after = λ n h. elim (cases_lt n (length left)) [
        | inl here ↦
            let one : n ≡ i = omega (arith, here, h, count, place) in
            let this : get_or left i None ≡ told = ap (λ (xs : List (Option V)). get_or xs i None) e ∙ ap (λ (k : ℕ). get_or (next ++ told ∷ []) k None) place ∙ get_seam next told None in
            subst (λ (k : ℕ). watch_at (set watches i after) k ≡ told_slot (watch_at old k) (get_or news k None)) (sym one)
            (get_or-set_same watches i after None low ∙ tells ∙ ap (λ (s : Option (Watch K V)). told_slot s told) (at_any watches i slot None low ∙ t.before i (omega (arith, place, count)))
            ∙ ap (told_slot (watch_at old i)) (sym this ∙ t.rest i (omega (arith, place, count))))
        | inr far ↦ get_or-set_other watches i n after None (omega (arith, far, place, count)) ∙ t.after n far
      ];
    }

pub telling_none : {K V : Type 0} (old : List (Option (Watch K V))) (news : List (Option V)) → IsTelling old news old news
telling_none old news = record {
  same_length = refl;
  fewer = omega arith;
  rest = λ n h. refl;
  before = λ n h. refl;
  after = λ n h. sym (untold (watch_at old n)) ∙ ap (told_slot (watch_at old n)) (sym (past news n h));
}

pub telling_all : {K V : Type 0} (old : List (Option (Watch K V))) (news : List (Option V)) (watches : List (Option (Watch K V))) (left : List (Option V)) → IsTelling old news watches left → length left ≡ 0 → AreToldBy old news watches
telling_all old news watches left t e = record {
  each = λ n. t.after n (omega (arith, e));
  same_length = t.same_length;
}

-- which news are due
has_here : {V : Type 0} (number : ℕ) (v w : V) (rest : List (WatchId × V)) → v ≡ w → Contains ((record { number = number }, v) ∷ rest) (record { number = number }, w)
has_here {V} number v w rest e = (0, omega arith, ap (λ (x : V). (record { number = number }, x)) e)

has_there : {X : Type 0} (x y : X) (xs : List X) → Contains xs y → Contains (x ∷ xs) y
has_there x y xs h = (suc h.0, omega (arith, h.1), h.2)

numbered_has : {V : Type 0} (number : ℕ) (told : List (Option V)) (n : ℕ) (v : V) → get_or told n None ≡ Some v → Contains (numbered number told) (record { number = number + n }, v)
numbered_has number [] n v e = absurd (cc)
numbered_has {V} number (None ∷ told) zero v e = absurd (cc)
numbered_has {V} number (None ∷ told) (suc n) v e =
    subst (λ (k : ℕ). Contains (numbered (number + 1) told) (record { number = k }, v)) (omega arith) (numbered_has (number + 1) told n v e)
numbered_has {V} number (Some w ∷ told) zero v e =
    let one : w ≡ v = cc in
    subst (λ (k : ℕ). Contains ((record { number = number }, w) ∷ numbered (number + 1) told) (record { number = k }, v)) (omega arith) (has_here number w v (numbered (number + 1) told) one)
numbered_has {V} number (Some w ∷ told) (suc n) v e =
    has_there (record { number = number }, w) (record { number = number + suc n }, v) (numbered (number + 1) told)
    (subst (λ (k : ℕ). Contains (numbered (number + 1) told) (record { number = k }, v)) (omega arith) (numbered_has (number + 1) told n v e))

-- each of them is the news of its number
record IsNumbered {V : Type 0} (number : ℕ) (told : List (Option V)) (d : WatchId × V) : Type 0 where
  n : ℕ
  number_is : d.0.number ≡ number + n
  news : get_or told n None ≡ Some d.1

numbered_only : {V : Type 0} (number : ℕ) (told : List (Option V)) (d : WatchId × V) (k : ℕ) → k < length (numbered number told) → get_or (numbered number told) k d ≡ d → IsNumbered number told d
numbered_only number [] d k low e = absurd (omega (arith, low))
numbered_only {V} number (None ∷ told) d k low e =
    let q = numbered_only (number + 1) told d k low e in
    record { n = suc q.n; number_is = q.number_is ∙ omega arith; news = q.news }
numbered_only {V} number (Some w ∷ told) d zero low e =
    record { n = 0; number_is = ap (λ (x : WatchId × V). x.0.number) (sym e) ∙ omega arith; news = ap (λ (x : WatchId × V). Some x.1) e }
numbered_only {V} number (Some w ∷ told) d (suc k) low e =
    let q = numbered_only (number + 1) told d k (omega (arith, low)) e in
    record { n = suc q.n; number_is = q.number_is ∙ omega arith; news = q.news }

-- the numbers rise, from the first one on
abbrev numbers : {V : Type 0} → List (WatchId × V) → List ℕ
numbers ds = map (λ d. d.0.number) ds

from_first : {V : Type 0} (number : ℕ) (told : List (Option V)) (j : ℕ) → j < length (numbers (numbered number told)) → number ≤ slice_index (numbers (numbered number told)) j
from_first number [] j low = absurd (omega (arith, low))
from_first number (None ∷ told) j low = let q = from_first (number + 1) told j low in omega (arith, q)
from_first number (Some v ∷ told) zero low = omega arith
from_first number (Some v ∷ told) (suc j) low = let q = from_first (number + 1) told j (omega (arith, low)) in omega (arith, q)

numbers_rise : {V : Type 0} (number : ℕ) (told : List (Option V)) → IsStrictlyIncreasing (numbers (numbered number told))
numbers_rise number [] k low = absurd (omega (arith, low))
numbers_rise number (None ∷ told) k low = numbers_rise (number + 1) told k low
numbers_rise number (Some v ∷ told) zero low = let q = from_first (number + 1) told 0 (omega (arith, low)) in omega (arith, q)
numbers_rise {V} number (Some v ∷ told) (suc k) low =
    let ns : List ℕ = numbers (numbered number (Some v ∷ told)) in
    let e : suc (k + 1) ≡ suc k + 1 = omega arith in
    subst (λ (n : ℕ). slice_index ns (suc k) < slice_index ns n) e (numbers_rise (number + 1) told k (omega (arith, low)))

-- the news of a number are what is due
due_of : {R K V : Type 0} (m : Meaning K V) (cmp : K → K → Ordering) (seen : Seen R K V) (number : ℕ) (v : V) (slot : Option (Watch K V)) → watch_at seen.watches number ≡ slot → IsNews m cmp seen.values slot (Some v) → IsDue m cmp seen number v
due_of {R} {K} {V} m cmp seen number v None at is = absurd (no is)
  where
    no : Some v ≡ None → ⊥
    no e = cc
due_of m cmp seen number v (Some watch) at is = record { watch = watch; at = at; value = is.0; differs = is.1 }

news_of : {R K V : Type 0} (m : Meaning K V) (cmp : K → K → Ordering) (seen : Seen R K V) (number : ℕ) (v : V) (news : Option V) → IsDue m cmp seen number v → IsNews m cmp seen.values (watch_at seen.watches number) news → news ≡ Some v
news_of {R} {K} {V} m cmp seen number v news due is =
    at news (subst (λ (s : Option (Watch K V)). IsNews m cmp seen.values s news) due.at is)
  where
    at : (o : Option V) → IsNews m cmp seen.values (Some due.watch) o → o ≡ Some v
    at None e = absurd (due.differs (e ∙ ap (λ (x : V). Some x) (sym due.value)))
    at (Some w) e = ap (λ (x : V). Some x) (e.0 ∙ sym due.value)

pub are_due : {R K V : Type 0} (m : Meaning K V) (cmp : K → K → Ordering) (seen : Seen R K V) (told : List (Option V)) (due : List (WatchId × V)) → AreNews m cmp seen.values seen.watches told due → AreDue m cmp seen due
are_due {R} {K} {V} m cmp seen told due news =
    subst (λ (ds : List (WatchId × V)). AreDue m cmp seen ds) (sym news.due_are) (record {
      which = λ number v. (
        (λ h.
            let q = numbered_only 0 told (record { number = number }, v) h.0 h.1 h.2 in
            let one : number ≡ q.n = q.number_is ∙ omega arith in
            let here : get_or told number None ≡ Some v = ap (λ (k : ℕ). get_or told k None) one ∙ q.news in
            due_of m cmp seen number v (watch_at seen.watches number) refl (subst (λ (o : Option V). IsNews m cmp seen.values (watch_at seen.watches number) o) here (news.each number))),
        (λ d.
            subst (λ (k : ℕ). Contains (numbered 0 told) (record { number = k }, v)) (omega arith)
            (numbered_has 0 told number v (news_of m cmp seen number v (get_or told number None) d (news.each number)))),
      );
      rising = numbers_rise 0 told;
    })

-- as many elements written over a list are all of it
pub put_back_into : {X : Type 0} (xs ys : List X) (n : ℕ) → length ys ≡ length xs → n ≡ length xs → take n (ys ++ drop (length ys) xs) ≡ ys
put_back_into {X} xs ys n same e = ap (λ (k : ℕ). take k (ys ++ drop (length ys) xs)) (e ∙ sym same) ∙ take-append_seam ys (drop (length ys) xs)
