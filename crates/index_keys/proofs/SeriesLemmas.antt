-- Several keys: a step of each way of making them, and that they rise between the ends.
use Rattle.std.proofs.Common.{◌≡◌, true, ℕ, zero, suc, ◌+◌, ◌-◌, ◌/◌, ◌<◌, ◌≤◌, List, [], ◌∷◌, ◌++◌, Option, Some, None, Result, Ok, Err, IfSome, IfOk, All, Ordering, Less, Equal, Greater, length, map, reverse, refl, ap, sym, ◌∙◌, subst, append_assoc, arith}
use Rattle.std.proofs.lemmas.List.{length-append, map-append, reverse-append}
use Rattle.std.proofs.lemmas.List.Elements.{All-nil, All-cons, All-head, All-tail, All-append, All-weaker}
use Rattle.std.proofs.lemmas.List.Kept.{AllPairs-cons}
use Rattle.std.proofs.lemmas.Cmp.{nat_list_cmp_total}
use Rattle.std.specs.List.{AllPairs, slice_get}
use Rattle.std.specs.Ordering.{is_lt, nat_cmp}
use Rattle.std.specs.Cmp.Lexicographic.{slice_cmp}
use Rattle.index_keys.specs.Answers.{Gives}
use Rattle.index_keys.specs.Between.{between}
use Rattle.index_keys.specs.Order.{is_less, IsBetween, AreBetween}
use Rattle.index_keys.specs.Several.{Keys, with_key, with_keys, joined_to, last_or, around, rising_from, rising_to, halves, several}
use Rattle.index_keys.specs.declared.fault.BetweenFault.{BetweenFault}
use Rattle.index_keys.proofs.RelationLemmas.{between-IsBetween}

-- a key that was written last is the last
pub last_or-push : (keys : List (List ℕ)) (key : List ℕ) (end : Option (List ℕ)) → last_or (keys ++ key ∷ []) end ≡ Some key
last_or-push [] key end = refl
last_or-push (first ∷ keys) key end = last_or-push keys key (Some first)

-- what was found last in a list that has elements is the last
pub last_or-found : {X : Type 0} (f : X → List ℕ) (xs : List X) (x : X) (end : Option (List ℕ)) → slice_get xs (length xs - 1) ≡ Some x → last_or (map f xs) end ≡ Some (f x)
last_or-found f [] x end found = cc
last_or-found f (y ∷ []) x end found = cc
last_or-found f (y ∷ z ∷ zs) x end found = last_or-found f (z ∷ zs) x (Some (f y)) (sym (ap (λ (n : ℕ). slice_get (y ∷ z ∷ zs) n) (one_less y z zs)) ∙ found)
  where
    one_less : {Y : Type 0} (y z : Y) (zs : List Y) → length (y ∷ z ∷ zs) - 1 ≡ suc (length (z ∷ zs) - 1)
    one_less y z zs = omega arith

-- keys after keys, and keys before keys
joined-first : (front : List (List ℕ)) (key : List ℕ) (keys : Keys) → joined_to front (with_keys keys (λ rest. Ok (key ∷ rest))) ≡ joined_to (front ++ key ∷ []) keys
joined-first front key (Ok keys) = ap (λ (made : List (List ℕ)). Ok made) (sym (append_assoc front (key ∷ []) keys))
joined-first front key (Err fault) = refl

-- one more key that rises
pub rising_from-step : (count left done : ℕ) (front made : List (List ℕ)) (below end : Option (List ℕ)) (key : List ℕ) → left ≡ suc done → end ≡ last_or front below → made ≡ front ++ key ∷ [] → between end None ≡ Ok key → rising_from count below ≡ joined_to front (rising_from left (last_or front below)) → rising_from count below ≡ joined_to made (rising_from done (last_or made below))
rising_from-step count left done front made below end key next last pushed given stands =
    let given_here : between (last_or front below) None ≡ Ok key = subst (λ (e : Option (List ℕ)). between e None ≡ Ok key) last given in
    let opened : rising_from left (last_or front below) ≡ with_keys (rising_from done (Some key)) (λ rest. Ok (key ∷ rest)) = ap (λ (n : ℕ). rising_from n (last_or front below)) next ∙ ap (λ (r : Result (List ℕ) BetweenFault). with_key r (λ k. with_keys (rising_from done (Some k)) (λ rest. Ok (k ∷ rest)))) given_here in
    let here : rising_from count below ≡ joined_to (front ++ key ∷ []) (rising_from done (last_or (front ++ key ∷ []) below)) = stands ∙ (ap (joined_to front) opened ∙ (joined-first front key (rising_from done (Some key)) ∙ ap (λ (e : Option (List ℕ)). joined_to (front ++ key ∷ []) (rising_from done e)) (sym (last_or-push front key below)))) in
    subst (λ (m : List (List ℕ)). rising_from count below ≡ joined_to m (rising_from done (last_or m below))) (sym pushed) here

-- a refusal
pub rising_from-fails : (count left : ℕ) (front : List (List ℕ)) (below end : Option (List ℕ)) (fault : BetweenFault) → 0 < left → end ≡ last_or front below → between end None ≡ Err fault → rising_from count below ≡ joined_to front (rising_from left (last_or front below)) → rising_from count below ≡ Err fault
rising_from-fails count zero front below end fault some last refused stands = absurd (omega arith)
rising_from-fails count (suc done) front below end fault some last refused stands =
    let refused_here : between (last_or front below) None ≡ Err fault = subst (λ (e : Option (List ℕ)). between e None ≡ Err fault) last refused in
    stands ∙ ap (joined_to front) (ap (λ (r : Result (List ℕ) BetweenFault). with_key r (λ k. with_keys (rising_from done (Some k)) (λ rest. Ok (k ∷ rest)))) refused_here)

-- keys before those that are there, which stand in falling order
abbrev pub joined_before : Keys → List (List ℕ) → Keys
joined_before keys falling = with_keys keys (λ made. Ok (made ++ reverse falling))

joined-last : (keys : Keys) (key : List ℕ) (falling : List (List ℕ)) → joined_before (with_keys keys (λ rest. Ok (rest ++ key ∷ []))) falling ≡ joined_before keys (falling ++ key ∷ [])
joined-last (Ok keys) key falling = ap (λ (made : List (List ℕ)). Ok made) (append_assoc keys (key ∷ []) (reverse falling) ∙ ap (λ (r : List (List ℕ)). keys ++ r) (sym (reverse-append falling (key ∷ []))))
joined-last (Err fault) key falling = refl

-- one more key that falls
pub rising_to-step : (count left done : ℕ) (front made : List (List ℕ)) (above end : Option (List ℕ)) (key : List ℕ) → left ≡ suc done → end ≡ last_or front above → made ≡ front ++ key ∷ [] → between None end ≡ Ok key → rising_to count above ≡ joined_before (rising_to left (last_or front above)) front → rising_to count above ≡ joined_before (rising_to done (last_or made above)) made
rising_to-step count left done front made above end key next last pushed given stands =
    let given_here : between None (last_or front above) ≡ Ok key = subst (λ (e : Option (List ℕ)). between None e ≡ Ok key) last given in
    let opened : rising_to left (last_or front above) ≡ with_keys (rising_to done (Some key)) (λ rest. Ok (rest ++ key ∷ [])) = ap (λ (n : ℕ). rising_to n (last_or front above)) next ∙ ap (λ (r : Result (List ℕ) BetweenFault). with_key r (λ k. with_keys (rising_to done (Some k)) (λ rest. Ok (rest ++ k ∷ [])))) given_here in
    let here : rising_to count above ≡ joined_before (rising_to done (last_or (front ++ key ∷ []) above)) (front ++ key ∷ []) = stands ∙ (ap (λ (keys : Keys). joined_before keys front) opened ∙ (joined-last (rising_to done (Some key)) key front ∙ ap (λ (e : Option (List ℕ)). joined_before (rising_to done e) (front ++ key ∷ [])) (sym (last_or-push front key above)))) in
    subst (λ (m : List (List ℕ)). rising_to count above ≡ joined_before (rising_to done (last_or m above)) m) (sym pushed) here

pub rising_to-fails : (count left : ℕ) (front : List (List ℕ)) (above end : Option (List ℕ)) (fault : BetweenFault) → 0 < left → end ≡ last_or front above → between None end ≡ Err fault → rising_to count above ≡ joined_before (rising_to left (last_or front above)) front → rising_to count above ≡ Err fault
rising_to-fails count zero front above end fault some last refused stands = absurd (omega arith)
rising_to-fails count (suc done) front above end fault some last refused stands =
    let refused_here : between None (last_or front above) ≡ Err fault = subst (λ (e : Option (List ℕ)). between None e ≡ Err fault) last refused in
    stands ∙ ap (λ (keys : Keys). joined_before keys front) (ap (λ (r : Result (List ℕ) BetweenFault). with_key r (λ k. with_keys (rising_to done (Some k)) (λ rest. Ok (rest ++ k ∷ [])))) refused_here)

pub rising_to-ends : (count left : ℕ) (made : List (List ℕ)) (above : Option (List ℕ)) → left ≡ 0 → rising_to count above ≡ joined_before (rising_to left (last_or made above)) made → rising_to count above ≡ Ok (reverse made)
rising_to-ends count left made above none_left stands =
    stands ∙ ap (λ (n : ℕ). joined_before (rising_to n (last_or made above)) made) none_left

-- the halves around a key, each written after what is there
pub around-joined : (old mid new : List (List ℕ)) (key : List ℕ) (firsts lasts : Keys) → joined_to old firsts ≡ Ok mid → joined_to (mid ++ key ∷ []) lasts ≡ Ok new → joined_to old (around firsts key lasts) ≡ Ok new
around-joined old mid new key (Err fault) lasts first last = cc
around-joined old mid new key (Ok firsts) (Err fault) first last = cc
around-joined old mid new key (Ok firsts) (Ok lasts) first last =
    let mid_is : old ++ firsts ≡ mid = cc in
    let new_is : (mid ++ key ∷ []) ++ lasts ≡ new = cc in
    ap (λ (made : List (List ℕ)). Ok made) (sym (append_assoc old firsts (key ∷ lasts)) ∙ (ap (λ (m : List (List ℕ)). m ++ key ∷ lasts) mid_is ∙ (sym (append_assoc mid (key ∷ []) lasts) ∙ new_is)))

around-fails : (old mid made : List (List ℕ)) (key : List ℕ) (firsts lasts : Keys) (fault : BetweenFault) → joined_to old firsts ≡ Ok mid → joined_to made lasts ≡ Err fault → joined_to old (around firsts key lasts) ≡ Err fault
around-fails old mid made key (Err other) lasts fault first last = cc
around-fails old mid made key (Ok firsts) (Ok lasts) fault first last = cc
around-fails old mid made key (Ok firsts) (Err other) fault first last = cc

around-fails_first : (old : List (List ℕ)) (key : List ℕ) (firsts lasts : Keys) (fault : BetweenFault) → joined_to old firsts ≡ Err fault → joined_to old (around firsts key lasts) ≡ Err fault
around-fails_first old key (Ok firsts) lasts fault first = cc
around-fails_first old key (Err other) lasts fault first = first

-- the step of the halves
halves-opens : (depth count : ℕ) (below above key : List ℕ) → 0 < count → between (Some below) (Some above) ≡ Ok key → halves (suc depth) below above count ≡ around (halves depth below key (count / 2)) key (halves depth key above (count - count / 2 - 1))
halves-opens depth zero below above key some given = absurd (omega arith)
halves-opens depth (suc others) below above key some given =
    let next : others + 1 ≡ suc others = omega arith in
    let lasts : others - (others + 1) / 2 ≡ suc others - suc others / 2 - 1 = omega arith in
    ap (λ (r : Result (List ℕ) BetweenFault). with_key r (λ k. around (halves depth below k ((others + 1) / 2)) k (halves depth k above (others - (others + 1) / 2)))) given ∙ (ap (λ (n : ℕ). around (halves depth below key (n / 2)) key (halves depth key above (others - (others + 1) / 2))) next ∙ ap (λ (n : ℕ). around (halves depth below key (suc others / 2)) key (halves depth key above n)) lasts)

-- what the halves give, from the key between, what the first half gave, and what the second gives
pub halves-returns : {T : Type 0} (r : Result T BetweenFault) (view : T → List (List ℕ)) (old mid made : List (List ℕ)) (below above key : List ℕ) (count : ℕ) → 0 < count → between (Some below) (Some above) ≡ Ok key → ((d : ℕ) → count / 2 ≤ d → joined_to old (halves d below key (count / 2)) ≡ Ok mid) → made ≡ mid ++ key ∷ [] → ((d : ℕ) → count - count / 2 - 1 ≤ d → Gives view r (joined_to made (halves d key above (count - count / 2 - 1)))) → (depth : ℕ) → count ≤ depth → Gives view r (joined_to old (halves depth below above count))
halves-returns r view old mid made below above key count some given first pushed second zero enough = absurd (omega arith)
halves-returns (Ok x) view old mid made below above key count some given first pushed second (suc d) enough =
    let firsts = first d (omega arith) in
    let lasts : joined_to (mid ++ key ∷ []) (halves d key above (count - count / 2 - 1)) ≡ Ok (view x) = subst (λ (m : List (List ℕ)). joined_to m (halves d key above (count - count / 2 - 1)) ≡ Ok (view x)) pushed (second d (omega arith)) in
    ap (joined_to old) (halves-opens d count below above key some given) ∙ around-joined old mid (view x) key (halves d below key (count / 2)) (halves d key above (count - count / 2 - 1)) firsts lasts
halves-returns (Err fault) view old mid made below above key count some given first pushed second (suc d) enough =
    λ not_memory. ap (joined_to old) (halves-opens d count below above key some given) ∙ around-fails old mid made key (halves d below key (count / 2)) (halves d key above (count - count / 2 - 1)) fault (first d (omega arith)) (second d (omega arith) not_memory)

-- a refusal in the first half
pub halves-fails : (fault : BetweenFault) (old : List (List ℕ)) (below above key : List ℕ) (count : ℕ) → 0 < count → between (Some below) (Some above) ≡ Ok key → ((d : ℕ) → count / 2 ≤ d → joined_to old (halves d below key (count / 2)) ≡ Err fault) → (depth : ℕ) → count ≤ depth → joined_to old (halves depth below above count) ≡ Err fault
halves-fails fault old below above key count some given first zero enough = absurd (omega arith)
halves-fails fault old below above key count some given first (suc d) enough =
    ap (joined_to old) (halves-opens d count below above key some given) ∙ around-fails_first old key (halves d below key (count / 2)) (halves d key above (count - count / 2 - 1)) fault (first d (omega arith))

-- an answer has what the defined one has
pub IfOk-Gives : {T D : Type 0} (view : T → D) (r : Result T BetweenFault) (defined : Result D BetweenFault) (P : D → Type 0) → Gives view r defined → IfOk defined P → IfOk r (λ x. P (view x))
IfOk-Gives view (Ok x) defined P gives holds = subst (λ d. IfOk d P) gives holds
IfOk-Gives view (Err fault) defined P gives holds = tt

-- of three texts that rise the first is less than the last
less-through : (first second third : List ℕ) → is_less first second ≡ true → is_less second third ≡ true → is_less first third ≡ true
less-through first second third one two = ap is_lt (nat_list_cmp_total.trans first second third (is_Less (slice_cmp nat_cmp first second) one) (is_Less (slice_cmp nat_cmp second third) two))
  where
    is_Less : (o : Ordering) → is_lt o ≡ true → o ≡ Less
    is_Less Less told = refl
    is_Less Equal told = cc
    is_Less Greater told = cc

-- less than an end that is greater
to_end : (end : Option (List ℕ)) (first second : List ℕ) → is_less first second ≡ true → IfSome end (λ e. is_less second e ≡ true) → IfSome end (λ e. is_less first e ≡ true)
to_end None first second less under = tt
to_end (Some e) first second less under = less-through first second e less under

from_end : (end : Option (List ℕ)) (first second : List ℕ) → is_less first second ≡ true → IfSome end (λ e. is_less e first ≡ true) → IfSome end (λ e. is_less e second ≡ true)
from_end None first second less over = tt
from_end (Some e) first second less over = less-through e first second over less

-- none
AreBetween-nil : (below above : Option (List ℕ)) → AreBetween below above 0 []
AreBetween-nil below above = record { number = refl; rising = λ i j d less inside_it. absurd (omega arith); between = All-nil (IsBetween below above) }

-- pairs of what is joined
AllPairs-append : (R : List ℕ → List ℕ → Type 0) (xs ys : List (List ℕ)) → AllPairs R xs → AllPairs R ys → All (λ x. All (R x) ys) xs → AllPairs R (xs ++ ys)
AllPairs-append R [] ys xs_rise ys_rise across = ys_rise
AllPairs-append R (x ∷ xs) ys xs_rise ys_rise across =
    AllPairs-cons R x (xs ++ ys)
    (All-append (R x) xs ys (λ k d inside_it. xs_rise 0 (suc k) d (omega arith) (omega arith)) (All-head (λ z. All (R z) ys) x xs across))
    (AllPairs-append R xs ys (λ i j d less inside_it. xs_rise (suc i) (suc j) d (omega arith) (omega arith)) ys_rise (All-tail (λ z. All (R z) ys) x xs across))

-- keys below a key, it, and keys above it
AreBetween-around : (below above : Option (List ℕ)) (key : List ℕ) (m n : ℕ) (firsts lasts : List (List ℕ)) → IsBetween below above key → AreBetween below (Some key) m firsts → AreBetween (Some key) above n lasts → AreBetween below above (m + suc n) (firsts ++ key ∷ lasts)
AreBetween-around below above key m n firsts lasts is first last =
    let after_key : All (λ x. is_less key x ≡ true) lasts = All-weaker (IsBetween (Some key) above) (λ x. is_less key x ≡ true) (λ x x_is. x_is.from_below) lasts last.between in
    let before_key : All (λ x. is_less x key ≡ true) firsts = All-weaker (IsBetween below (Some key)) (λ x. is_less x key ≡ true) (λ x x_is. x_is.to_above) firsts first.between in
    record {
      number = length-append firsts (key ∷ lasts) ∙ (let m_is : length firsts ≡ m = first.number in let n_is : length lasts ≡ n = last.number in omega arith);
      rising = AllPairs-append (λ x y. is_less x y ≡ true) firsts (key ∷ lasts) first.rising (AllPairs-cons (λ x y. is_less x y ≡ true) key lasts after_key last.rising)
          (All-weaker (λ x. is_less x key ≡ true) (λ x. All (λ y. is_less x y ≡ true) (key ∷ lasts)) (λ x less. All-cons (λ y. is_less x y ≡ true) key lasts less (All-weaker (λ y. is_less key y ≡ true) (λ y. is_less x y ≡ true) (λ y more. less-through x key y less more) lasts after_key)) firsts before_key);
      between = All-append (IsBetween below above) firsts (key ∷ lasts)
          (All-weaker (IsBetween below (Some key)) (IsBetween below above) (λ x x_is. record { valid = x_is.valid; from_below = x_is.from_below; to_above = to_end above x key x_is.to_above is.to_above }) firsts first.between)
          (All-cons (IsBetween below above) key lasts is
          (All-weaker (IsBetween (Some key) above) (IsBetween below above) (λ x x_is. record { valid = x_is.valid; from_below = from_end below key x x_is.from_below is.from_below; to_above = x_is.to_above }) lasts last.between));
    }

-- what follows from a key and from keys
with_key-IfOk : (P : List (List ℕ) → Type 0) (Q : List ℕ → Type 0) (r : Result (List ℕ) BetweenFault) (rest : List ℕ → Keys) → IfOk r Q → ((key : List ℕ) → Q key → IfOk (rest key) P) → IfOk (with_key r rest) P
with_key-IfOk P Q (Ok key) rest holds then_holds = then_holds key holds
with_key-IfOk P Q (Err fault) rest holds then_holds = tt

with_keys-IfOk : (P Q : List (List ℕ) → Type 0) (r : Keys) (rest : List (List ℕ) → Keys) → IfOk r Q → ((keys : List (List ℕ)) → Q keys → IfOk (rest keys) P) → IfOk (with_keys r rest) P
with_keys-IfOk P Q (Ok keys) rest holds then_holds = then_holds keys holds
with_keys-IfOk P Q (Err fault) rest holds then_holds = tt

pub rising_from-AreBetween : (count : ℕ) (below : Option (List ℕ)) → IfOk (rising_from count below) (AreBetween below None count)
rising_from-AreBetween zero below = AreBetween-nil below None
rising_from-AreBetween (suc count) below =
    with_key-IfOk (AreBetween below None (suc count)) (IsBetween below None) (between below None) (λ key. with_keys (rising_from count (Some key)) (λ rest. Ok (key ∷ rest))) (between-IsBetween below None)
    (λ key is. with_keys-IfOk (AreBetween below None (suc count)) (AreBetween (Some key) None count) (rising_from count (Some key)) (λ rest. Ok (key ∷ rest)) (rising_from-AreBetween count (Some key))
    (λ keys are. at_count 0 count key keys (AreBetween-around below None key 0 count [] keys is (AreBetween-nil below (Some key)) are)))
  where
    at_count : (m n : ℕ) (key : List ℕ) (keys : List (List ℕ)) → AreBetween below None (0 + suc n) (key ∷ keys) → AreBetween below None (suc n) (key ∷ keys)
    at_count m n key keys are = let same : 0 + suc n ≡ suc n = omega arith in subst (λ (k : ℕ). AreBetween below None k (key ∷ keys)) same are

pub rising_to-AreBetween : (count : ℕ) (above : Option (List ℕ)) → IfOk (rising_to count above) (AreBetween None above count)
rising_to-AreBetween zero above = AreBetween-nil None above
rising_to-AreBetween (suc count) above =
    with_key-IfOk (AreBetween None above (suc count)) (IsBetween None above) (between None above) (λ key. with_keys (rising_to count (Some key)) (λ rest. Ok (rest ++ key ∷ []))) (between-IsBetween None above)
    (λ key is. with_keys-IfOk (AreBetween None above (suc count)) (AreBetween None (Some key) count) (rising_to count (Some key)) (λ rest. Ok (rest ++ key ∷ [])) (rising_to-AreBetween count (Some key))
    (λ keys are. at_count count key keys (AreBetween-around None above key count 0 keys [] is are (AreBetween-nil (Some key) above))))
  where
    at_count : (n : ℕ) (key : List ℕ) (keys : List (List ℕ)) → AreBetween None above (n + suc 0) (keys ++ key ∷ []) → AreBetween None above (suc n) (keys ++ key ∷ [])
    at_count n key keys are = let same : n + suc 0 ≡ suc n = omega arith in subst (λ (k : ℕ). AreBetween None above k (keys ++ key ∷ [])) same are

pub halves-AreBetween : (depth : ℕ) (below above : List ℕ) (count : ℕ) → count ≤ depth → IfOk (halves depth below above count) (AreBetween (Some below) (Some above) count)
halves-AreBetween zero below above zero enough = AreBetween-nil (Some below) (Some above)
halves-AreBetween zero below above (suc others) enough = absurd (omega arith)
halves-AreBetween (suc depth) below above zero enough = AreBetween-nil (Some below) (Some above)
halves-AreBetween (suc depth) below above (suc others) enough =
    with_key-IfOk (AreBetween (Some below) (Some above) (suc others)) (IsBetween (Some below) (Some above)) (between (Some below) (Some above)) _ (between-IsBetween (Some below) (Some above))
    (λ key is. with_keys-IfOk (AreBetween (Some below) (Some above) (suc others)) (AreBetween (Some below) (Some key) ((others + 1) / 2)) (halves depth below key ((others + 1) / 2)) _ (halves-AreBetween depth below key ((others + 1) / 2) (omega arith))
    (λ firsts firsts_are. with_keys-IfOk (AreBetween (Some below) (Some above) (suc others)) (AreBetween (Some key) (Some above) (others - (others + 1) / 2)) (halves depth key above (others - (others + 1) / 2)) _ (halves-AreBetween depth key above (others - (others + 1) / 2) (omega arith))
    (λ lasts lasts_are.
    let same : (others + 1) / 2 + suc (others - (others + 1) / 2) ≡ suc others = omega arith in
    subst (λ (k : ℕ). AreBetween (Some below) (Some above) k (firsts ++ key ∷ lasts)) same (AreBetween-around (Some below) (Some above) key ((others + 1) / 2) (others - (others + 1) / 2) firsts lasts is firsts_are lasts_are))))

-- several keys rise between their ends
pub several-AreBetween : (below above : Option (List ℕ)) (count : ℕ) → IfOk (several below above count) (AreBetween below above count)
several-AreBetween below None count = rising_from-AreBetween count below
several-AreBetween None (Some above) count = rising_to-AreBetween count (Some above)
several-AreBetween (Some below) (Some above) count = halves-AreBetween count below above count (omega arith)

-- a view of what is turned round
pub map-reverse : {X : Type 0} (f : X → List ℕ) (xs : List X) → map f (reverse xs) ≡ reverse (map f xs)
map-reverse f [] = refl
map-reverse f (x ∷ xs) =
    ap (map f) (reverse-append (x ∷ []) xs)
    ∙ (map-append f (reverse xs) (x ∷ [])
    ∙ (ap (λ (r : List (List ℕ)). r ++ f x ∷ []) (map-reverse f xs) ∙ sym (reverse-append (f x ∷ []) (map f xs))))

-- what is written after nothing rises between the ends
pub written-AreBetween : (old made : List (List ℕ)) (below above : List ℕ) (count : ℕ) → old ≡ [] → joined_to old (halves count below above count) ≡ Ok made → AreBetween (Some below) (Some above) count made
written-AreBetween old made below above count empty written =
    let from_nothing : joined_to [] (halves count below above count) ≡ Ok made = subst (λ (o : List (List ℕ)). joined_to o (halves count below above count) ≡ Ok made) empty written in
    subst (λ (r : Keys). IfOk r (AreBetween (Some below) (Some above) count)) (alone (halves count below above count) made from_nothing) (halves-AreBetween count below above count (omega arith))
  where
    alone : (keys : Keys) (made : List (List ℕ)) → joined_to [] keys ≡ Ok made → keys ≡ Ok made
    alone (Ok keys) made joined = joined
    alone (Err fault) made joined = cc
