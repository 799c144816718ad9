-- Two rising lists that are gone through together, while what their keys give is put into a third.
use Rattle.std.proofs.Common.{◌≡◌, ℕ, ◌+◌, ◌<◌, ◌≤◌, length, get_or, drop, Bool, true, false, cond, List, [], Option, Some, None, refl, sym, ap, subst, ◌∙◌}
use Rattle.std.proofs.lemmas.List.{drop_all}
use Rattle.rooms_val.specs.Maps.{AreRising, added, value_at, with_key, IsTaken, ties}
use Rattle.rooms_val.proofs.ListLemmas.{one_off}
use Rattle.rooms_val.proofs.MapsLemmas.{rising-added, ties_same, at-with_key, at-without_key, rising-without_key, order_itself, same_pairs, taken_first_at}

module _ {Y : Type 0} where
  -- a key that is done has what is wanted; one that is pending has nothing yet and will get what is wanted
  abbrev pub Stage : Option Y → Option (Option Y) → Option Y → Type 0
  Stage got None want = got ≡ want
  Stage got (Some o) want = (got ≡ None) × (o ≡ want)

  at-added : (r : List (List ℕ × Y)) (k q : List ℕ) (o : Option Y) → ties q k ≡ false → value_at (added r k o) q ≡ value_at r q
  at-added r k q None apart = refl
  at-added r k q (Some y) apart = at-with_key r k q y ∙ rw apart refl

  at_itself : (r : List (List ℕ × Y)) (k : List ℕ) (y : Y) → value_at (with_key r k y) k ≡ Some y
  at_itself r k y = at-with_key r k k y ∙ rw (order_itself k) refl

  at_done : (r : List (List ℕ × Y)) (k : List ℕ) (o want : Option Y) → o ≡ want → value_at r k ≡ None → value_at (added r k o) k ≡ want
  at_done r k None want is none = none ∙ is
  at_done r k (Some y) want is none = at_itself r k y ∙ is

module _ {A B Y : Type 0} where
  -- what is still to be put under a key, where it stands in either list
  abbrev pub pending : (Option A → Option B → Option Y) → Option A → Option B → Option (Option Y)
  pending f None None = None
  pending f (Some a) None = Some (f (Some a) None)
  pending f None (Some b) = Some (f None (Some b))
  pending f (Some a) (Some b) = Some (f (Some a) (Some b))

  -- ls and rs are left, r is made so far, and every key gets what the target has there
  pub record Going (f : List ℕ → Option A → Option B → Option Y) (target : List (List ℕ × Y)) (ls : List (List ℕ × A)) (rs : List (List ℕ × B)) (r : List (List ℕ × Y)) : Type 0 where
    pub lefts_rise : AreRising ls
    pub rights_rise : AreRising rs
    pub result_rises : AreRising r
    pub at_key : (q : List ℕ) → Stage (value_at r q) (pending (f q) (value_at ls q) (value_at rs q)) (value_at target q)

  at_start : (f : Option A → Option B → Option Y) (a : Option A) (b : Option B) (want : Option Y) → f None None ≡ None → f a b ≡ want → Stage None (pending f a b) want
  at_start f None None want none is = sym none ∙ is
  at_start f (Some a) None want none is = (refl, is)
  at_start f None (Some b) want none is = (refl, is)
  at_start f (Some a) (Some b) want none is = (refl, is)

  pub going_from : (f : List ℕ → Option A → Option B → Option Y) (target : List (List ℕ × Y)) (ls : List (List ℕ × A)) (rs : List (List ℕ × B))
      → ((q : List ℕ) → f q None None ≡ None) → ((q : List ℕ) → f q (value_at ls q) (value_at rs q) ≡ value_at target q) → AreRising ls → AreRising rs → Going f target ls rs []
  going_from f target ls rs none is ra rb = record {
    lefts_rise = ra;
    rights_rise = rb;
    result_rises = tt;
    at_key = λ q. at_start (f q) (value_at ls q) (value_at rs q) (value_at target q) (none q) (is q);
  }

  -- where nothing is left, the target is made
  pub gone : (f : List ℕ → Option A → Option B → Option Y) (target : List (List ℕ × Y)) (ls : List (List ℕ × A)) (rs : List (List ℕ × B)) (r : List (List ℕ × Y)) → AreRising target → ls ≡ [] → rs ≡ [] → Going f target ls rs r → r ≡ target
  gone f target ls rs r rising no_lefts no_rights going =
      same_pairs r target going.result_rises rising (λ q.
      subst (λ p. Stage (value_at r q) p (value_at target q)) (λ i. pending (f q) (value_at (no_lefts i) q) (value_at (no_rights i) q)) (going.at_key q))

  pending-cond : (f : Option A → Option B → Option Y) (t : Bool) (a : Option A) (b : Option B) → pending f (cond t None a) (cond t None b) ≡ cond t None (pending f a b)
  pending-cond f true a b = refl
  pending-cond f false a b = refl

  at_it : (f : Option A → Option B → Option Y) (none : f None None ≡ None) (a : Option A) (b : Option B) (r : List (List ℕ × Y)) (k : List ℕ) (o want : Option Y)
      → f a b ≡ o → Stage (value_at r k) (pending f a b) want → value_at (added r k o) k ≡ want
  at_it f none None None r k o want is stage = subst (λ v. value_at (added r k v) k ≡ want) (sym none ∙ is) stage
  at_it f none (Some a) None r k o want is stage = at_done r k o want (sym is ∙ stage.1) stage.0
  at_it f none None (Some b) r k o want is stage = at_done r k o want (sym is ∙ stage.1) stage.0
  at_it f none (Some a) (Some b) r k o want is stage = at_done r k o want (sym is ∙ stage.1) stage.0

  step_at : (f : List ℕ → Option A → Option B → Option Y) (want : List ℕ → Option Y) (a : Option A) (b : Option B) (r : List (List ℕ × Y)) (k q : List ℕ) (o : Option Y) (t : Bool)
      → ties q k ≡ t → f k None None ≡ None → (q ≡ k → Stage (value_at r k) (pending (f k) a b) (want k) × (f k a b ≡ o)) → Stage (value_at r q) (pending (f q) a b) (want q)
      → Stage (value_at (added r k o) q) (cond t None (pending (f q) a b)) (want q)
  step_at f want a b r k q o true tied none here stage =
      let same = ties_same q k tied in
      subst (λ x. value_at (added r k o) x ≡ want x) (sym same) (at_it (f k) none a b r k o (want k) (here same).1 (here same).0)
  step_at f want a b r k q o false apart none here stage = subst (λ v. Stage v (pending (f q) a b) (want q)) (sym (at-added r k q o apart)) stage

  -- one key further: both lists lose it, and what it gives is put
  pub going_on : (f : List ℕ → Option A → Option B → Option Y) (target : List (List ℕ × Y)) (ls ls' : List (List ℕ × A)) (rs rs' : List (List ℕ × B)) (r : List (List ℕ × Y)) (k : List ℕ) (a : Option A) (b : Option B) (o : Option Y)
      → ((q : List ℕ) → f q None None ≡ None) → IsTaken k a ls ls' → IsTaken k b rs rs' → f k a b ≡ o → Going f target ls rs r → Going f target ls' rs' (added r k o)
  going_on f target ls ls' rs rs' r k a b o none ta tb is going = record {
    lefts_rise = subst AreRising (sym ta.rest_is) (rising-without_key ls k going.lefts_rise);
    rights_rise = subst AreRising (sym tb.rest_is) (rising-without_key rs k going.rights_rise);
    result_rises = rising-added r k o going.result_rises;
    at_key = λ q.
        let at_k : f k (value_at ls k) (value_at rs k) ≡ o = (λ i. f k (sym ta.found_is i) (sym tb.found_is i)) ∙ is in
        let here : q ≡ k → Stage (value_at r k) (pending (f k) (value_at ls q) (value_at rs q)) (value_at target k) × (f k (value_at ls q) (value_at rs q) ≡ o) =
        λ same. subst (λ x. Stage (value_at r k) (pending (f k) (value_at ls x) (value_at rs x)) (value_at target k) × (f k (value_at ls x) (value_at rs x) ≡ o)) (sym same) (going.at_key k, at_k) in
        let stepped = step_at f (value_at target) (value_at ls q) (value_at rs q) r k q o (ties q k) refl (none k) here (going.at_key q) in
        let same_left : pending (f q) (value_at ls' q) (value_at rs' q) ≡ cond (ties q k) None (pending (f q) (value_at ls q) (value_at rs q)) =
        (λ i. pending (f q) ((ap (λ es. value_at es q) ta.rest_is ∙ at-without_key ls k q) i) ((ap (λ es. value_at es q) tb.rest_is ∙ at-without_key rs k q) i)) ∙ pending-cond (f q) (ties q k) (value_at ls q) (value_at rs q) in
        subst (λ p. Stage (value_at (added r k o) q) p (value_at target q)) (sym same_left) stepped;
  }

-- one rising list alone, gone through by its places
module _ {B Y : Type 0} where
  pub going_first : (f : List ℕ → Option ℕ → Option B → Option Y) (target : List (List ℕ × Y)) (s : List (List ℕ × B))
      → ((q : List ℕ) → f q None None ≡ None) → ((q : List ℕ) → f q None (value_at s q) ≡ value_at target q) → AreRising s → Going f target [] (drop 0 s) []
  going_first f target s none is rising = going_from f target [] s none is tt rising

  pub going_next : (f : List ℕ → Option ℕ → Option B → Option Y) (target : List (List ℕ × Y)) (s : List (List ℕ × B)) (i : ℕ) (x : List ℕ × B) (r : List (List ℕ × Y)) (o : Option Y)
      → ((q : List ℕ) → f q None None ≡ None) → i < length s → x ≡ get_or s i x → f x.0 None (Some x.1) ≡ o → Going f target [] (drop i s) r → Going f target [] (drop (i + 1) s) (added r x.0 o)
  going_next f target s i x r o none within here is going =
      let parts = one_off s i x within here in
      going_on f target [] [] (drop i s) (drop (i + 1) s) r x.0 None (Some x.1) o none (record { found_is = refl; rest_is = refl }) (taken_first_at x.0 x (drop i s) (drop (i + 1) s) parts going.rights_rise refl) is going

  pub going_done : (f : List ℕ → Option ℕ → Option B → Option Y) (target : List (List ℕ × Y)) (s : List (List ℕ × B)) (i : ℕ) (r : List (List ℕ × Y)) → AreRising target → length s ≤ i → Going f target [] (drop i s) r → r ≡ target
  going_done f target s i r rising all going = gone f target [] (drop i s) r rising refl (drop_all i s all) going
