-- A map is copied, one key after another.
use Rattle.std.proofs.Common.{◌≡◌, ℕ, suc, length, List, [], ◌∷◌, ◌++◌, map, refl, sym, ap, subst, ◌∙◌, append_assoc, append-nil}
use Rattle.rooms_val.specs.Data.{Pairs}
use Rattle.rooms_val.specs.Maps.{added, value_at, AreRising}
use Rattle.rooms_val.proofs.MapsLemmas.{put_last, found_within}

-- these pairs were copied, and those of the keys are left
pub record IsCopied (all done : Pairs) (keys : List (List ℕ)) : Type 0 where
  pub left : Pairs
  pub whole : done ++ left ≡ all
  pub keys_are : keys ≡ map (λ p. p.0) left

pub none_copied : (all done : Pairs) (keys : List (List ℕ)) → done ≡ [] → keys ≡ map (λ p. p.0) all → IsCopied all done keys
none_copied all done keys none are = record { left = all; whole = ap (λ ps. ps ++ all) none; keys_are = are }

module _ (all done : Pairs) (rising : AreRising all) (key : List ℕ) (keys : List (List ℕ)) (more : Pairs) (put : more ≡ added done key (value_at all key)) where
  by_left : (left : Pairs) → done ++ left ≡ all → key ∷ keys ≡ map (λ p. p.0) left → IsCopied all more keys
  by_left [] whole are = absurd (let none : key ∷ keys ≡ [] = are in cc)
  by_left (p ∷ left) whole are =
      let same : key ≡ p.0 = cc in
      let others : keys ≡ map (λ q. q.0) left = cc in
      let found = ap (λ ps. value_at ps p.0) (sym whole) ∙ found_within done p.0 p.1 left (subst AreRising (sym whole) rising) in
      let last : more ≡ done ++ p ∷ [] =
      put ∙ ap (λ k. added done k (value_at all k)) same ∙ ap (added done p.0) found ∙ put_last done p.0 p.1 left (subst AreRising (sym whole) rising) in
      record { left = left; whole = ap (λ ps. ps ++ left) last ∙ append_assoc done (p ∷ []) left ∙ whole; keys_are = others }

  -- one more is copied
  pub one_copied : IsCopied all done (key ∷ keys) → IsCopied all more keys
  one_copied so_far = by_left so_far.left so_far.whole so_far.keys_are

no_keys : (left : Pairs) → [] ≡ map (λ p. p.0) left → left ≡ []
no_keys [] are = refl
no_keys (p ∷ left) are = absurd (let none : [] ≡ p.0 ∷ map (λ q. q.0) left = are in cc)

-- where no key is left all are copied
pub all_copied : (all done : Pairs) → IsCopied all done [] → done ≡ all
all_copied all done so_far = sym (append-nil done) ∙ ap (λ ps. done ++ ps) (sym (no_keys so_far.left so_far.keys_are)) ∙ so_far.whole

pub nothing_left : (keys : List (List ℕ)) → length keys ≡ 0 → keys ≡ []
nothing_left [] is = refl
nothing_left (key ∷ keys) is = absurd (let none : suc (length keys) ≡ 0 = is in cc)
