-- Writes after one another.
use Rattle.std.proofs.Common.{ℕ, ◌+◌, List, [], ◌++◌, Option, None, Some, take, drop, sym, ap, ◌∙◌, subst, append_assoc, append-nil}
use Rattle.std.proofs.Math.Seq.{take-add}
use Rattle.room_link.specs.Held.{Extends}

-- a sink that was given nothing holds what it held
pub Extends-nil : (a : Option (List ℕ)) → Extends a a []
Extends-nil None = tt
Extends-nil (Some x) = sym (append-nil x)

-- what two runs of writes added is what the first added and then what the second did
pub Extends-trans : (a b c : Option (List ℕ)) (xs ys : List ℕ) → Extends a b xs → Extends b c ys → Extends a c (xs ++ ys)
Extends-trans a b None xs ys first second = tt
Extends-trans a None (Some z) xs ys first second = absurd second
Extends-trans None (Some y) (Some z) xs ys first second = absurd first
Extends-trans (Some x) (Some y) (Some z) xs ys first second = second ∙ ap (λ l. l ++ ys) first ∙ append_assoc x xs ys

-- a front of a text is written, and then n bytes more
pub Extends-more : (a b c : Option (List ℕ)) (text : List ℕ) (at n : ℕ) → Extends a b (take at text) → Extends b c (take n (drop at text)) → Extends a c (take (at + n) text)
Extends-more a b c text at n first second = subst (Extends a c) (sym (take-add at n text)) (Extends-trans a b c _ _ first second)
