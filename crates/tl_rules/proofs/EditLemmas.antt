-- Lists of ids in parts, with a part that is changed.
use Rattle.std.proofs.Common.{◌≡◌, ℕ, zero, suc, ◌+◌, ◌-◌, ◌<◌, ◌≤◌, List, [], ◌∷◌, ◌++◌, length, take, drop, get_or, None, Some, insert, refl, sym, ◌∙◌, ap, subst, arith, append_assoc, length-append}
use Rattle.std.specs.List.{remove, slice_get}
use Rattle.std.proofs.lemmas.List.{append-nil, take-append-drop, drop_all}
use Rattle.std.proofs.lemmas.List.Edits.{insert-append_left, insert-append_right, remove-append_left, remove-append_right}
use Rattle.rooms_val.proofs.ListLemmas.{one_off, one_off_at, none_left}
use Rattle.tl_rules.specs.Ids.{flat}
use Rattle.tl_rules.specs.Parts.{IsIn}

abbrev Parts : Type 0
Parts = List (List (List ℕ))

pub flat-append : (xs ys : Parts) → flat (xs ++ ys) ≡ flat xs ++ flat ys
flat-append [] ys = refl
flat-append (x ∷ xs) ys = ap (λ l. x ++ l) (flat-append xs ys) ∙ sym (append_assoc x (flat xs) (flat ys))

-- the ids of one part
abbrev pub part_of : Parts → ℕ → List (List ℕ)
part_of parts at = flat (take 1 (drop at parts))

after_first : (parts : Parts) → flat (take 1 parts) ++ flat (drop 1 parts) ≡ flat parts
after_first [] = refl
after_first (p ∷ parts) = ap (λ l. l ++ flat parts) (append-nil p)

drop_suc : (parts : Parts) (at : ℕ) → drop 1 (drop at parts) ≡ drop (suc at) parts
drop_suc parts zero = refl
drop_suc [] (suc at) = refl
drop_suc (p ∷ parts) (suc at) = drop_suc parts at

drop_more : (parts : Parts) (at : ℕ) → drop 1 (drop at parts) ≡ drop (at + 1) parts
drop_more parts at = let e : suc at ≡ at + 1 = omega arith in drop_suc parts at ∙ ap (λ n. drop n parts) e

-- the ids before a part, of it, and after it
pub parted : (parts : Parts) (at : ℕ) → flat (take at parts) ++ (part_of parts at ++ flat (drop (at + 1) parts)) ≡ flat parts
parted parts at =
    ap (λ l. flat (take at parts) ++ (part_of parts at ++ flat l)) (sym (drop_more parts at))
    ∙ ap (λ l. flat (take at parts) ++ l) (after_first (drop at parts))
    ∙ sym (flat-append (take at parts) (drop at parts))
    ∙ ap flat (take-append-drop at parts)

-- the ids of a part that is there, and of none
pub part_here : (parts : Parts) (at : ℕ) (part : List (List ℕ)) → Some part ≡ slice_get parts at → part ≡ part_of parts at
part_here parts at part there = sym (ap (λ l. flat (take 1 l)) (one_off_at parts at part there) ∙ append-nil part)

pub no_part : (parts : Parts) (at : ℕ) → None ≡ slice_get parts at → [] ≡ part_of parts at
no_part parts at none = sym (ap (λ l. flat (take 1 l)) (none_left parts at none))

-- the parts before a part more
taken_suc : (parts : Parts) (at : ℕ) (part : List (List ℕ)) → at < length parts → part ≡ get_or parts at part → flat (take (suc at) parts) ≡ flat (take at parts) ++ part
taken_suc [] at part within is = absurd (omega arith)
taken_suc (p ∷ parts) zero part within is = append-nil p ∙ sym is
taken_suc (p ∷ parts) (suc at) part within is = ap (λ l. p ++ l) (taken_suc parts at part (omega arith) is) ∙ sym (append_assoc p (flat (take at parts)) part)

taken_more : (parts : Parts) (at : ℕ) (part : List (List ℕ)) → at < length parts → part ≡ get_or parts at part → flat (take (at + 1) parts) ≡ flat (take at parts) ++ part
taken_more parts at part within is = let e : at + 1 ≡ suc at = omega arith in ap (λ n. flat (take n parts)) e ∙ taken_suc parts at part within is

module _ (parts : Parts) (place wanted at offset : ℕ) (few : wanted ≤ 1) (some : place + wanted ≤ length (flat parts)) (so_far : length (flat (take at parts)) + offset ≡ place) where
  module _ (part : List (List ℕ)) (within : at < length parts) (is : part ≡ get_or parts at part) where
    pub found_in : offset < length part + 1 - wanted → IsIn parts place wanted at offset
    found_in fits = record {
      there = omega arith;
      before = so_far;
      fits = subst (λ (l : List (List ℕ)). offset + wanted ≤ length l) (sym (ap (λ l. flat (take 1 l)) (one_off parts at part within is) ∙ append-nil part)) (omega arith);
    }

    pub found_after : length part + 1 - wanted ≤ offset → length (flat (take (at + 1) parts)) + (offset - length part) ≡ place
    found_after past = omega (arith, ap length (taken_more parts at part within is), length-append (flat (take at parts)) part)

  pub found_end : at ≡ length parts → IsIn parts place wanted at offset
  found_end end =
      let whole : length (flat (take at parts)) + length (flat (drop at parts)) ≡ length (flat parts) =
      sym (length-append (flat (take at parts)) (flat (drop at parts))) ∙ ap length (sym (flat-append (take at parts) (drop at parts)) ∙ ap flat (take-append-drop at parts)) in
      let none : length (flat (drop at parts)) ≡ 0 = ap (λ l. length (flat l)) (drop_all at parts (omega arith)) in
      record { there = omega arith; before = so_far; fits = omega arith }

module _ (parts : Parts) (place at offset : ℕ) where
  -- a part with one id more
  pub put_in : IsIn parts place 0 at offset → (id : List ℕ) → (flat (take at parts) ++ insert (part_of parts at) offset id) ++ flat (drop (at + 1) parts) ≡ insert (flat parts) place id
  put_in is id =
      let place_is = is.before in
      let within = is.fits in
      append_assoc (flat (take at parts)) (insert (part_of parts at) offset id) (flat (drop (at + 1) parts))
      ∙ sym (ap (λ l. insert l place id) (sym (parted parts at))
      ∙ insert-append_right (flat (take at parts)) (part_of parts at ++ flat (drop (at + 1) parts)) (length (flat (take at parts))) place id refl (omega arith)
      ∙ ap (λ n. flat (take at parts) ++ insert (part_of parts at ++ flat (drop (at + 1) parts)) n id) (omega arith)
      ∙ ap (λ l. flat (take at parts) ++ l) (insert-append_left (part_of parts at) (flat (drop (at + 1) parts)) offset id (omega arith)))

  -- a part with one id less
  pub taken_out : IsIn parts place 1 at offset → (flat (take at parts) ++ remove (part_of parts at) offset) ++ flat (drop (at + 1) parts) ≡ remove (flat parts) place
  taken_out is =
      let place_is = is.before in
      let within = is.fits in
      append_assoc (flat (take at parts)) (remove (part_of parts at) offset) (flat (drop (at + 1) parts))
      ∙ sym (ap (λ l. remove l place) (sym (parted parts at))
      ∙ remove-append_right (flat (take at parts)) (part_of parts at ++ flat (drop (at + 1) parts)) (length (flat (take at parts))) place refl (omega arith)
      ∙ ap (λ n. flat (take at parts) ++ remove (part_of parts at ++ flat (drop (at + 1) parts)) n) (omega arith)
      ∙ ap (λ l. flat (take at parts) ++ l) (remove-append_left (part_of parts at) (flat (drop (at + 1) parts)) offset (omega arith)))

-- a part more
pub pushed : (old new : Parts) (items : List (List ℕ)) → new ≡ old ++ items ∷ [] → flat new ≡ flat old ++ items
pushed old new items is = ap flat is ∙ flat-append old (items ∷ []) ∙ ap (λ l. flat old ++ l) (append-nil items)

-- two parts more
pub pushed_twice : (old between new : Parts) (p q items : List (List ℕ)) (n : ℕ) → between ≡ old ++ p ∷ [] → new ≡ between ++ q ∷ [] → p ≡ take n items → q ≡ drop n items → flat new ≡ flat old ++ items
pushed_twice old between new p q items n first second front back =
    pushed between new q second ∙ ap (λ l. l ++ q) (pushed old between p first) ∙ append_assoc (flat old) p q
    ∙ ap (λ l. flat old ++ l) ((λ i. front i ++ back i) ∙ take-append-drop n items)

-- the parts before one, other ids, and the parts after it
pub replaced : (parts none front changed all before after others : Parts) (items : List (List ℕ)) (at : ℕ) → none ≡ [] → front ≡ none ++ before → flat changed ≡ flat front ++ items → all ≡ changed ++ others
    → before ≡ take at parts → after ≡ drop at parts → others ≡ drop 1 after → flat all ≡ (flat (take at parts) ++ items) ++ flat (drop (at + 1) parts)
replaced parts none front changed all before after others items at empty first second third before_is after_is others_are =
    ap flat third ∙ flat-append changed others
    ∙ ap (λ l. l ++ flat others) (second ∙ ap (λ l. flat l ++ items) (first ∙ (λ i. empty i ++ before_is i)))
    ∙ ap (λ l. (flat (take at parts) ++ items) ++ flat l) (others_are ∙ ap (drop 1) after_is ∙ drop_more parts at)
