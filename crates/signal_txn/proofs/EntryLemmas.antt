-- Entries by key, and what a level knows once a key is noted.
use Rattle.std.proofs.Common.{◌≡◌, ◌⊎◌, inl, inr, Bool, true, false, cond, List, [], ◌∷◌, Option, Some, None, is_some, unwrap_or, refl, sym, ◌∙◌, ap, subst}
use Rattle.std.proofs.Math.Path.{fun_ext}
use Rattle.std.specs.Ordering.{is_eq, match_ordering}
use Rattle.std.specs.declared.cmp.Ordering.{Ordering}
use Rattle.std.specs.declared.cmp.Ordering.TheVariants.{Less, Equal, Greater}
use Rattle.std.specs.Map.{lookup, remove_entry}
use Rattle.std.specs.BTreeMap.{is_at, insert_entry}
use Rattle.signal_values.proofs.AtomLemmas.{IsExact, eq_same, same_eq, not_eq}
use Rattle.signal_txn.specs.Level.{Level, value_before, began_at, noted}
use Rattle.signal_txn.specs.Seen.{HasWritten}

-- two keys are the same, or not
pub same_or_not : {K : Type 0} (cmp : K → K → Ordering) → IsExact cmp → (a b : K) → (a ≡ b) ⊎ (a ≡ b → ⊥)
same_or_not cmp x a b = at (is_eq (cmp a b)) refl
  where
    at : (o : Bool) → is_eq (cmp a b) ≡ o → (a ≡ b) ⊎ (a ≡ b → ⊥)
    at true e = inl (eq_same cmp x a b e)
    at false e = inr (λ p. no_both (is_eq (cmp a b)) (same_eq cmp x a b p) e)
      where
        no_both : (b : Bool) → b ≡ true → b ≡ false → ⊥
        no_both b p q = cc

pub cond_true : {A : Type 0} (b : Bool) (a o : A) → b ≡ true → cond b a o ≡ a
cond_true true a o e = refl
cond_true false a o e = absurd (cc)

pub cond_false : {A : Type 0} (b : Bool) (a o : A) → b ≡ false → cond b a o ≡ o
cond_false true a o e = absurd (cc)
cond_false false a o e = refl

some_none : {A : Type 0} (o : Option A) (a : A) → o ≡ Some a → o ≡ None → ⊥
some_none o a p q = cc

module _ {K V : Type 0} where
  -- a key that is inserted is found
  pub lookup_inserted : (cmp : K → K → Ordering) → IsExact cmp → (es : List (K × V)) (key : K) (v : V)
      → lookup (is_at (cmp key)) (insert_entry cmp es key v) ≡ Some v
  lookup_inserted cmp x [] key v = cond_true (is_eq (cmp key key)) (Some v) None (ap is_eq (x.itself key))
  lookup_inserted cmp x (e ∷ es) key v = at (lookup_inserted cmp x es key v) (cmp key e.0) refl
    where
      at : lookup (is_at (cmp key)) (insert_entry cmp es key v) ≡ Some v → (o : Ordering) → cmp key e.0 ≡ o
          → lookup (is_at (cmp key)) (match_ordering o ((key, v) ∷ e ∷ es) ((e.0, v) ∷ es) (e ∷ insert_entry cmp es key v)) ≡ Some v
      at rest Less is = cond_true (is_eq (cmp key key)) (Some v) _ (ap is_eq (x.itself key))
      at rest Equal is = cond_true (is_eq (cmp key e.0)) (Some v) _ (ap is_eq is)
      at rest Greater is = cond_false (is_eq (cmp key e.0)) (Some e.1) _ (ap is_eq is) ∙ rest

  -- another key is found as before
  pub lookup_other : (cmp : K → K → Ordering) → IsExact cmp → (es : List (K × V)) (key : K) (v : V) (k : K) → (k ≡ key → ⊥)
      → lookup (is_at (cmp k)) (insert_entry cmp es key v) ≡ lookup (is_at (cmp k)) es
  lookup_other cmp x [] key v k ne = cond_false (is_eq (cmp k key)) (Some v) None (not_eq cmp x k key ne)
  lookup_other cmp x (e ∷ es) key v k ne = at (lookup_other cmp x es key v k ne) (cmp key e.0) refl
    where
      at : lookup (is_at (cmp k)) (insert_entry cmp es key v) ≡ lookup (is_at (cmp k)) es → (o : Ordering) → cmp key e.0 ≡ o
          → lookup (is_at (cmp k)) (match_ordering o ((key, v) ∷ e ∷ es) ((e.0, v) ∷ es) (e ∷ insert_entry cmp es key v)) ≡ lookup (is_at (cmp k)) (e ∷ es)
      at rest Less is = cond_false (is_eq (cmp k key)) (Some v) _ (not_eq cmp x k key ne)
      at rest Equal is =
          let no : is_eq (cmp k e.0) ≡ false = not_eq cmp x k e.0 (λ p. ne (p ∙ sym (x.same key e.0 is))) in
          cond_false (is_eq (cmp k e.0)) (Some v) (lookup (is_at (cmp k)) es) no ∙ sym (cond_false (is_eq (cmp k e.0)) (Some e.1) (lookup (is_at (cmp k)) es) no)
      at rest Greater is = ap (cond (is_eq (cmp k e.0)) (Some e.1)) rest

  -- a key that is inserted and removed again
  pub remove_inserted : (cmp : K → K → Ordering) → IsExact cmp → (es : List (K × V)) (key : K) (v : V) → lookup (is_at (cmp key)) es ≡ None
      → remove_entry (is_at (cmp key)) (insert_entry cmp es key v) ≡ es
  remove_inserted cmp x [] key v absent = cond_true (is_eq (cmp key key)) [] _ (ap is_eq (x.itself key))
  remove_inserted cmp x (e ∷ es) key v absent = at (remove_inserted cmp x es key v) (cmp key e.0) refl
    where
      at : (lookup (is_at (cmp key)) es ≡ None → remove_entry (is_at (cmp key)) (insert_entry cmp es key v) ≡ es) → (o : Ordering) → cmp key e.0 ≡ o
          → remove_entry (is_at (cmp key)) (match_ordering o ((key, v) ∷ e ∷ es) ((e.0, v) ∷ es) (e ∷ insert_entry cmp es key v)) ≡ e ∷ es
      at rest Less is = cond_true (is_eq (cmp key key)) (e ∷ es) _ (ap is_eq (x.itself key))
      at rest Equal is = absurd (some_none (lookup (is_at (cmp key)) (e ∷ es)) e.1 (cond_true (is_eq (cmp key e.0)) (Some e.1) _ (ap is_eq is)) absent)
      at rest Greater is =
          cond_false (is_eq (cmp key e.0)) (insert_entry cmp es key v) _ (ap is_eq is)
          ∙ ap (λ (rs : List (K × V)). e ∷ rs) (rest (sym (cond_false (is_eq (cmp key e.0)) (Some e.1) (lookup (is_at (cmp key)) es) (ap is_eq is)) ∙ absent))

  -- a key that is noted has the value that it had, or else this
  pub noted_here : (cmp : K → K → Ordering) → IsExact cmp → (key : K) (v : V) (level : Level K V)
      → value_before cmp (noted cmp key v level) key ≡ Some (unwrap_or (value_before cmp level key) v)
  noted_here cmp x key v level = at (value_before cmp level key) refl
    where
      at : (o : Option V) → value_before cmp level key ≡ o
          → value_before cmp (cond (is_some o) level (record level { before = insert_entry cmp level.before key v })) key ≡ Some (unwrap_or o v)
      at None is = lookup_inserted cmp x level.before key v
      at (Some w) is = is

  pub noted_other : (cmp : K → K → Ordering) → IsExact cmp → (key : K) (v : V) (level : Level K V) (k : K) → (k ≡ key → ⊥)
      → value_before cmp (noted cmp key v level) k ≡ value_before cmp level k
  noted_other cmp x key v level k ne = at (is_some (value_before cmp level key))
    where
      at : (b : Bool) → value_before cmp (cond b level (record level { before = insert_entry cmp level.before key v })) k ≡ value_before cmp level k
      at true = refl
      at false = lookup_other cmp x level.before key v k ne

  -- a key that was written is known already; another is noted
  pub noted_known : (cmp : K → K → Ordering) (key : K) (v : V) (level : Level K V) → is_some (value_before cmp level key) ≡ true → noted cmp key v level ≡ level
  noted_known cmp key v level h = cond_true (is_some (value_before cmp level key)) level _ h

  -- what was noted of a key is forgotten
  pub noted_forgotten : (cmp : K → K → Ordering) → IsExact cmp → (key : K) (v : V) (level : Level K V) → value_before cmp level key ≡ None
      → record (noted cmp key v level) { before = remove_entry (is_at (cmp key)) (noted cmp key v level).before } ≡ level
  noted_forgotten cmp x key v level absent =
      let new : noted cmp key v level ≡ record level { before = insert_entry cmp level.before key v } = cond_false (is_some (value_before cmp level key)) level _ (ap is_some absent) in
      ap (λ (l : Level K V). record l { before = remove_entry (is_at (cmp key)) l.before }) new
      ∙ ap (λ (es : List (K × V)). record level { before = es }) (remove_inserted cmp x level.before key v absent)

  pub written_after : (cmp : K → K → Ordering) → IsExact cmp → (key : K) (v : V) (level : Level K V) (k : K)
      → HasWritten cmp (noted cmp key v level) k → HasWritten cmp level k ⊎ (k ≡ key)
  written_after cmp x key v level k h = elim (same_or_not cmp x k key) [
    | inl e ↦ inr e
    | inr ne ↦ inl (ap is_some (sym (noted_other cmp x key v level k ne)) ∙ h)
  ]

  pub written_key : (cmp : K → K → Ordering) → IsExact cmp → (key : K) (v : V) (level : Level K V) → HasWritten cmp (noted cmp key v level) key
  written_key cmp x key v level = ap is_some (noted_here cmp x key v level)

  pub written_stays : (cmp : K → K → Ordering) → IsExact cmp → (key : K) (v : V) (level : Level K V) (k : K)
      → HasWritten cmp level k → HasWritten cmp (noted cmp key v level) k
  written_stays cmp x key v level k h = elim (same_or_not cmp x k key) [
    | inl e ↦ subst (λ (q : K). HasWritten cmp (noted cmp key v level) q) (sym e) (written_key cmp x key v level)
    | inr ne ↦ ap is_some (noted_other cmp x key v level k ne) ∙ h
  ]

  -- the atoms at which it began are those of before the write
  pub began_noted : (cmp : K → K → Ordering) → IsExact cmp → (key : K) (before now : K → V) → ((k : K) → (k ≡ key → ⊥) → now k ≡ before k) → (level : Level K V)
      → began_at cmp (noted cmp key (before key) level) now ≡ began_at cmp level before
  began_noted cmp x key before now others level = fun_ext (λ k. at k (same_or_not cmp x k key))
    where
      here : began_at cmp (noted cmp key (before key) level) now key ≡ began_at cmp level before key
      here = ap (λ (o : Option V). unwrap_or o (now key)) (noted_here cmp x key (before key) level)

      at : (k : K) → (k ≡ key) ⊎ (k ≡ key → ⊥) → began_at cmp (noted cmp key (before key) level) now k ≡ began_at cmp level before k
      at k (inl e) = subst (λ (q : K). began_at cmp (noted cmp key (before key) level) now q ≡ began_at cmp level before q) (sym e) here
      at k (inr ne) = ap (λ (o : Option V). unwrap_or o (now k)) (noted_other cmp x key (before key) level k ne) ∙ ap (unwrap_or (value_before cmp level k)) (others k ne)
