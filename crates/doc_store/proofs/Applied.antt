-- A diff that is applied operation by operation: the records that are still to be changed are those of the beginning.
use Rattle.std.proofs.Common.{◌≡◌, ℕ, List, ◌∷◌, Bool, true, false, cond, is_eq, Option, Some, None, option_map, refl, sym, ap, ◌∙◌}
use Rattle.std.specs.Option.{is_some, option_and_then}
use Rattle.rooms_val.specs.Data.{Data, Pairs}
use Rattle.rooms_val.specs.Maps.{value_at, AreRising, ties}
use Rattle.field_ops.specs.RecordOps.{RecordOpTree, RecordOps}
use Rattle.field_ops.specs.ViewRecordOps.{change_of, changes_view}
use Rattle.field_ops.specs.declared.record_op.RecordOp.{RecordOp}
use Rattle.rooms_val.proofs.MapsLemmas.{ties_same, order_itself, at-seen}
use Rattle.doc_model.specs.Documents.{step_at}
use Rattle.doc_model.specs.Inverses.{record_after, inverse_on, inverse_diff}
use Rattle.doc_model.proofs.InverseLemmas.{none_later, at-step_at, at-inverse_diff}

-- the records of the ids that are left are those of the beginning
abbrev pub Untouched : {X : Type 0} → List (List ℕ × X) → Pairs → Pairs → Type 0
Untouched left now first = (q : List ℕ) → is_some (value_at left q) ≡ true → value_at now q ≡ value_at first q

pub untouched_here : {X : Type 0} (e : List ℕ × X) (left : List (List ℕ × X)) (now first : Pairs) → Untouched (e ∷ left) now first → value_at now e.0 ≡ value_at first e.0
untouched_here e left now first same = same e.0 (ap (λ o. is_some (cond (is_eq o) (Some e.1) (value_at left e.0))) (order_itself e.0))

module _ (admits : List ℕ → Data → Bool) where
  pub untouched_next : {X : Type 0} (e : List ℕ × X) (left : List (List ℕ × X)) (now first : Pairs) (c : RecordOpTree) → AreRising (e ∷ left) → Untouched (e ∷ left) now first → Untouched left (step_at admits now e.0 c) first
  untouched_next e left now first c rising same = λ q there.
      elim (ties q e.0) as (λ t. ties q e.0 ≡ t → value_at (step_at admits now e.0 c) q ≡ value_at first q) [
        | true ↦ λ is.
            let gone : is_some (value_at left q) ≡ false = ap is_some (ap (value_at left) (ties_same q e.0 is) ∙ none_later e left rising) in
            absurd cc
        | false ↦ λ is.
            at-step_at admits now e.0 q c ∙ ap (λ t. cond t (record_after admits e.0 (Some c) (value_at now e.0)) (value_at now q)) is
            ∙ same q (ap (λ t. is_some (cond t (Some e.1) (value_at left q))) is ∙ there)
      ] refl

  -- what an id gives to the inverse: what undoes its operation
  abbrev pub gives : Pairs → List ℕ → Option ℕ → Option RecordOp → Option RecordOpTree
  gives first q _ op = option_and_then (λ o. inverse_on admits q (change_of o) (value_at first q)) op

  seen_first : (q : List ℕ) (first : Pairs) (o : Option RecordOp) → option_and_then (λ x. inverse_on admits q (change_of x) (value_at first q)) o ≡ option_and_then (λ c. inverse_on admits q c (value_at first q)) (option_map change_of o)
  seen_first q first None = refl
  seen_first q first (Some x) = refl

  pub gives_all : (s : List (List ℕ × RecordOp)) (diff : RecordOps) (first : Pairs) → changes_view s ≡ diff → (q : List ℕ) → gives first q None (value_at s q) ≡ value_at (inverse_diff admits first diff) q
  gives_all s diff first seen q =
      seen_first q first (value_at s q)
      ∙ ap (option_and_then (λ c. inverse_on admits q c (value_at first q))) (sym (at-seen change_of s q) ∙ ap (λ es. value_at es q) seen)
      ∙ sym (at-inverse_diff admits first diff q)
