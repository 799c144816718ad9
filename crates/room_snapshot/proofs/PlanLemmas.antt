-- What a plan makes of a saved room.
use Rattle.std.proofs.Common.{◌≡◌, ℕ, ◌+◌, ◌<◌, ℤ, List, [], ◌∷◌, ◌++◌, Result, Ok, Err, IsErrAnd, length, get_or, take, refl, sym, ap, subst, ◌∙◌}
use Rattle.std.specs.Result.{result_map_both}
use Rattle.std.proofs.lemmas.List.{map-append, take_more}
use Rattle.rooms_val.proofs.Truths.{one_ok}
use Rattle.rooms_val.specs.Answers.{Gives}
use Rattle.rooms_val.specs.Data.{Data}
use Rattle.rooms_val.specs.View.{data_of, pairs_view, field_of}
use Rattle.rooms_val.specs.declared.val.Val.{Val}
use Rattle.migrate_seq.specs.declared.fault.PlanFault.{PlanFault}
use Rattle.migrate_seq.specs.declared.fault.PlanFault.TheVariants as plan_fault
use Rattle.migrate_steps.specs.declared.migration.Sequence.{Sequence}
use Rattle.migrate_seq.specs.declared.place.Place.{Place}
use Rattle.migrate_seq.specs.Plans.{migrations_at, plan_answer}
use Rattle.migrate_seq.specs.Versions.{Versions}
use Rattle.room_snapshot.specs.Ids.{HaveIds}
use Rattle.room_snapshot.specs.Raised.{all_at, next_clock, raised, raised_by, raised_along_all, AreRaised}
use Rattle.room_snapshot.specs.Saved.{SavedTree, saved_tree, document_view, documents_view, records_of}
use Rattle.room_model.specs.declared.saved.SavedRecord.{SavedRecord}
use Rattle.room_model.specs.declared.saved.SavedRoom.{SavedRoom}
use Rattle.room_snapshot.proofs.RaiseLemmas.{are_raised}

-- a record of a map more, with the clock
pub all_at-more : (es : List (List ℕ × Val)) (i : ℕ) (e : List ℕ × Val) (clock : ℤ) (made next : List SavedRecord) (d : SavedRecord) → i < length es → e ≡ get_or es i e
    → documents_view made ≡ all_at clock (pairs_view (take i es)) → document_view d ≡ (data_of e.1, clock) → next ≡ made ++ d ∷ []
    → documents_view next ≡ all_at clock (pairs_view (take (i + 1) es))
all_at-more es i e clock made next d within here so_far is next_is =
    ap documents_view next_is
    ∙ map-append document_view made (d ∷ [])
    ∙ (λ j. so_far j ++ is j ∷ [])
    ∙ sym (map-append (λ (p : List ℕ × Data). (p.1, clock)) (pairs_view (take i es)) (field_of e ∷ []))
    ∙ ap (all_at clock) (sym (map-append field_of (take i es) (e ∷ [])))
    ∙ ap (λ fs. all_at clock (pairs_view fs)) (sym (take_more es i e within ∙ ap (λ y. take i es ++ y ∷ []) (sym here)))

-- an error that is passed on gives what is defined
pub gives_err : (r : Result SavedRoom PlanFault) (e : PlanFault) (defined : Result SavedTree PlanFault) → IsErrAnd r (λ f. f ≡ e) → (¬ (e ≡ plan_fault.OutOfMemory) → defined ≡ Err e)
    → Gives plan_fault.OutOfMemory saved_tree r defined
gives_err (Ok x) e defined is gives = absurd is
gives_err (Err f) e defined is gives = λ other. gives (λ e_is. other (is ∙ e_is)) ∙ ap Err (sym is)

module _ (seqs : List Sequence) (held : Versions) (s : SavedTree) where
  pub raised_err : (e : PlanFault) → plan_answer seqs held ≡ Err e → raised seqs held s ≡ Err e
  raised_err e is = ap (result_map_both (raised_by seqs s) (λ fault. fault)) is

  pub raised_empty : (places : List Place) → plan_answer seqs held ≡ Ok places → places ≡ [] → raised seqs held s ≡ Ok s
  raised_empty places is none = ap (result_map_both (raised_by seqs s) (λ fault. fault)) is ∙ ap (λ ps. Ok (raised_by seqs s ps)) none

  some_run : (places : List Place) → ¬ (places ≡ []) → raised_by seqs s places ≡ raised_along_all (migrations_at seqs places) s
  some_run [] some = absurd (some refl)
  some_run (p ∷ places) some = refl

  pub raised_run : (places : List Place) → plan_answer seqs held ≡ Ok places → ¬ (places ≡ []) → raised seqs held s ≡ Ok (raised_along_all (migrations_at seqs places) s)
  raised_run places is some = ap (result_map_both (raised_by seqs s) (λ fault. fault)) is ∙ ap Ok (some_run places some)

  pub none_run : (A : Place → List Place → Type 0) (places : List Place) → plan_answer seqs held ≡ Ok places → places ≡ [] → (first : Place) (rest : List Place) → plan_answer seqs held ≡ Ok (first ∷ rest) → A first rest
  none_run A places is none first rest run =
      absurd (let same : first ∷ rest ≡ [] = one_ok (plan_answer seqs held) (first ∷ rest) places run is ∙ none in cc)

  pub each_run : (after : SavedTree) (places : List Place) → HaveIds (records_of s.documents) → plan_answer seqs held ≡ Ok places → after ≡ raised_along_all (migrations_at seqs places) s
      → (first : Place) (rest : List Place) → plan_answer seqs held ≡ Ok (first ∷ rest) → AreRaised (migrations_at seqs (first ∷ rest)) (next_clock s) s.documents after.documents
  each_run after places have is after_is first rest run =
      let places_are : places ≡ first ∷ rest = one_ok (plan_answer seqs held) places (first ∷ rest) is run in
      subst (λ (t : SavedTree). AreRaised (migrations_at seqs (first ∷ rest)) (next_clock s) s.documents t.documents)
      (sym (after_is ∙ ap (λ ps. raised_along_all (migrations_at seqs ps) s) places_are))
      (are_raised (migrations_at seqs (first ∷ rest)) (next_clock s) s.documents have)
