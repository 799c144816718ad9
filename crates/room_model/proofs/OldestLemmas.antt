-- What holds of the oldest entries of a history.
use Rattle.std.proofs.Common.{◌≡◌, ℕ, suc, ◌≤◌, min, nat_lt, true, false, cond, [], ◌∷◌, length, refl, arith}
use Rattle.std.proofs.lemmas.Bool.Decides.{nat_tests}
use Rattle.room_model.specs.Schemas.{Schemas, Plan}
use Rattle.room_model.specs.Histories.{History, oldest}
use Rattle.room_model.specs.Acting.{AllActing, AllCommit}

-- the oldest up to a clock of those up to a later one
pub oldest_twice : (clock later : ℕ) (history : History) → clock ≤ later → oldest clock (oldest later history) ≡ oldest clock history
oldest_twice clock later [] less = refl
oldest_twice clock later (entry ∷ history) less =
    elim (nat_lt (length history) later) as (λ b. nat_lt (length history) later ≡ b → oldest clock (cond b (entry ∷ history) (oldest later history)) ≡ oldest clock (entry ∷ history)) [
      | true ↦ λ is. refl
      | false ↦ λ is. elim (nat_lt (length history) clock) as (λ b. nat_lt (length history) clock ≡ b → oldest clock (oldest later history) ≡ cond b (entry ∷ history) (oldest clock history)) [
        | true ↦ λ below. absurd (grind (arith, nat_tests))
        | false ↦ λ below. oldest_twice clock later history less
      ] refl
    ] refl

-- how many there are
pub length-oldest : (clock : ℕ) (history : History) → length (oldest clock history) ≡ min clock (length history)
length-oldest clock [] = omega arith
length-oldest clock (entry ∷ history) =
    let h = length-oldest clock history in
    elim (nat_lt (length history) clock) as (λ b. nat_lt (length history) clock ≡ b → length (cond b (entry ∷ history) (oldest clock history)) ≡ min clock (suc (length history))) [
      | true ↦ λ is. grind (arith, nat_tests)
      | false ↦ λ is. grind (arith, nat_tests, h)
    ] refl

module _ (schemas : Schemas) (clock : ℕ) where
  pub acting-oldest : (history : History) → AllActing schemas history → AllActing schemas (oldest clock history)
  acting-oldest [] acts = tt
  acting-oldest (entry ∷ history) acts = elim (nat_lt (length history) clock) as (λ b. AllActing schemas (cond b (entry ∷ history) (oldest clock history))) [ true ↦ acts | false ↦ acting-oldest history acts.1 ]

  pub commit-oldest : (session : ℕ) (plan : Plan) (history : History) → AllCommit schemas session plan history → AllCommit schemas session plan (oldest clock history)
  commit-oldest session plan [] commits = tt
  commit-oldest session plan (entry ∷ history) commits =
      elim (nat_lt (length history) clock) as (λ b. AllCommit schemas session plan (cond b (entry ∷ history) (oldest clock history))) [ true ↦ commits | false ↦ commit-oldest session plan history commits.1 ]
