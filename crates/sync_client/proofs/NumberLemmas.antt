-- Pending items by their numbers.
use Rattle.std.proofs.Common.{◌≡◌, ◌≤◌, ◌<◌, ◌+◌, ◌*◌, Bool, ℕ, zero, suc, List, [], ◌∷◌, ◌++◌, length, drop, Some, slice_get, refl, sym, ap, ◌∙◌, arith}
use Rattle.std.specs.Prelude.{filter_map}
use Rattle.std.specs.List.{cons_option}
use Rattle.room_model.specs.Replicas.{Work, Pending, diff_in, unsent, all_unsent, first_unsent, send_first}
use Rattle.client_replica.specs.Works.{works_in, diffs_in, operations}
use Rattle.field_ops.specs.RecordOps.{RecordOps}
use Rattle.sync_msgs.specs.declared.server_message.Hydration.{Hydration}
use Rattle.sync_msgs.specs.declared.server_message.Hydration.TheVariants.{WipeAll, WipePresence}
use Rattle.room_model.specs.Schemas.{records_with}
use Rattle.client_replica.specs.Parts.{wiped}
use Rattle.sync_client.specs.Calls.{ClientState, answer_steps}
use Rattle.sync_client.specs.Numbers.{numbered, expected}
use Rattle.sync_client.specs.Faults.{first_number}

pub works-numbered : (first sent : ℕ) (works : List Work) → works_in (numbered first sent works) ≡ works
works-numbered first zero [] = refl
works-numbered first zero (work ∷ works) = ap (λ ws. work ∷ ws) (works-numbered first zero works)
works-numbered first (suc sent) [] = refl
works-numbered first (suc sent) (work ∷ works) = ap (λ ws. work ∷ ws) (works-numbered (suc first) sent works)

pub diffs-pending : (items : List Pending) → filter_map (λ item. diff_in item.work) items ≡ diffs_in (works_in items)
diffs-pending [] = refl
diffs-pending (item ∷ items) = ap (cons_option (diff_in item.work)) (diffs-pending items)

pub first_unsent-numbered : (first sent : ℕ) (works : List Work) → first_unsent (numbered first sent works) ≡ slice_get works sent
first_unsent-numbered first zero [] = refl
first_unsent-numbered first zero (work ∷ works) = refl
first_unsent-numbered first (suc sent) [] = refl
first_unsent-numbered first (suc sent) (work ∷ works) = first_unsent-numbered (suc first) sent works

-- the next work is sent
pub sent-numbered : (first sent : ℕ) (works : List Work) (number : ℕ) → sent < length works → number ≡ first + sent → send_first number (numbered first sent works) ≡ numbered first (suc sent) works
sent-numbered first zero [] number less is = absurd (omega arith)
sent-numbered first zero (work ∷ works) number less is = ap (λ n. record { work = work; sent_as = Some n } ∷ all_unsent works) (let it : number ≡ first = omega arith in it)
sent-numbered first (suc sent) [] number less is = absurd (omega arith)
sent-numbered first (suc sent) (work ∷ works) number less is =
    ap (λ items. record { work = work; sent_as = Some first } ∷ items) (sent-numbered (suc first) sent works number (omega arith) (omega arith))

-- a work more
pub numbered-append : (first sent : ℕ) (works : List Work) (work : Work) → sent ≤ length works → numbered first sent (works ++ work ∷ []) ≡ numbered first sent works ++ unsent work ∷ []
numbered-append first zero [] work within = refl
numbered-append first zero (w ∷ works) work within = ap (λ items. unsent w ∷ items) (numbered-append first zero works work (omega arith))
numbered-append first (suc sent) [] work within = absurd (omega arith)
numbered-append first (suc sent) (w ∷ works) work within = ap (λ items. record { work = w; sent_as = Some first } ∷ items) (numbered-append (suc first) sent works work (omega arith))

none : (first left : ℕ) → numbered first left [] ≡ []
none first zero = refl
none first (suc left) = refl

-- the first works are pending no more
pub numbered-drop : (first sent k : ℕ) (works : List Work) (left : ℕ) → left + k ≡ sent → drop k (numbered first sent works) ≡ numbered (first + k) left (drop k works)
numbered-drop first sent zero works left is = λ i. numbered ((let it : first ≡ first + 0 = omega arith in it) i) ((let it : sent ≡ left = omega arith in it) i) works
numbered-drop first zero (suc k) works left is = absurd (omega arith)
numbered-drop first (suc sent) (suc k) [] left is = sym (none (first + suc k) left)
numbered-drop first (suc sent) (suc k) (work ∷ works) left is =
    numbered-drop (suc first) sent k works left (omega arith) ∙ ap (λ n. numbered n left (drop k works)) (let it : suc first + k ≡ first + suc k = omega arith in it)

-- the number of the first item
pub number-numbered : (first sent : ℕ) (works : List Work) → sent ≤ length works → first_number (numbered first sent works) ≡ expected first sent 0
number-numbered first zero [] within = refl
number-numbered first zero (work ∷ works) within = refl
number-numbered first (suc sent) [] within = absurd (omega arith)
number-numbered first (suc sent) (work ∷ works) within = grind arith

-- how few steps an answer takes
pub answer_few : (is_doc : List ℕ → Bool) (state : ClientState) (hydration : Hydration) (diff : RecordOps) (old new : ℕ)
    → new ≤ old + (2 * operations (diffs_in (works_in state.client.pending)) + length diff + wiped hydration (records_with is_doc state.base)) → (hydration ≡ WipePresence → new ≤ old + length diff)
    → new ≤ old + answer_steps is_doc state hydration diff
answer_few is_doc state WipeAll diff old new all few = let same = ap operations (diffs-pending state.client.pending) in omega (arith, all, same)
answer_few is_doc state WipePresence diff old new all few = few refl
