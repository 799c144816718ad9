-- The parts of a snapshot and of a catch-up, by what a room keeps.
use Rattle.std.proofs.Common.{◌≡◌, ℕ, ◌≤◌, ◌<◌, nat_lt, ℤ, pos, negsuc, ◌<ℤ◌, ◌≤ℤ◌, Bool, true, false, ◌||◌, ◌&&◌, not, cond, ◌⊎◌, inl, inr, List, [], map, filter, fold, length, Option, Some, None, is_some, option_map, refl, sym, ap, ◌∙◌, arith}
use Rattle.std.proofs.lemmas.Bool.Decides.{nat_tests}
use Rattle.std.proofs.lemmas.Int.{ints}
use Rattle.rooms_val.specs.Data.{Pairs}
use Rattle.rooms_val.specs.Maps.{AreRising, value_at, with_key, keys_of}
use Rattle.field_ops.specs.RecordOps.{RecordOps}
use Rattle.schema_core.specs.Admits.{is_document}
use Rattle.schema_core.specs.Tree.{SchemaTree}
use Rattle.room_model.specs.Schemas.{Plan, presence_id, is_own, records_with}
use Rattle.room_model.specs.Histories.{History, records_of, start_of}
use Rattle.room_model.specs.Messages.{known_clock, changes_after, with_puts, others_of}
use Rattle.room_schemas.specs.Decided.{decided}
use Rattle.room_accept.specs.Suiting.{HasPresences}
use Rattle.room_history.specs.Keeps.{Keeps}
use Rattle.room_history.specs.declared.kept.Kept.{Kept}
use Rattle.room_messages.specs.Present.{ArePresencesOf}
use Rattle.room_messages.specs.Told.{state_of, IsFrom}
use Rattle.room_messages.proofs.IdLemmas.{AreChanged, states_changed, states_put, others_put}

-- a diff with what records have under each of some ids
abbrev pub with_states_of : SchemaTree → Plan → Pairs → RecordOps → List (List ℕ) → RecordOps
with_states_of tree plan m diff ids = fold (λ d id. with_key d id (state_of (decided tree) plan (value_at m id))) diff ids

module _ (first : ℕ) (history : History) (kept : Kept) (keeps : Keeps first history kept) (tree : SchemaTree) (plan : Plan) where
  kept_records : kept.records.0 ≡ records_of history
  kept_records = ap (λ r. r.0) keeps.records

  -- what changed under ids that pass a test
  pub changed_states : (test : List ℕ → Bool) (clock : ℕ) (ids : List (List ℕ)) (diff : RecordOps) → AreChanged clock history ids
      → diff ≡ with_states_of tree plan kept.records.0 [] (filter test ids) → diff ≡ changes_after (decided tree) plan test clock history
  changed_states test clock ids diff moved is =
      is ∙ ap (λ m. with_states_of tree plan m [] (filter test ids)) kept_records ∙ states_changed (decided tree) plan history test clock ids moved

  -- all records under ids that pass a test, over another diff
  pub all_states : (test : List ℕ → Bool) (before diff : RecordOps) → AreRising before
      → diff ≡ with_states_of tree plan kept.records.0 before (filter test (keys_of kept.records.0)) → diff ≡ with_puts (decided tree) plan (records_with test (records_of history)) before
  all_states test before diff rising is =
      is ∙ ap (λ m. with_states_of tree plan m before (filter test (keys_of m))) kept_records ∙ states_put (decided tree) plan history test before rising

  -- so the presence of others, looked for under the ids of the sessions that are in the room
  pub other_states : (session : ℕ) (numbers : List ℕ) (before diff : RecordOps) → HasPresences tree → AreRising before → ArePresencesOf tree numbers (records_of history)
      → diff ≡ with_states_of tree plan kept.records.0 before (filter (λ id. not (is_own session id) && is_some (value_at kept.records.0 id)) (map presence_id numbers))
      → diff ≡ with_puts (decided tree) plan (others_of (decided tree) session (records_of history)) before
  other_states session numbers before diff presences rising are is =
      is
      ∙ ap (λ m. with_states_of tree plan m before (filter (λ id. not (is_own session id) && is_some (value_at m id)) (map presence_id numbers))) kept_records
      ∙ others_put (decided tree) plan history presences session numbers before rising are

-- the clock that a client has reached, where the room can't tell
pub not_known : (reached : ℤ) (start clock : ℕ) → (reached <ℤ pos start) ⊎ (pos clock <ℤ reached) → None ≡ option_map pos (known_clock reached start clock)
not_known (negsuc n) start clock out = refl
not_known (pos r) start clock out =
    let is : (nat_lt r start || nat_lt clock r) ≡ true = elim out [ inl low ↦ grind (arith, ints, nat_tests) | inr high ↦ grind (arith, ints, nat_tests) ] in
    ap (λ b. option_map pos (cond b None (Some r))) (sym is)

-- and where it can
pub is_known : (reached : ℤ) (start clock : ℕ) → pos start ≤ℤ reached → reached ≤ℤ pos clock → Some reached ≡ option_map pos (known_clock reached start clock)
is_known (negsuc n) start clock low high = absurd (omega (arith, ints, low))
is_known (pos r) start clock low high =
    let is : (nat_lt r start || nat_lt clock r) ≡ false = grind (arith, ints, nat_tests) in
    ap (λ b. option_map pos (cond b None (Some r))) (sym is)

-- a known clock isn't below the start
pub from_start : (reached : ℤ) (start clock : ℕ) → IsFrom start (known_clock reached start clock)
from_start (negsuc n) start clock = tt
from_start (pos r) start clock =
    elim (nat_lt r start || nat_lt clock r) as (λ b. (nat_lt r start || nat_lt clock r) ≡ b → IsFrom start (cond b None (Some r))) [
      | true ↦ λ is. tt
      | false ↦ λ is. not_below r start (nat_lt clock r) is
    ] refl
  where
    not_below : (r start : ℕ) (b : Bool) → (nat_lt r start || b) ≡ false → start ≤ r
    not_below r start b is = elim (nat_lt r start) as (λ t. nat_lt r start ≡ t → (t || b) ≡ false → start ≤ r) [
      | true ↦ λ low both. absurd (cc)
      | false ↦ λ high both. grind (arith, nat_tests)
    ] refl is
