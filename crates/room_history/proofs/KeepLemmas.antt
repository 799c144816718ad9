-- What a room keeps once an entry is appended.
use Rattle.std.proofs.Common.{◌≡◌, ℕ, suc, ◌+◌, ◌≤◌, ◌<◌, ◌^◌, pos, ◌+ℤ◌, true, false, add-one, List, [], ◌∷◌, ◌++◌, length, map, filter, is_some, nat_lt, refl, sym, ap, ◌∙◌, arith}
use Rattle.std.specs.Prelude.{is_none}
use Rattle.std.proofs.lemmas.List.{append-nil}
use Rattle.circular_buffer.specs.Buffer.{keep_last}
use Rattle.change_list.specs.Changes.{most_dead, kept_dead, next_start, next_dead}
use Rattle.rooms_val.specs.Maps.{value_at, AreRising}
use Rattle.schema_core.specs.Admits.{is_document}
use Rattle.schema_core.specs.SchemaOf.{schema_tree}
use Rattle.room_model.specs.Histories.{History, records_of, last_clocks, start_of}
use Rattle.room_model.specs.Schemas.{records_with}
use Rattle.room_model.specs.declared.history.Entry.{Entry}
use Rattle.room_model.specs.declared.limits.TheConstants.{MOST_TOLD}
use Rattle.room_model.proofs.HistoryLemmas.{start_within, start_rises}
use Rattle.room_schemas.specs.Decided.{is_presence}
use Rattle.room_accept.specs.Sizes.{size_of}
use Rattle.room_accept.specs.Suiting.{AreAdmitted, left_under, each_changes}
use Rattle.room_history.specs.Entries.{recent_tree, newest, trees_of}
use Rattle.room_history.specs.Keeps.{Keeps, change_at}
use Rattle.room_history.specs.Marks.{Left, Lists, set_all, mark_all, marks_of}
use Rattle.room_history.specs.declared.kept.Kept.{Kept}
use Rattle.room_history.proofs.LeftLemmas.{set-left, left-after}
use Rattle.room_history.proofs.MarkLemmas.{lists, marked}
use Rattle.room_history.proofs.PartLemmas as part
use Rattle.room_history.proofs.PruneLemmas.{pruned_start, pruned_dead}
use Rattle.room_history.proofs.RingLemmas.{keep_last-more}

-- the live and dead changes once an entry is marked
abbrev pub lists_after : Kept → Kept → Left → Lists
lists_after old new left = mark_all new.clock (marks_of left) (old.changes.live, old.changes.dead)

-- what the calls of an append make of what is kept, where they leave this under the entry's ids
pub record IsStep (old new : Kept) (entry : Entry) (left : Left) : Type 0 where
  pub schema : new.schema ≡ old.schema
  pub records : new.records ≡ (set_all old.records.0 left, [])
  pub clock : new.clock ≡ old.clock +ℤ pos 1
  pub live : new.changes.live ≡ (lists_after old new left).0
  pub dead : new.changes.dead ≡ next_dead most_dead kept_dead old.changes.start (lists_after old new left).1
  pub start : new.changes.start ≡ next_start most_dead kept_dead old.changes.start (lists_after old new left).1
  pub recent : map recent_tree new.recent.items ≡ keep_last old.recent.capacity (map recent_tree old.recent.items ++ record { clock = new.clock; entry = entry; after = left } ∷ [])
  pub capacity : new.recent.capacity ≡ old.recent.capacity

filter_all : {X : Type 0} (xs : List X) → filter (λ x. true) xs ≡ xs
filter_all [] = refl
filter_all (x ∷ xs) = ap (λ r. x ∷ r) (filter_all xs)

-- how many presences there are
abbrev pub presences : Kept → History → ℕ
presences kept history = length (records_with (is_presence (schema_tree kept.schema)) (records_of history))

module _ (first : ℕ) (history : History) (old new : Kept) (entry : Entry) (left : Left) (keeps : Keeps first history old) (step : IsStep old new entry left)
    (rising : AreRising entry.diff) (leaves : left ≡ left_under (records_of history) entry.diff) (changing : each_changes (records_of history) entry.diff ≡ true) where
  abbrev Start : ℕ
  Start = start_of first history

  begun_below : Start < suc (length history)
  begun_below = let within = start_within first history in omega (arith, keeps.began)

  clock_is : new.clock ≡ pos (suc (length history))
  clock_is = step.clock ∙ ap (λ z. z +ℤ pos 1) keeps.clock ∙ ap pos (add-one (length history))

  -- nothing is named yet
  unmarked : lists history Start begun_below [] ≡ (old.changes.live, old.changes.dead)
  unmarked =
      let none : part.clocks history [] ≡ last_clocks history = append-nil _ ∙ filter_all (last_clocks history) in
      (λ i. (map (change_at true) (filter (λ p. is_some (value_at (records_of history) p.0)) (none i)), map (change_at false) (filter (λ p. is_none (value_at (records_of history) p.0)) (filter (λ p. nat_lt Start p.1) (none i)))))
      ∙ (λ i. (sym keeps.live i, sym keeps.dead i))

  lists_are : lists_after old new left ≡ lists history Start begun_below entry.diff
  lists_are =
      (λ i. mark_all (clock_is i) (marks_of (leaves i)) (sym unmarked i)) ∙ marked history Start begun_below [] entry.diff rising changing

  records_are : new.records ≡ (records_of (entry ∷ history), [])
  records_are = step.records ∙ (λ i. (set_all ((keeps.records i).0) (leaves i), [])) ∙ ap (λ m. (m, [])) (set-left entry.diff (records_of history) rising)

  newest_is : record { clock = new.clock; entry = entry; after = left } ≡ newest entry history
  newest_is = (λ i. record { clock = clock_is i; entry = entry; after = (leaves ∙ sym (left-after entry.diff (records_of history) rising)) i })

  pub appended : AreAdmitted (schema_tree new.schema) (records_of (entry ∷ history)) → new.size ≡ size_of (is_document (schema_tree new.schema)) (records_of (entry ∷ history))
      → presences new (entry ∷ history) ≤ suc (length history) → suc (length history) + presences new (entry ∷ history) ≤ 2 ^ 54
      → Keeps first (entry ∷ history) new
  appended admitted size few bounded = record {
    began = omega (arith, keeps.began);
    records = records_are;
    admitted = admitted;
    size = size;
    clock = clock_is;
    live = step.live ∙ ap (λ ls. ls.0) lists_are;
    dead = step.dead ∙ (λ i. next_dead most_dead kept_dead (keeps.start i) ((lists_are i).1)) ∙ pruned_dead Start (entry ∷ history) (start_rises first entry history);
    start = step.start ∙ (λ i. next_start most_dead kept_dead (keeps.start i) ((lists_are i).1)) ∙ pruned_start Start (entry ∷ history);
    recent = step.recent ∙ (λ i. keep_last (keeps.capacity i) (keeps.recent i ++ newest_is i ∷ [])) ∙ keep_last-more MOST_TOLD (trees_of history) (newest entry history);
    capacity = step.capacity ∙ keeps.capacity;
    presences = few;
    bounded = bounded;
  }
