-- The events that a session is told come in order to its client.
use Rattle.std.proofs.Common.{◌≡◌, ℕ, zero, suc, ◌+◌, ◌-◌, ◌≤◌, ◌==◌, nat_lt, nat_le, ℤ, pos, Bool, true, false, cond, List, [], ◌∷◌, ◌++◌, length, drop, slice_get, Some, None, option_map, refl, sym, ap, subst, ◌∙◌, arith}
use Rattle.std.specs.Prelude.{int_lt, count_by}
use Rattle.std.proofs.lemmas.Bool.Decides.{nat_tests, Decides-eqb}
use Rattle.std.proofs.lemmas.Option.{same_Some}
use Rattle.std.proofs.lemmas.List.Sums.{sum_by-cons}
use Rattle.field_ops.specs.RecordOps.{RecordOps}
use Rattle.room_model.specs.Schemas.{Schemas, Member}
use Rattle.room_model.specs.Histories.{History, records_of, above, is_author, is_by}
use Rattle.room_model.specs.Messages.{result_event, patch_event, event_by, event_of, events_after, bare_result, bare_results, catch_up, told_diff}
use Rattle.room_model.specs.Bases.{IsAnswered, AreAnswered}
use Rattle.room_model.specs.Replicas.{Pending}
use Rattle.room_model.specs.declared.history.Author.{Author}
use Rattle.room_model.specs.declared.history.Entry.{Entry}
use Rattle.room_model.specs.declared.limits.TheConstants.{MOST_TOLD}
use Rattle.sync_msgs.specs.declared.data_event.Action.TheVariants.{Rebase}
use Rattle.sync_msgs.specs.declared.data_event.DataEvent.{DataEvent}
use Rattle.sync_msgs.specs.declared.data_event.DataEvent.TheVariants.{Patch, PushResult}
use Rattle.world_laws.specs.Told.{IsOfFirst, AreInOrder, clock_after}
use Rattle.world_laws.specs.Pending.{answers_by, answered_above, IsOwed}
use Rattle.world_laws.proofs.OweLemmas.{answered_count}
use Rattle.sync_msgs.specs.declared.client_message.ClientMessage.{ClientMessage}

-- a clock that isn't below another
not_below : (held clock : ℕ) → held ≤ clock → int_lt (pos clock) (pos held) ≡ false
not_below held clock less = let h : nat_lt clock held ≡ false = grind (arith, nat_tests) in h

-- the items that are pending after events
abbrev pub left_after : List Pending → List DataEvent → List Pending
left_after items [] = items
left_after items (Patch diff clock ∷ events) = left_after items events
left_after items (PushResult client_clock clock action ∷ events) = left_after (drop 1 items) events

left_joined : (items : List Pending) (xs ys : List DataEvent) → left_after items (xs ++ ys) ≡ left_after (left_after items xs) ys
left_joined items [] ys = refl
left_joined items (Patch diff clock ∷ xs) ys = left_joined items xs ys
left_joined items (PushResult client_clock clock action ∷ xs) ys = left_joined (drop 1 items) xs ys

clock_joined : (held : ℤ) (xs ys : List DataEvent) → clock_after held (xs ++ ys) ≡ clock_after (clock_after held xs) ys
clock_joined held [] ys = refl
clock_joined held (Patch diff clock ∷ xs) ys = clock_joined clock xs ys
clock_joined held (PushResult client_clock clock action ∷ xs) ys = clock_joined clock xs ys

order_joined : (held : ℤ) (items : List Pending) (xs ys : List DataEvent) → AreInOrder held items xs → AreInOrder (clock_after held xs) (left_after items xs) ys → AreInOrder held items (xs ++ ys)
order_joined held items [] ys h k = k
order_joined held items (Patch diff clock ∷ xs) ys h k = (h.0, order_joined clock items xs ys h.1 k)
order_joined held items (PushResult client_clock clock action ∷ xs) ys h k = (h.0, h.1, order_joined clock (drop 1 items) xs ys h.2 k)

first_of : (items : List Pending) (place : ℕ) (item : Pending) (client_clock : ℤ) → slice_get items place ≡ Some item → option_map pos item.sent_as ≡ Some client_clock
    → IsOfFirst client_clock (drop place items)
first_of [] place item client_clock there number = absurd (cc)
first_of (x ∷ items) zero item client_clock there number = let same : x ≡ item = cc in ap (λ (i : Pending). option_map pos i.sent_as) same ∙ number
first_of (x ∷ items) (suc place) item client_clock there number = first_of items place item client_clock there number

-- events brought a client from a clock and items to others, in order
pub record AreBrought (held : ℤ) (items : List Pending) (events : List DataEvent) (reached : ℤ) (rest : List Pending) : Type 0 where
  pub order : AreInOrder held items events
  pub clock : clock_after held events ≡ reached
  pub left : left_after items events ≡ rest

brought_joined : (a b c : ℤ) (xs ys zs : List Pending) (es fs : List DataEvent) → AreBrought a xs es b ys → AreBrought b ys fs c zs → AreBrought a xs (es ++ fs) c zs
brought_joined a b c xs ys zs es fs h k = record {
  order = order_joined a xs es fs h.order (subst (λ n. AreInOrder n (left_after xs es) fs) (sym h.clock) (subst (λ l. AreInOrder b l fs) (sym h.left) k.order));
  clock = clock_joined a es fs ∙ ap (λ n. clock_after n fs) h.clock ∙ k.clock;
  left = left_joined xs es fs ∙ ap (λ l. left_after l fs) h.left ∙ k.left;
}

drop_more : (n : ℕ) (items : List Pending) → drop 1 (drop n items) ≡ drop (suc n) items
drop_more zero items = refl
drop_more (suc n) [] = refl
drop_more (suc n) (item ∷ items) = drop_more n items

drop_if : (b : Bool) (n : ℕ) (items : List Pending) → drop (cond b 1 0) (drop n items) ≡ drop (cond b 1 0 + n) items
drop_if true n items = drop_more n items ∙ (let same : suc n ≡ 1 + n = omega arith in ap (λ k. drop k items) same)
drop_if false n items = let same : n ≡ 0 + n = omega arith in ap (λ k. drop k items) same

module _ (schemas : Schemas) (member : Member) where
  abbrev is_mine : Entry → Bool
  is_mine entry = is_by member.session entry

  -- the items that are left by those that entries answer
  abbrev rest : List Pending → List Entry → List Pending
  rest items entries = drop (count_by is_mine entries) items

  rest_of : (items : List Pending) (entry : Entry) (entries : List Entry) → drop (cond (is_mine entry) 1 0) (rest items entries) ≡ rest items (entry ∷ entries)
  rest_of items entry entries =
      drop_if (is_mine entry) (count_by is_mine entries) items ∙ ap (λ n. drop n items) (sym (sum_by-cons (λ e. cond (is_mine e) 1 0) entry entries))

  -- a patch brings a client to its clock
  patch_brought : (held clock : ℕ) (items : List Pending) (diff : RecordOps) → held ≤ clock → AreBrought (pos held) items (Patch diff (pos clock) ∷ []) (pos clock) items
  patch_brought held clock items diff less = record { order = (not_below held clock less, tt); clock = refl; left = refl }

  -- an own entry is answered by the first item that is left
  abbrev AnswersFirst : List Pending → Entry → Type 0
  AnswersFirst items entry = (author : Author) → entry.author ≡ Some author → author.session ≡ member.session → IsOfFirst author.client_clock items

  answers_first : (items : List Pending) (entry : Entry) (entries : List Entry) → AreAnswered schemas member.session items (entry ∷ entries) → AnswersFirst (rest items entries) entry
  answers_first items entry entries h = λ author by mine.
      let a = h.0 author by mine in
      first_of items (count_by is_mine entries) a.item author.client_clock a.there a.number

  event_brought : (held : ℕ) (items : List Pending) (entry : Entry) (history : History) → held ≤ suc (length history) → AnswersFirst items entry
      → AreBrought (pos held) items (event_of schemas member entry history ∷ []) (pos (suc (length history))) (drop (cond (is_mine entry) 1 0) items)
  event_brought held items entry history less firsts =
      let m = records_of (entry ∷ history) in
      let clock = suc (length history) in
      let patched = patch_brought held clock items (told_diff schemas member m entry.diff) less in
      elim entry.author as (λ o. entry.author ≡ o → AreBrought (pos held) items (event_by schemas member m clock entry.diff o ∷ []) (pos clock) (drop (cond (is_author member.session o) 1 0) items)) [
        | None ↦ λ is. patched
        | Some author ↦ λ is. elim (author.session == member.session) as (λ b. (author.session == member.session) ≡ b
            → AreBrought (pos held) items (cond b (result_event schemas member m clock author) (patch_event schemas member m clock entry.diff) ∷ []) (pos clock) (drop (cond b 1 0) items)) [
              | true ↦ λ mine. record { order = (firsts author is ((Decides-eqb author.session member.session).0 mine), not_below held clock less, tt); clock = refl; left = refl }
              | false ↦ λ other. patched
            ] refl
      ] refl

  events_brought : (sent : ℕ) (history : History) (items : List Pending) → sent ≤ length history → AreAnswered schemas member.session items (above sent history)
      → AreBrought (pos sent) items (events_after schemas member sent history) (pos (length history)) (rest items (above sent history))
  events_brought sent [] items less answers = record { order = tt; clock = (let none : sent ≡ 0 = omega arith in ap pos none); left = refl }
  events_brought sent (entry ∷ history) items less answers =
      let clock = suc (length history) in
      let before = events_after schemas member sent history in
      elim (nat_lt (length history) sent) as (λ b. nat_lt (length history) sent ≡ b → AreAnswered schemas member.session items (cond b [] (entry ∷ above sent history))
      → AreBrought (pos sent) items (cond b [] (before ++ event_of schemas member entry history ∷ [])) (pos clock) (rest items (cond b [] (entry ∷ above sent history)))) [
        | true ↦ λ last those. record { order = tt; clock = (let all : sent ≡ clock = grind (arith, nat_tests) in ap pos all); left = refl }
        | false ↦ λ later those.
            let within : sent ≤ length history = grind (arith, nat_tests) in
            let left = rest items (above sent history) in
            subst (AreBrought (pos sent) items (before ++ event_of schemas member entry history ∷ []) (pos clock)) (rest_of items entry (above sent history))
            (brought_joined (pos sent) (pos (length history)) (pos clock) items left (drop (cond (is_mine entry) 1 0) left) before (event_of schemas member entry history ∷ [])
            (events_brought sent history items within those.1)
            (event_brought (length history) left entry history (omega arith) (answers_first items entry (above sent history) those)))
      ] refl answers

  -- the results of a catch-up, each at its clock
  bare_one : (held clock : ℕ) (items : List Pending) (entry : Entry) → held ≤ clock → AnswersFirst items entry
      → (n : ℕ) × (n ≤ clock) × AreBrought (pos held) items (bare_result schemas member clock entry.author) (pos n) (drop (cond (is_mine entry) 1 0) items)
  bare_one held clock items entry less firsts =
      let none : AreBrought (pos held) items [] (pos held) items = record { order = tt; clock = refl; left = refl } in
      elim entry.author as (λ o. entry.author ≡ o
      → (n : ℕ) × (n ≤ clock) × AreBrought (pos held) items (bare_result schemas member clock o) (pos n) (drop (cond (is_author member.session o) 1 0) items)) [
        | None ↦ λ is. (held, less, none)
        | Some author ↦ λ is. elim (author.session == member.session) as (λ b. (author.session == member.session) ≡ b
            → (n : ℕ) × (n ≤ clock) × AreBrought (pos held) items (cond b (PushResult author.client_clock (pos clock) (Rebase []) ∷ []) []) (pos n) (drop (cond b 1 0) items)) [
              | true ↦ λ mine. (clock, omega arith, record { order = (firsts author is ((Decides-eqb author.session member.session).0 mine), not_below held clock less, tt); clock = refl; left = refl })
              | false ↦ λ other. (held, less, none)
            ] refl
      ] refl

  bare_all : (held clock : ℕ) (items : List Pending) (entries : List Entry) → held ≤ clock → AreAnswered schemas member.session items entries
      → (n : ℕ) × (n ≤ clock) × AreBrought (pos held) items (bare_results schemas member clock entries) (pos n) (rest items entries)
  bare_all held clock items [] less answers = (held, less, record { order = tt; clock = refl; left = refl })
  bare_all held clock items (entry ∷ entries) less answers =
      let h = bare_all held clock items entries less answers.1 in
      let left = rest items entries in
      let one = bare_one h.0 clock left entry h.1 (answers_first items entry entries answers) in (
        one.0,
        one.1,
        subst (AreBrought (pos held) items (bare_results schemas member clock (entry ∷ entries)) (pos one.0)) (rest_of items entry entries)
            (brought_joined (pos held) (pos h.0) (pos one.0) items left (drop (cond (is_mine entry) 1 0) left) (bare_results schemas member clock entries) (bare_result schemas member clock entry.author)
            h.2 one.2),
      )

  caught_brought : (sent : ℕ) (history : History) (items : List Pending) → sent ≤ length history → AreAnswered schemas member.session items (above sent history)
      → AreBrought (pos sent) items (catch_up schemas member sent history) (pos (length history)) (rest items (above sent history))
  caught_brought sent history items less answers =
      let clock = length history in
      let left = rest items (above sent history) in
      let h = bare_all sent clock items (above sent history) less answers in
      brought_joined (pos sent) (pos h.0) (pos clock) items left left (bare_results schemas member clock (above sent history)) _ h.2 (patch_brought h.0 clock left _ h.1)

  -- the events of a message
  abbrev pub events_told : ℕ → History → List DataEvent
  events_told sent history = cond (nat_le (length history - sent) MOST_TOLD) (events_after schemas member sent history) (catch_up schemas member sent history)

  pub updates_brought : (sent : ℕ) (history : History) (items : List Pending) → sent ≤ length history → AreAnswered schemas member.session items (above sent history)
      → AreBrought (pos sent) items (events_told sent history) (pos (length history)) (rest items (above sent history))
  updates_brought sent history items less answers =
      elim (nat_le (length history - sent) MOST_TOLD) as (λ b. AreBrought (pos sent) items (cond b (events_after schemas member sent history) (catch_up schemas member sent history)) (pos (length history)) (rest items (above sent history))) [
        | true ↦ events_brought sent history items less answers
        | false ↦ caught_brought sent history items less answers
      ]

-- what a client owes is answered by the entries above its clock

module _ (schemas : Schemas) where
  owed_front : (goes : Bool) (xs ys : List Entry) (items : List Pending) (ms : List ClientMessage) → IsOwed schemas goes (xs ++ ys) items ms → IsOwed schemas false xs items []
  owed_front goes [] ys items ms h = tt
  owed_front goes (x ∷ xs) ys [] ms h = absurd h
  owed_front goes (x ∷ xs) ys (item ∷ items) ms h = (h.0, owed_front goes xs ys items ms h.1)

  owed_last : (goes : Bool) (xs : List Entry) (entry : Entry) (items : List Pending) (ms : List ClientMessage) (author : Author) → entry.author ≡ Some author
      → IsOwed schemas goes (xs ++ entry ∷ []) items ms → IsAnswered schemas items (length xs) entry.diff author
  owed_last goes [] entry [] ms author by h = absurd h
  owed_last goes [] entry (item ∷ items) ms author by h =
      let a = h.0.2 in
      let same : a.author ≡ author = same_Some _ _ (sym a.by ∙ by) in
      record {
        item = item;
        there = refl;
        number = ap (option_map pos) h.0.1 ∙ ap Some (sym a.numbered ∙ ap (λ (x : Author). x.client_clock) same);
        commit = λ is. a.commits (ap (λ (x : Author). x.action) same ∙ is);
      }
  owed_last goes (x ∷ xs) entry [] ms author by h = absurd h
  owed_last goes (x ∷ xs) entry (item ∷ items) ms author by h =
      let on = owed_last goes xs entry items ms author by h.1 in
      record { item = on.item; there = on.there; number = on.number; commit = on.commit }

  pub owed_answered : (goes : Bool) (k clock : ℕ) (history : History) (items : List Pending) (ms : List ClientMessage) → IsOwed schemas goes (answered_above k clock history) items ms
      → AreAnswered schemas k items (above clock history)
  owed_answered goes k clock [] items ms h = tt
  owed_answered goes k clock (entry ∷ history) items ms h =
      let before = answered_above k clock history in
      elim (nat_lt (length history) clock) as (λ b. IsOwed schemas goes (cond b [] (before ++ answers_by k entry)) items ms → AreAnswered schemas k items (cond b [] (entry ∷ above clock history))) [
        | true ↦ λ h. tt
        | false ↦ λ h. (
          λ author by mine.
              let own : is_by k entry ≡ true = ap (is_author k) by ∙ (Decides-eqb author.session k).1 mine in
              let now : IsOwed schemas goes (before ++ entry ∷ []) items ms = subst (λ b. IsOwed schemas goes (before ++ cond b (entry ∷ []) []) items ms) own h in
              subst (λ n. IsAnswered schemas items n entry.diff author) (answered_count k clock history) (owed_last goes before entry items ms author by now),
          owed_answered false k clock history items [] (owed_front goes before (answers_by k entry) items ms h),
        )
      ] h
