-- What a client owes, in any state of it.
use Rattle.std.proofs.Common.{◌≡◌, ℕ, zero, suc, ◌+◌, ◌≤◌, nat_lt, ℤ, Bool, true, false, ◌&&◌, cond, List, [], ◌∷◌, ◌++◌, length, drop, count_by, Some, None, option_map, refl, sym, ap, subst, ◌∙◌, arith}
use Rattle.std.specs.Prelude.{is_none, find}
use Rattle.std.specs.Option.{option_map_or}
use Rattle.std.proofs.lemmas.Bool.Decides.{nat_tests}
use Rattle.std.proofs.lemmas.List.{append_assoc}
use Rattle.std.proofs.lemmas.List.Sums.{sum_by-cons, count_by-le-length}
use Rattle.room_model.specs.Schemas.{Schemas}
use Rattle.room_model.specs.Histories.{History, is_by, above, oldest}
use Rattle.room_model.specs.Replicas.{Work, Pending, Client, is_open, push_of, Pushing, push_none, first_unsent, send_first, push_one, next_push, push_times, all_unsent, count_by_session}
use Rattle.room_model.specs.declared.history.Entry.{Entry}
use Rattle.room_model.specs.declared.limits.TheConstants.{MOST_PUSHES}
use Rattle.sync_msgs.specs.declared.client_message.ClientMessage.{ClientMessage}
use Rattle.world_laws.specs.Pending.{NoneBy, answers_by, answered_above, IsAnswer, AreInFlight, IsOwed}
use Rattle.world_laws.proofs.PushLemmas.{next_same}

pub append_none : {X : Type 0} (xs : List X) → xs ++ [] ≡ xs
append_none [] = refl
append_none (x ∷ xs) = ap (λ r. x ∷ r) (append_none xs)

-- the first that wasn't pushed, where the first of all was
first_later : (item : Pending) (items : List Pending) (n : ℕ) → item.sent_as ≡ Some n → first_unsent (item ∷ items) ≡ first_unsent items
first_later item items n is = ap (λ b. option_map (λ (item : Pending). item.work) (cond b (Some item) (find (λ item. is_none item.sent_as) items))) (ap is_none is)

send_later : (m : ℕ) (item : Pending) (items : List Pending) (n : ℕ) → item.sent_as ≡ Some n → send_first m (item ∷ items) ≡ item ∷ send_first m items
send_later m item items n is = ap (λ b. cond b (record item { sent_as = Some m } ∷ items) (item ∷ send_first m items)) (ap is_none is)

-- one more push
flight_push : (goes : Bool) (m : ℕ) (work : Work) (items : List Pending) (ms : List ClientMessage) → first_unsent items ≡ Some work → AreInFlight goes items ms
    → AreInFlight goes (send_first m items) (ms ++ push_of m work ∷ [])
flight_push false m work items ms is h = tt
flight_push true m work [] [] is h = absurd (cc)
flight_push true m work [] (said ∷ ms) is h = absurd h
flight_push true m work (item ∷ items) [] is h =
    let fresh : is_none item.sent_as ≡ true = ap is_none h.0 in
    let some : Some item.work ≡ Some work = sym (ap (λ b. option_map (λ (item : Pending). item.work) (cond b (Some item) (find (λ item. is_none item.sent_as) items))) fresh) ∙ is in
    let it : item.work ≡ work = cc in
    subst (λ is. AreInFlight true is (push_of m work ∷ [])) (sym (ap (λ b. cond b (record item { sent_as = Some m } ∷ items) (item ∷ send_first m items)) fresh))
    ((m, refl, ap (push_of m) (sym it)), h.1)
flight_push true m work (item ∷ items) (said ∷ ms) is h =
    subst (λ is. AreInFlight true is (said ∷ (ms ++ push_of m work ∷ []))) (sym (send_later m item items h.0.0 h.0.1))
    (h.0, flight_push true m work items ms (sym (first_later item items h.0.0 h.0.1) ∙ is) h.1)

owed_push : (schemas : Schemas) (goes : Bool) (m : ℕ) (work : Work) (numbers : List Entry) (items : List Pending) (ms : List ClientMessage) → first_unsent items ≡ Some work → IsOwed schemas goes numbers items ms
    → IsOwed schemas goes numbers (send_first m items) (ms ++ push_of m work ∷ [])
owed_push schemas goes m work [] items ms is h = flight_push goes m work items ms is h
owed_push schemas goes m work (number ∷ numbers) [] ms is h = absurd h
owed_push schemas goes m work (number ∷ numbers) (item ∷ items) ms is h =
    subst (λ is. IsOwed schemas goes (number ∷ numbers) is (ms ++ push_of m work ∷ [])) (sym (send_later m item items h.0.0 h.0.1))
    (h.0, owed_push schemas goes m work numbers items ms (sym (first_later item items h.0.0 h.0.1) ∙ is) h.1)

-- and as many as there are
pub owed_pushes : (schemas : Schemas) (goes : Bool) (numbers : List Entry) (n : ℕ) (c : Client) (ms : List ClientMessage) → IsOwed schemas goes numbers c.pending ms
    → IsOwed schemas goes numbers (push_times n c).client.pending (ms ++ (push_times n c).messages)
owed_pushes schemas goes numbers zero c ms h = subst (IsOwed schemas goes numbers c.pending) (sym (append_none ms)) h
owed_pushes schemas goes numbers (suc n) c ms h =
    let Owed : Pushing → Type 0 = λ p. IsOwed schemas goes numbers p.client.pending (ms ++ p.messages) in
    elim (next_push c) as (λ o. next_push c ≡ o → Owed (option_map_or (λ one. let more = push_times n one.client in record more { messages = one.messages ++ more.messages }) o (push_none c))) [
      | None ↦ λ is. subst (IsOwed schemas goes numbers c.pending) (sym (append_none ms)) h
      | Some p ↦ λ is.
          let on = next_same c p is in
          let one : Owed p = subst Owed (sym on.2) (owed_push schemas goes (suc c.pushes) on.0 numbers c.pending ms on.1 h) in
          subst (IsOwed schemas goes numbers (push_times n p.client).client.pending) (append_assoc ms p.messages (push_times n p.client).messages)
          (owed_pushes schemas goes numbers n p.client (ms ++ p.messages) one)
    ] refl

-- how many were not pushed
abbrev count_unsent : List Pending → ℕ
count_unsent items = count_by (λ item. is_none item.sent_as) items

-- 1 for an item that wasn't pushed
abbrev one_unsent : Pending → ℕ
one_unsent item = cond (is_none item.sent_as) 1 0

none_unsent : (items : List Pending) → count_unsent items ≤ 0 → first_unsent items ≡ None
none_unsent [] few = refl
none_unsent (item ∷ items) few =
    let less : one_unsent item + count_unsent items ≤ 0 = subst (λ n. n ≤ 0) (sum_by-cons one_unsent item items) few in
    elim (is_none item.sent_as) as (λ b. cond b 1 0 + count_unsent items ≤ 0 → option_map (λ (item : Pending). item.work) (cond b (Some item) (find (λ item. is_none item.sent_as) items)) ≡ None) [
      | true ↦ λ f. absurd (let one : 1 + count_unsent items ≤ 0 = f in omega arith)
      | false ↦ λ f. none_unsent items (let none : 0 + count_unsent items ≤ 0 = f in omega arith)
    ] less

fewer_unsent : (m : ℕ) (work : Work) (items : List Pending) → first_unsent items ≡ Some work → suc (count_unsent (send_first m items)) ≡ count_unsent items
fewer_unsent m work [] is = absurd (cc)
fewer_unsent m work (item ∷ items) is =
    let sent : Pending = record item { sent_as = Some m } in
    let all : count_unsent (item ∷ items) ≡ one_unsent item + count_unsent items = sum_by-cons one_unsent item items in
    elim (is_none item.sent_as) as (λ b. option_map (λ (item : Pending). item.work) (cond b (Some item) (find (λ item. is_none item.sent_as) items)) ≡ Some work → is_none item.sent_as ≡ b
    → suc (count_unsent (cond b (sent ∷ items) (item ∷ send_first m items))) ≡ count_unsent (item ∷ items)) [
      | true ↦ λ s t.
          let now : count_unsent (sent ∷ items) ≡ 0 + count_unsent items = sum_by-cons one_unsent sent items in
          let this : one_unsent item ≡ 1 = ap (λ b. cond b 1 0) t in
          let goal : suc (count_unsent (sent ∷ items)) ≡ count_unsent (item ∷ items) = omega arith in
          goal
      | false ↦ λ s t.
          let rest = fewer_unsent m work items s in
          let now : count_unsent (item ∷ send_first m items) ≡ one_unsent item + count_unsent (send_first m items) = sum_by-cons one_unsent item (send_first m items) in
          let goal : suc (count_unsent (item ∷ send_first m items)) ≡ count_unsent (item ∷ items) = omega arith in
          goal
    ] is refl

no_push : (c : Client) → first_unsent c.pending ≡ None → next_push c ≡ None
no_push c none =
    ap (λ o. cond (is_open c.connection && nat_lt c.pushes MOST_PUSHES) (option_map (push_one c) o) None) none
    ∙ elim (is_open c.connection && nat_lt c.pushes MOST_PUSHES) as (λ b. cond b (option_map (push_one c) None) None ≡ None) [ true ↦ refl | false ↦ refl ]

-- a client that pushed so often as it has items can push no more
pub pushed_all : (n : ℕ) (c : Client) → count_unsent c.pending ≤ n → next_push (push_times n c).client ≡ None
pushed_all zero c few = no_push c (none_unsent c.pending few)
pushed_all (suc n) c few =
    elim (next_push c) as (λ o. next_push c ≡ o → next_push (option_map_or (λ one. let more = push_times n one.client in record more { messages = one.messages ++ more.messages }) o (push_none c)).client ≡ None) [
      | None ↦ λ is. is
      | Some p ↦ λ is.
          let on = next_same c p is in
          let less = fewer_unsent (suc c.pushes) on.0 c.pending on.1 in
          let one : count_unsent p.client.pending ≤ n = subst (λ (q : Pushing). count_unsent q.client.pending ≤ n) (sym on.2) (omega arith) in
          pushed_all n p.client one
    ] refl

pub few_unsent : (items : List Pending) → count_unsent items ≤ length items
few_unsent items = count_by-le-length (λ item. is_none item.sent_as) items

-- a session that isn't live any more
pub owed_over : (schemas : Schemas) (numbers : List Entry) (items : List Pending) (ms : List ClientMessage) (goes : Bool) → IsOwed schemas goes numbers items ms → (others : List ClientMessage) → IsOwed schemas false numbers items others
owed_over schemas [] items ms goes h others = tt
owed_over schemas (number ∷ numbers) [] ms goes h others = absurd h
owed_over schemas (number ∷ numbers) (item ∷ items) ms goes h others = (h.0, owed_over schemas numbers items ms goes h.1 others)

-- the push that comes first is answered
pub owed_answer : (schemas : Schemas) (entries : List Entry) (items : List Pending) (said : ClientMessage) (ms : List ClientMessage) (entry : Entry)
    → ((n : ℕ) (work : Work) → said ≡ push_of n work → IsAnswer schemas n work entry) → IsOwed schemas true entries items (said ∷ ms)
    → IsOwed schemas true (entries ++ entry ∷ []) items ms
owed_answer schemas [] [] said ms entry says h = absurd h
owed_answer schemas [] (item ∷ items) said ms entry says h = ((h.0.0, h.0.1, says h.0.0 item.work h.0.2), h.1)
owed_answer schemas (e ∷ entries) [] said ms entry says h = absurd h
owed_answer schemas (e ∷ entries) (item ∷ items) said ms entry says h = (h.0, owed_answer schemas entries items said ms entry says h.1)

-- what was told is no longer pending
owed_told : (schemas : Schemas) (goes : Bool) (told later : List Entry) (items : List Pending) (ms : List ClientMessage) → IsOwed schemas goes (told ++ later) items ms → IsOwed schemas goes later (drop (length told) items) ms
owed_told schemas goes [] later items ms h = h
owed_told schemas goes (number ∷ told) later [] ms h = absurd h
owed_told schemas goes (number ∷ told) later (item ∷ items) ms h = owed_told schemas goes told later items ms h.1

-- entries

pub by_other : (k clock : ℕ) (entry : Entry) (history : History) → is_by k entry ≡ false → clock ≤ length history → answered_above k clock (entry ∷ history) ≡ answered_above k clock history
by_other k clock entry history other less =
    let not_before : nat_lt (length history) clock ≡ false = grind (arith, nat_tests) in
    let none : answers_by k entry ≡ [] = ap (λ b. cond b (entry ∷ []) []) other in
    ap (λ b. cond b [] (answered_above k clock history ++ answers_by k entry)) not_before ∙ ap (λ r. answered_above k clock history ++ r) none ∙ append_none (answered_above k clock history)

pub by_own : (k clock : ℕ) (entry : Entry) (history : History) → is_by k entry ≡ true → clock ≤ length history
    → answered_above k clock (entry ∷ history) ≡ answered_above k clock history ++ entry ∷ []
by_own k clock entry history own less =
    let not_before : nat_lt (length history) clock ≡ false = grind (arith, nat_tests) in
    ap (λ b. cond b [] (answered_above k clock history ++ answers_by k entry)) not_before
    ∙ ap (λ b. answered_above k clock history ++ cond b (entry ∷ []) []) own

pub none_answered : (k clock : ℕ) (history : History) → NoneBy k history → answered_above k clock history ≡ []
none_answered k clock [] h = refl
none_answered k clock (entry ∷ history) h =
    let none : answers_by k entry ≡ [] = ap (λ b. cond b (entry ∷ []) []) h.0 in
    elim (nat_lt (length history) clock) as (λ b. cond b [] (answered_above k clock history ++ answers_by k entry) ≡ []) [
      | true ↦ refl
      | false ↦ ap (λ r. r ++ answers_by k entry) (none_answered k clock history h.1) ∙ none
    ]

-- the answers above a clock are those up to a later one, and those above that
answers_count : (k : ℕ) (entry : Entry) → length (answers_by k entry) ≡ cond (is_by k entry) 1 0
answers_count k entry = elim (is_by k entry) as (λ b. length (cond b (entry ∷ []) []) ≡ cond b 1 0) [ true ↦ refl | false ↦ refl ]

long_append : {X : Type 0} (xs ys : List X) → length (xs ++ ys) ≡ length xs + length ys
long_append [] ys = omega arith
long_append (x ∷ xs) ys = let h = long_append xs ys in omega arith

pub answered_count : (k clock : ℕ) (history : History) → length (answered_above k clock history) ≡ count_by (is_by k) (above clock history)
answered_count k clock [] = refl
answered_count k clock (entry ∷ history) =
    let rest = answered_count k clock history in
    let before = answered_above k clock history in
    let these = answers_by k entry in
    let long = long_append before these in
    let one = answers_count k entry in
    let all : count_by (is_by k) (entry ∷ above clock history) ≡ cond (is_by k entry) 1 0 + count_by (is_by k) (above clock history) =
    sum_by-cons (λ e. cond (is_by k e) 1 0) entry (above clock history) in
    let goal : length (before ++ these) ≡ count_by (is_by k) (entry ∷ above clock history) = omega arith in
    elim (nat_lt (length history) clock) as (λ b. length (cond b [] (before ++ these)) ≡ count_by (is_by k) (cond b [] (entry ∷ above clock history))) [
      | true ↦ refl
      | false ↦ goal
    ]

answered_split : (k from to : ℕ) (history : History) → from ≤ to → answered_above k from history ≡ answered_above k from (oldest to history) ++ answered_above k to history
answered_split k from to [] less = refl
answered_split k from to (entry ∷ history) less =
    let rest = answered_split k from to history less in
    elim (nat_lt (length history) to) as (λ b. nat_lt (length history) to ≡ b → answered_above k from (entry ∷ history)
    ≡ answered_above k from (cond b (entry ∷ history) (oldest to history)) ++ cond b [] (answered_above k to history ++ answers_by k entry)) [
      | true ↦ λ before. sym (append_none (answered_above k from (entry ∷ history)))
      | false ↦ λ after.
          let not_before : nat_lt (length history) from ≡ false = grind (arith, nat_tests) in
          ap (λ b. cond b [] (answered_above k from history ++ answers_by k entry)) not_before ∙ ap (λ r. r ++ answers_by k entry) rest
          ∙ append_assoc (answered_above k from (oldest to history)) (answered_above k to history) (answers_by k entry)
    ] refl

pub owed_updates : (schemas : Schemas) (goes : Bool) (k from to : ℕ) (history : History) (items : List Pending) (ms : List ClientMessage) → from ≤ to → IsOwed schemas goes (answered_above k from history) items ms
    → IsOwed schemas goes (answered_above k to history) (drop (count_by_session k from to history) items) ms
owed_updates schemas goes k from to history items ms less h =
    let told = answered_above k from (oldest to history) in
    subst (λ n. IsOwed schemas goes (answered_above k to history) (drop n items) ms) (answered_count k from (oldest to history))
    (owed_told schemas goes told (answered_above k to history) items ms (subst (λ ns. IsOwed schemas goes ns items ms) (answered_split k from to history less) h))

-- a client that can push no more still can't with fewer items
first_dropped : (n : ℕ) (items : List Pending) → first_unsent items ≡ None → first_unsent (drop n items) ≡ None
first_dropped zero items none = none
first_dropped (suc n) [] none = refl
first_dropped (suc n) (item ∷ items) none =
    elim (is_none item.sent_as) as (λ b. option_map (λ (item : Pending). item.work) (cond b (Some item) (find (λ item. is_none item.sent_as) items)) ≡ None → first_unsent (drop n items) ≡ None) [
      | true ↦ λ some. absurd (cc)
      | false ↦ λ rest. first_dropped n items rest
    ] none

pub dropped_push : (n : ℕ) (r : ℤ) (c : Client) → next_push c ≡ None → next_push (record c { reached = r; pending = drop n c.pending }) ≡ None
dropped_push n r c none =
    let d : Client = record c { reached = r; pending = drop n c.pending } in
    elim (is_open c.connection && nat_lt c.pushes MOST_PUSHES) as (λ b. cond b (option_map (push_one c) (first_unsent c.pending)) None ≡ None → cond b (option_map (push_one d) (first_unsent d.pending)) None ≡ None) [
      | true ↦ λ is.
          let first : first_unsent c.pending ≡ None = elim (first_unsent c.pending) as (λ o. option_map (push_one c) o ≡ None → o ≡ None) [ None ↦ λ s. refl | Some work ↦ λ s. absurd (cc) ] is in
          ap (option_map (push_one d)) (first_dropped n c.pending first)
      | false ↦ λ is. refl
    ] none

-- works that were not pushed
pub unsent_flight : (goes : Bool) (works : List Work) → AreInFlight goes (all_unsent works) []
unsent_flight false works = tt
unsent_flight true [] = tt
unsent_flight true (work ∷ works) = (refl, unsent_flight true works)
