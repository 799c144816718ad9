-- What a table of sessions has after a change, and what of it a history makes.
use Rattle.std.proofs.Common.{◌≡◌, ◌⊎◌, inl, inr, ℕ, zero, suc, ◌+◌, ◌≤◌, ◌<◌, ℤ, pos, nat_abs, nat_lt, Bool, true, false, not, cond, List, [], ◌∷◌, ◌++◌, length, slice_get, slice_set, ◌==◌, count_by, is_some, Option, Some, None, Result, Ok, Err, OnErr, refl, sym, ap, subst, ◌∙◌, arith}
use Rattle.std.proofs.lemmas.Bool.{cases_eq}
use Rattle.std.proofs.lemmas.Bool.Decides.{nat_tests, Decides-eqb}
use Rattle.std.proofs.lemmas.List.{length-set, length-append, append-nil}
use Rattle.std.proofs.lemmas.List.Sums.{sum_by-set, sum_by_push}
use Rattle.std.proofs.lemmas.Option.{slice_get_within}
use Rattle.slab.specs.Slab.{get, slab_len, with_value, Updates}
use Rattle.slab.proofs.SlabLemmas.{Updates-with_value, ContainsKey-within}
use Rattle.room_model.specs.Histories.{History, above}
use Rattle.room_model.specs.Rooms as model
use Rattle.room_model.specs.declared.history.Entry.{Entry}
use Rattle.room_messages.specs.Results.{own_clock, own_clocks}
use Rattle.sync_room.specs.Sessions.{phase_of, session_of, IsIn, HasPlace, IsByPush, IsSent, IsSentIn, IsKept, Holds, with_at, IsWithPushed}
use Rattle.sync_room.specs.declared.session.Phase.{Phase}
use Rattle.sync_room.specs.declared.session.Phase.TheVariants.{New, Asked, Live, Ended}
use Rattle.sync_room.specs.declared.session.Session.{Session}
use Rattle.sync_room.specs.declared.session.SessionId.{SessionId}
use Rattle.sync_room.specs.declared.sessions.Sessions.{Sessions}
use Rattle.sync_room.proofs.ListLemmas.{one_if, got_before, got_last, got_either, set_here, set_there, count_set}

-- a session in the table hasn't left
pub not_left : (phase : Phase) → model.has_left (phase_of phase) ≡ false
not_left New = refl
not_left (Asked request reached plan) = refl
not_left (Live sent plan) = refl
not_left (Ended reason told) = refl

abbrev is_here : model.Session → Bool
is_here s = not (model.has_left s.phase)

pub kept_here : (s : Session) → is_here (session_of s) ≡ true
kept_here s = ap not (not_left s.phase)

module _ (state : model.Room) (table : Sessions) (h : Holds state table) (key : ℕ) (s : Session) (at : get table.present key ≡ Some s) where
  -- no other key has the number of a session
  apart : (other : ℕ) (u : Session) → (other ≡ key → ⊥) → get table.present other ≡ Some u → u.number ≡ s.number → ⊥
  apart other u differs found same = differs (h.once other key u s found at same)

  -- a session of the table is changed, but for its number
  module _ (t : Session) (same : t.number ≡ s.number) where
    abbrev after : Sessions
    after = with_at key t table

    updates : Updates table.present after.present key (Some t)
    updates = Updates-with_value table.present key t (ap is_some at)

    -- each stands where it was, under its number
    earlier : (other : ℕ) (u : Session) → get after.present other ≡ Some u → (v : Session) × (get table.present other ≡ Some v) × (v.number ≡ u.number)
    earlier other u found = elim (cases_eq other key) [
      | inl is ↦ let it : t ≡ u = let new = updates.changed in let there = sym (ap (get after.present) is) ∙ found in cc in (s, ap (get table.present) is ∙ at, sym same ∙ ap (λ s. s.number) it)
      | inr differs ↦ (u, sym (updates.others other differs) ∙ found, refl)
    ]

    count : slab_len after.present ≡ slab_len table.present
    count =
        let less = ContainsKey-within table.present key (ap is_some at) in
        let sums : slab_len after.present + one_if (is_some (get table.present key)) ≡ slab_len table.present + 1 =
        sum_by-set (λ o. one_if (is_some o)) table.present.slots key (Some t) None less in
        let one : one_if (is_some (get table.present key)) ≡ 1 = ap (λ o. one_if (is_some o)) at in
        omega arith

    count_here : model.count_here (model.with_session s.number (session_of t) state) ≡ model.count_here state
    count_here =
        let sums : model.count_here (model.with_session s.number (session_of t) state) + one_if (is_here (session_of s)) ≡ model.count_here state + one_if (is_here (session_of t)) =
        count_set is_here state.sessions s.number (session_of s) (session_of t) (h.here key s at) in
        let left : one_if (is_here (session_of s)) ≡ 1 = ap one_if (kept_here s) in
        let right : one_if (is_here (session_of t)) ≡ 1 = ap one_if (kept_here t) in
        omega arith

    here : (other : ℕ) (u : Session) → get after.present other ≡ Some u → slice_get (slice_set state.sessions s.number (session_of t)) u.number ≡ Some (session_of u)
    here other u found = elim (cases_eq other key) [
      | inl is ↦
          let it : t ≡ u = let new = updates.changed in let there = sym (ap (get after.present) is) ∙ found in cc in
          subst (λ u. slice_get (slice_set state.sessions s.number (session_of t)) u.number ≡ Some (session_of u)) it
          (subst (λ n. slice_get (slice_set state.sessions s.number (session_of t)) n ≡ Some (session_of t)) (sym same) (set_here state.sessions s.number (session_of s) (session_of t) (h.here key s at)))
      | inr differs ↦
          let old = sym (updates.others other differs) ∙ found in
          set_there state.sessions s.number u.number (session_of t) (apart other u differs old) ∙ h.here other u old
    ]

    there : (number : ℕ) (session : model.Session) → slice_get (slice_set state.sessions s.number (session_of t)) number ≡ Some session → model.has_left session.phase ≡ false → HasPlace number after
    there number session found left = elim (cases_eq number s.number) [
      | inl is ↦ (key, t, updates.changed, same ∙ sym is)
      | inr differs ↦
          let old = h.there number session (sym (set_there state.sessions s.number number (session_of t) differs) ∙ found) left in
          elim (cases_eq old.0 key) [
            | inl is ↦ absurd (let it : old.1 ≡ s = let found = sym (ap (get table.present) is) ∙ old.2 in cc in differs (sym old.3 ∙ ap (λ s. s.number) it))
            | inr other ↦ (old.0, old.1, updates.others old.0 other ∙ old.2, old.3)
          ]
    ]

    -- with a history in which the others are kept as well
    pub changed_in : (history : History) → ((other : ℕ) (u : Session) → (other ≡ key → ⊥) → get table.present other ≡ Some u → IsKept history u)
        → IsKept history t → Holds (record (model.with_session s.number (session_of t) state) { history = history }) after
    changed_in history others kept = record {
      entered = length-set state.sessions s.number (session_of t) ∙ h.entered;
      here = here;
      kept = λ other u found. elim (cases_eq other key) [
        | inl is ↦ let it : t ≡ u = let new = updates.changed in let there = sym (ap (get after.present) is) ∙ found in cc in subst (IsKept history) it kept
        | inr differs ↦ others other u differs (sym (updates.others other differs) ∙ found)
      ];
      once = λ other another u v found too numbers.
          let was = earlier other u found in
          let were = earlier another v too in
          h.once other another was.0 were.0 was.1 were.1 (was.2 ∙ numbers ∙ sym were.2);
      there = there;
      count = count ∙ h.count ∙ sym count_here;
    }

    pub changed : IsKept state.history t → Holds (model.with_session s.number (session_of t) state) after
    changed kept = changed_in state.history (λ other u differs found. h.kept other u found) kept

  -- a session is taken out of the table, as it leaves
  module _ (t : model.Session) (left : model.has_left t.phase ≡ true) (after : Sessions) (updates : Updates table.present after.present key None) where
    was : (other : ℕ) (u : Session) → get after.present other ≡ Some u → (other ≡ key → ⊥) × (get table.present other ≡ Some u)
    was other u found = elim (cases_eq other key) [
      | inl is ↦ absurd (let gone = updates.changed in let here = sym (ap (get after.present) is) ∙ found in cc)
      | inr differs ↦ (differs, sym (updates.others other differs) ∙ found)
    ]

    pub removed : (history : History) → ((other : ℕ) (u : Session) → (other ≡ key → ⊥) → get table.present other ≡ Some u → IsKept history u)
        → slab_len after.present + 1 ≡ slab_len table.present → after.entered ≡ table.entered
        → Holds (record (model.with_session s.number t state) { history = history }) after
    removed history others fewer same = record {
      entered = length-set state.sessions s.number t ∙ h.entered ∙ sym same;
      here = λ other u found.
          let old = was other u found in
          set_there state.sessions s.number u.number t (apart other u old.0 old.1) ∙ h.here other u old.1;
      kept = λ other u found. let old = was other u found in others other u old.0 old.1;
      once = λ other another u v found too numbers. h.once other another u v (was other u found).1 (was another v too).1 numbers;
      there = λ number session found stays. elim (cases_eq number s.number) [
        | inl is ↦
            let here = set_here state.sessions s.number (session_of s) t (h.here key s at) in
            let found = sym (ap (slice_get (slice_set state.sessions s.number t)) is) ∙ found in
            let it : t ≡ session = cc in
            absurd (let gone = sym (ap (λ s. model.has_left s.phase) it) ∙ left in cc)
        | inr differs ↦
            let old = h.there number session (sym (set_there state.sessions s.number number t differs) ∙ found) stays in
            elim (cases_eq old.0 key) [
              | inl is ↦ absurd (let it : old.1 ≡ s = let found = sym (ap (get table.present) is) ∙ old.2 in cc in differs (sym old.3 ∙ ap (λ s. s.number) it))
              | inr other ↦ (old.0, old.1, updates.others old.0 other ∙ old.2, old.3)
            ]
      ];
      count =
          let sums : model.count_here (model.with_session s.number t state) + one_if (is_here (session_of s)) ≡ model.count_here state + one_if (is_here t) =
          count_set is_here state.sessions s.number (session_of s) t (h.here key s at) in
          let one : one_if (is_here (session_of s)) ≡ 1 = ap one_if (kept_here s) in
          let none : one_if (is_here t) ≡ 0 = ap (λ b. one_if (not b)) left in
          let before : slab_len table.present ≡ model.count_here state = h.count in
          let all : slab_len after.present ≡ model.count_here (model.with_session s.number t state) = omega arith in
          all;
    }

-- a session is put into the table as it enters
module _ (state : model.Room) (table after : Sessions) (h : Holds state table) (key : ℕ) (s : Session) (vacant : get table.present key ≡ None)
    (updates : Updates table.present after.present key (Some s)) (number : s.number ≡ table.entered) where
  stood : (other : ℕ) (u : Session) → get after.present other ≡ Some u → ((other ≡ key) × (s ≡ u)) ⊎ (get table.present other ≡ Some u)
  stood other u found = elim (cases_eq other key) [
    | inl is ↦ let it : s ≡ u = let new = updates.changed in let there = sym (ap (get after.present) is) ∙ found in cc in inl (is, it)
    | inr differs ↦ inr (sym (updates.others other differs) ∙ found)
  ]

  last_number : s.number ≡ length state.sessions
  last_number = number ∙ sym h.entered

  -- whoever was there has another number
  lower : (other : ℕ) (u : Session) → get table.present other ≡ Some u → u.number ≡ s.number → ⊥
  lower other u found same = let less = slice_get_within state.sessions u.number (session_of u) (h.here other u found) in let last = last_number in absurd (omega arith)

  pub added : IsKept state.history s → slab_len after.present ≡ slab_len table.present + 1 → after.entered ≡ table.entered + 1
      → Holds (record state { sessions = state.sessions ++ session_of s ∷ [] }) after
  added kept more entered = record {
    entered = let long = length-append state.sessions (session_of s ∷ []) in let before = h.entered in omega arith;
    here = λ other u found. elim (stood other u found) [
      | inl new ↦ subst (λ u. slice_get (state.sessions ++ session_of s ∷ []) u.number ≡ Some (session_of u)) new.1
          (subst (λ n. slice_get (state.sessions ++ session_of s ∷ []) n ≡ Some (session_of s)) (sym last_number) (got_last state.sessions (session_of s)))
      | inr old ↦ got_before state.sessions _ u.number (session_of u) (h.here other u old)
    ];
    kept = λ other u found. elim (stood other u found) [ inl new ↦ subst (IsKept state.history) new.1 kept | inr old ↦ h.kept other u old ];
    once = λ other another u v found too numbers. elim (stood other u found) [
      | inl new ↦ elim (stood another v too) [
        | inl newer ↦ new.0 ∙ sym newer.0
        | inr old ↦ absurd (lower another v old (sym numbers ∙ sym (ap (λ s. s.number) new.1)))
      ]
      | inr old ↦ elim (stood another v too) [
        | inl new ↦ absurd (lower other u old (numbers ∙ sym (ap (λ s. s.number) new.1)))
        | inr older ↦ h.once other another u v old older numbers
      ]
    ];
    there = λ number session found left. elim (got_either state.sessions number (session_of s) session found) [
      | inl last ↦ (key, s, updates.changed, last_number ∙ sym last.0)
      | inr before ↦
          let old = h.there number session before left in
          elim (cases_eq old.0 key) [
            | inl is ↦ absurd (let here = sym (ap (get table.present) is) ∙ old.2 in cc)
            | inr differs ↦ (old.0, old.1, updates.others old.0 differs ∙ old.2, old.3)
          ]
    ];
    count =
        let sums : model.count_here (record state { sessions = state.sessions ++ session_of s ∷ [] }) ≡ model.count_here state + one_if (is_here (session_of s)) =
        sum_by_push (λ s. one_if (is_here s)) state.sessions (session_of s) in
        let one : one_if (is_here (session_of s)) ≡ 1 = ap one_if (kept_here s) in
        let before : slab_len table.present ≡ model.count_here state = h.count in
        let all : slab_len after.present ≡ model.count_here (record state { sessions = state.sessions ++ session_of s ∷ [] }) = omega arith in
        all;
  }

-- the client clocks above a clock after an entry that comes later
further_clocks : (history : History) (entry : Entry) (number sent : ℕ) → sent ≤ length history
    → own_clocks number (above sent (entry ∷ history)) ≡ own_clocks number (above sent history) ++ own_clock number entry.author
further_clocks history entry number sent within =
    elim (nat_lt (length history) sent) as (λ b. nat_lt (length history) sent ≡ b
    → own_clocks number (cond b [] (entry ∷ above sent history)) ≡ own_clocks number (above sent history) ++ own_clock number entry.author) [
      | true ↦ λ less. absurd (let no : length history < sent = grind (arith, nat_tests) in omega arith)
      | false ↦ λ at. refl
    ] refl

-- what is sent up to a clock of a history after a further entry, with its client clock if it is the session's own
sent_further : (history : History) (entry : Entry) (number : ℕ) (clocks more : List ℤ) (phase : Phase) → own_clock number entry.author ≡ more
    → IsSentIn history number clocks phase → IsSentIn (entry ∷ history) number (clocks ++ more) phase
sent_further history entry number clocks more New is h = tt
sent_further history entry number clocks more (Asked request reached plan) is h = tt
sent_further history entry number clocks more (Live sent plan) is h = record {
  natural = h.natural;
  within = let less = h.within in omega arith;
  pushes =
      let all = further_clocks history entry number (nat_abs sent) h.within in
      let same = h.pushes in
      cc;
}
sent_further history entry number clocks more (Ended reason told) is h = tt

-- a session of which an entry isn't is kept as it is
pub kept_further : (history : History) (entry : Entry) (s : Session) → own_clock s.number entry.author ≡ [] → IsKept history s → IsKept (entry ∷ history) s
kept_further history entry s other h = record {
  sent = subst (λ clocks. IsSentIn (entry ∷ history) s.number clocks s.phase) (append-nil s.pushed.items) (sent_further history entry s.number s.pushed.items [] s.phase other h.sent);
  unended = h.unended;
  ended = h.ended;
}

-- the session of which the entry is keeps its client clock too
pub kept_noted : (history : History) (entry : Entry) (s t : Session) (clock : ℤ) → own_clock s.number entry.author ≡ clock ∷ []
    → IsWithPushed (s.pushed.items ++ clock ∷ []) s t → IsKept history s → IsKept (entry ∷ history) t
kept_noted history entry s t clock own with h = subst (IsKept (entry ∷ history)) (sym with.same) (record {
  sent = subst (λ clocks. IsSentIn (entry ∷ history) s.number clocks s.phase) (sym with.clocks) (sent_further history entry s.number s.pushed.items (clock ∷ []) s.phase own h.sent);
  unended = h.unended;
  ended = h.ended;
})

-- the client clock of a push is that of its session
own_here : (number : ℕ) (clock : ℤ) (entry : Entry) → IsByPush number clock entry → own_clock number entry.author ≡ clock ∷ []
own_here number clock entry by =
    ap (own_clock number) by.by
    ∙ ap (λ b. cond b (by.author.client_clock ∷ []) []) ((Decides-eqb by.author.session number).1 by.session)
    ∙ ap (λ c. c ∷ []) by.clock

own_elsewhere : (number other : ℕ) (clock : ℤ) (entry : Entry) → IsByPush number clock entry → (other ≡ number → ⊥) → own_clock other entry.author ≡ []
own_elsewhere number other clock entry by differs =
    ap (own_clock other) by.by
    ∙ elim (by.author.session == other) as (λ b. (by.author.session == other) ≡ b → cond b (by.author.client_clock ∷ []) [] ≡ []) [
      | true ↦ λ is. absurd (differs (sym ((Decides-eqb by.author.session other).0 is) ∙ by.session))
      | false ↦ λ is. refl
    ] refl

-- a list is as it was where what stands at a place is set there
pub set_same : (xs : List model.Session) (n : ℕ) (x : model.Session) → slice_get xs n ≡ Some x → slice_set xs n x ≡ xs
set_same [] n x at = refl
set_same (z ∷ xs) zero x at = let it : z ≡ x = cc in ap (λ y. y ∷ xs) (sym it)
set_same (z ∷ xs) (suc n) x at = ap (λ ys. z ∷ ys) (set_same xs n x at)

-- the table after the entry of a push, whose client clock was noted
pub noted : (state : model.Room) (table : Sessions) (key : ℕ) (s t : Session) (entry : Entry) (clock : ℤ) → Holds state table → get table.present key ≡ Some s
    → IsByPush s.number clock entry → IsWithPushed (s.pushed.items ++ clock ∷ []) s t
    → Holds (record state { history = entry ∷ state.history }) (with_at key t table)
noted state table key s t entry clock h at by with =
    let same : t.number ≡ s.number = ap (λ s. s.number) with.same in
    let session : session_of t ≡ session_of s = ap session_of with.same in
    let all = changed_in state table h key s at t same (entry ∷ state.history)
    (λ other u differs found. kept_further state.history entry u (own_elsewhere s.number u.number clock entry by (apart state table h key s at other u differs found)) (h.kept other u found))
    (kept_noted state.history entry s t clock (own_here s.number clock entry by) with (h.kept key s at)) in
    let sessions : slice_set state.sessions s.number (session_of t) ≡ state.sessions =
    ap (slice_set state.sessions s.number) session ∙ set_same state.sessions s.number (session_of s) (h.here key s at) in
    subst (λ ss. Holds (record state { sessions = ss; history = entry ∷ state.history }) (with_at key t table)) sessions all

-- whoever was in the table still is, if a session is changed, but for its number
pub stays_in : (table after : Sessions) (key : ℕ) (s t : Session) → get table.present key ≡ Some s → t.number ≡ s.number → after ≡ with_at key t table
    → (other : SessionId) → IsIn other table → IsIn other after
stays_in table after key s t at same is other there =
    subst (IsIn other) (sym is) (elim (cases_eq other.key key) [
      | inl this ↦
          let found : there.0 ≡ s = let here = sym (ap (get table.present) this) ∙ there.1 in cc in
          let updates = Updates-with_value table.present key t (ap is_some at) in
          (t, ap (get (with_at key t table).present) this ∙ updates.changed, same ∙ sym (ap (λ s. s.number) found) ∙ there.2)
      | inr differs ↦
          let updates = Updates-with_value table.present key t (ap is_some at) in
          (there.0, updates.others other.key differs ∙ there.1, there.2)
    ])

-- and so is each other, if one leaves
pub others_stay : (table after : Sessions) (key : ℕ) (s : Session) → get table.present key ≡ Some s → Updates table.present after.present key None
    → (other : SessionId) → (other.number ≡ s.number → ⊥) → IsIn other table → IsIn other after
others_stay table after key s at updates other differs there = elim (cases_eq other.key key) [
  | inl this ↦ absurd (let found : there.0 ≡ s = let here = sym (ap (get table.present) this) ∙ there.1 in cc in differs (sym there.2 ∙ ap (λ s. s.number) found))
  | inr apart ↦ (there.0, updates.others other.key apart ∙ there.1, there.2)
]

-- the session under a key with other client clocks, where it was read as another name of the session
pub pushed_there : (table : Sessions) (key : ℕ) (read s t : Session) (clocks : List ℤ) → read ≡ s → t ≡ record read { pushed = t.pushed }
    → t.pushed.items ≡ read.pushed.items ++ clocks → (x : Session) × IsWithPushed (s.pushed.items ++ clocks) s x × (with_at key t table ≡ with_at key x table)
pushed_there table key read s t clocks same form items =
    (t, record { same = form ∙ ap (λ (r : Session). record r { pushed = t.pushed }) same; clocks = items ∙ ap (λ s. s.pushed.items ++ clocks) same }, refl)

pub kept_there : (table : Sessions) (key : ℕ) (read s t : Session) → read ≡ s → t ≡ record read { pushed = t.pushed }
    → t.pushed.items ≡ read.pushed.items → (x : Session) × IsWithPushed s.pushed.items s x × (with_at key t table ≡ with_at key x table)
kept_there table key read s t same form items =
    (t, record { same = form ∙ ap (λ (r : Session). record r { pushed = t.pushed }) same; clocks = items ∙ ap (λ s. s.pushed.items) same }, refl)

-- whoever was in the table still is, if a session enters
pub stays_added : (table after : Sessions) (key : ℕ) (slot : Option Session) → get table.present key ≡ None → Updates table.present after.present key slot
    → (other : SessionId) → IsIn other table → IsIn other after
stays_added table after key slot vacant updates other there = elim (cases_eq other.key key) [
  | inl this ↦ absurd (let none = ap (get table.present) this ∙ vacant in let some = there.1 in cc)
  | inr differs ↦ (there.0, updates.others other.key differs ∙ there.1, there.2)
]

-- a table with other room has the same sessions
pub recapped : (state : model.Room) (table : Sessions) (room : ℕ) → Holds state table → Holds state (record table { present = record table.present { capacity = room } })
recapped state table room h = record { entered = h.entered; here = h.here; kept = h.kept; once = h.once; there = h.there; count = h.count }

-- what holds anyway holds after an error
pub on_err : {A E : Type 0} (r : Result A E) (P : Type 0) → P → OnErr r P
on_err (Ok x) P p = tt
on_err (Err e) P p = p

-- with other client clocks a session has its number, and stands under its key
pub with_number : (clocks : List ℤ) (s t : Session) → IsWithPushed clocks s t → t.number ≡ s.number
with_number clocks s t with = ap (λ s. s.number) with.same

pub there_with : (table left : Sessions) (key : ℕ) (s t : Session) → get table.present key ≡ Some s → left ≡ with_at key t table → get left.present key ≡ Some t
there_with table left key s t at is = ap (λ table. get table.present key) is ∙ (Updates-with_value table.present key t (ap is_some at)).changed
