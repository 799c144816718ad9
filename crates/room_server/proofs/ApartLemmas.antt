-- That no two reports are of one session of a room.
use Rattle.std.proofs.Common.{◌≡◌, ◌≤◌, ◌+◌, ◌&&◌, ℕ, List, [], ◌∷◌, ◌++◌, All, cond, count_by, map, slice_get, suc, Bool, true, false, Option, Some, None, IfSome, MatchOption, if◌then◌else◌, ◌==◌, option_to_list, refl, sym, ap, ◌∙◌, subst, arith}
use Rattle.std.proofs.lemmas.Bool.{eqb-true}
use Rattle.std.specs.Prelude.{⊤}
use Rattle.std.proofs.lemmas.List.Elements.{All-head, All-tail}
use Rattle.std.proofs.lemmas.List.Sums.{sum_by-append, sum_by-cons}
use Rattle.room_run.specs.declared.passes.Gone.{Gone}
use Rattle.room_run.specs.declared.running.RunningRoom.{RunningRoom}
use Rattle.room_serve.specs.Reports.{IsReport, WasIn, session_of}
use Rattle.room_serve.specs.declared.report.Report.{Report}
use Rattle.room_server.specs.Closing.{gone_in, gones_in, has_number, without_gone}
use Rattle.room_server.specs.Hosted.{is_of}
use Rattle.rooms_val.proofs.Truths.{not_so}

-- who is gone had the session
abbrev pub is_session : ℕ → Gone → Bool
is_session session gone = has_number session gone.session

-- an option that has a number is that number
pub number_is : (n : ℕ) (o : Option ℕ) → has_number n o ≡ true → o ≡ Some n
number_is n None is = absurd (cc)
number_is n (Some other) is = ap Some (eqb-true other n is)

-- how many there are by one and the others
counts : {X : Type 0} (p : X → Bool) (x : X) (xs : List X) → count_by p (x ∷ xs) ≡ cond (p x) 1 0 + count_by p xs
counts p x xs = sum_by-cons (λ y. cond (p y) 1 0) x xs

-- none, where none is so
none_so : {X : Type 0} (p : X → Bool) (xs : List X) → ((place : ℕ) (x : X) → slice_get xs place ≡ Some x → p x ≡ false) → count_by p xs ≡ 0
none_so p [] none = refl
none_so p (x ∷ xs) none =
    let all = counts p x xs in
    let head : ◌≡◌ {A = ℕ} (cond (p x) 1 0) 0 = ap (λ b. cond b 1 0) (none 0 x refl) in
    let rest = none_so p xs (λ place y at. none (suc place) y at) in
    omega (arith, all, head, rest)

-- one more, where then there is no other
one_more : {X : Type 0} (p : X → Bool) (x : X) (xs : List X) → count_by p xs ≤ 1 → (p x ≡ true → count_by p xs ≡ 0) → count_by p (x ∷ xs) ≤ 1
one_more p x xs less none = go (p x) refl
  where
    go : (b : Bool) → p x ≡ b → count_by p (x ∷ xs) ≤ 1
    go false is =
        let all = counts p x xs in
        let head : ◌≡◌ {A = ℕ} (cond (p x) 1 0) 0 = ap (λ b. cond b 1 0) is in
        omega (arith, all, head, less)
    go true is =
        let all = counts p x xs in
        let head : ◌≡◌ {A = ℕ} (cond (p x) 1 0) 1 = ap (λ b. cond b 1 0) is in
        let rest = none is in
        omega (arith, all, head, rest)

-- at most one, where two that are so are at one place
pub one_at_most : {X : Type 0} (p : X → Bool) (xs : List X)
    → ((place other : ℕ) (x y : X) → slice_get xs place ≡ Some x → slice_get xs other ≡ Some y → p x ≡ true → p y ≡ true → place ≡ other)
    → count_by p xs ≤ 1
one_at_most p [] apart = omega arith
one_at_most p (x ∷ xs) apart =
    one_more p x xs (one_at_most p xs (λ place other y z at also so too. let same = apart (suc place) (suc other) y z at also so too in omega arith))
    (λ is. none_so p xs (λ place y at. not_so (p y) (λ so. let same = apart 0 (suc place) x y refl at is so in omega arith)))

-- a report is of a session of a room as often as who is gone of the room had it
one_counts : (rooms : List RunningRoom) (room session : ℕ) (report : Report) → IsReport rooms report
    → cond (is_of room session report) 1 0 ≡ count_by (is_session session) (gone_in room report)
one_counts rooms room session report is = by (has_number room report.room) report.gone report.session is.session
  where
    by : (b : Bool) (gone : Option Gone) (had : Option ℕ) → had ≡ session_of gone
        → cond (b && has_number session had) 1 0 ≡ count_by (is_session session) (if b then option_to_list gone else [])
    by false gone had same = refl
    by true None had same = ap (λ h. cond (has_number session h) 1 0) same
    by true (Some one) had same =
        let head : ◌≡◌ {A = ℕ} (cond (has_number session had) 1 0) (cond (has_number session one.session) 1 0) = ap (λ h. cond (has_number session h) 1 0) same in
        let all = counts (is_session session) one [] in
        omega (arith, head, all)

pub all_counts : (rooms : List RunningRoom) (room session : ℕ) (reports : List Report) → All (IsReport rooms) reports
    → count_by (is_of room session) (map without_gone reports) ≡ count_by (is_session session) (gones_in room reports)
all_counts rooms room session [] all = refl
all_counts rooms room session (report ∷ reports) all =
    counts (is_of room session) (without_gone report) (map without_gone reports)
    ∙ ap (λ n. n + count_by (is_of room session) (map without_gone reports)) (one_counts rooms room session report (All-head (IsReport rooms) report reports all))
    ∙ ap (λ n. count_by (is_session session) (gone_in room report) + n) (all_counts rooms room session reports (All-tail (IsReport rooms) report reports all))
    ∙ sym (sum_by-append (λ gone. cond (is_session session gone) 1 0) (gone_in room report) (gones_in room reports))

-- a list that is taken only where it is empty
if_nil : (b : Bool) (xs : List Gone) → (b ≡ true → xs ≡ []) → (if b then xs else []) ≡ []
if_nil true xs is = is refl
if_nil false xs is = refl

-- a number in an option
pub same_number : (a b : ℕ) → Some a ≡ Some b → a ≡ b
same_number a b is = cc

-- nobody is gone of a room that there isn't
none_in : (rooms : List RunningRoom) (room : ℕ) (report : Report) → slice_get rooms room ≡ None → IsReport rooms report → gone_in room report ≡ []
none_in rooms room report none is = go report.room report.gone is.own
  where
    go : (named : Option ℕ) (gone : Option Gone) → IfSome gone (WasIn rooms named) → (if has_number room named then option_to_list gone else []) ≡ []
    go None gone own = refl
    go (Some k) None own = if_nil (k == room) [] (λ _. refl)
    go (Some k) (Some one) own = if_nil (k == room) (one ∷ []) (λ same.
        let place : own.number ≡ room = sym (same_number k own.number own.named) ∙ eqb-true k room same in
        let found : slice_get rooms room ≡ Some own.running = subst (λ n. slice_get rooms n ≡ Some own.running) place own.there in
        absurd (subst (λ o. MatchOption o ⊤ (λ _. ⊥)) (sym none ∙ found) tt))

pub none_of_past : (rooms : List RunningRoom) (room : ℕ) (reports : List Report) → slice_get rooms room ≡ None → All (IsReport rooms) reports → gones_in room reports ≡ []
none_of_past rooms room [] none all = refl
none_of_past rooms room (report ∷ reports) none all =
    ap (λ l. l ++ gones_in room reports) (none_in rooms room report none (All-head (IsReport rooms) report reports all))
    ∙ none_of_past rooms room reports none (All-tail (IsReport rooms) report reports all)
