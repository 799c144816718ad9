-- Who is gone, taken out of reports one after another.
use Rattle.std.proofs.Common.{◌≡◌, ◌≤◌, ◌<◌, ◌+◌, ℕ, List, [], ◌∷◌, ◌++◌, All, length, map, set, get_or, slice_get, suc, zero, Bool, true, false, Option, Some, None, IfSome, if◌then◌else◌, ◌==◌, option_to_list, refl, sym, ap, ◌∙◌, subst, arith, append-nil, append_assoc, length-set}
use Rattle.std.proofs.lemmas.List.{map-append}
use Rattle.std.proofs.lemmas.List.Concat.{flat_map-append}
use Rattle.std.proofs.lemmas.List.Elements.{All-append, All-cons, All-get_or, All-head, All-nil, All-tail, All-weaker}
use Rattle.std.proofs.lemmas.Bool.{eqb-false, eqb-true}
use Rattle.std.proofs.lemmas.Option.{get_or_from_slice_get, slice_get_within, slice_get-get_or}
use Rattle.std.specs.Global.{Vec}
use Rattle.std.specs.List.{AllZip}
use Rattle.room_run.specs.Passes.{room_of_gone}
use Rattle.room_run.specs.Rooms.{id_of}
use Rattle.room_run.specs.declared.passes.Gone.{Gone}
use Rattle.room_run.specs.declared.running.RunningRoom.{RunningRoom}
use Rattle.room_serve.specs.Reports.{IsReport, WasIn}
use Rattle.room_serve.specs.declared.report.Report.{Report}
use Rattle.room_serve.specs.declared.tally.Tally.{Tally}
use Rattle.room_server.proofs.ApartLemmas.{same_number}
use Rattle.room_server.specs.Closing.{reports_of, gone_in, gones_in, has_number, without_gone, AddsGone, AreGathered, AreOf, IsBelow, IsEmptied}

-- the parts of a list that is so
pub all_parts : {X : Type 0} (P : X → Type 0) (xs ys : List X) → All P (xs ++ ys) → All P xs × All P ys
all_parts P [] ys all = (All-nil P, all)
all_parts P (x ∷ xs) ys all =
    let rest = all_parts P xs ys (All-tail P x (xs ++ ys) all) in
    (All-cons P x xs (All-head P x (xs ++ ys) all) rest.0, rest.1)

-- a place that was set, and the others
set_here : {X : Type 0} (xs : List X) (n : ℕ) (a : X) → n < length xs → slice_get (set xs n a) n ≡ Some a
set_here [] n a within = absurd (omega arith)
set_here (x ∷ xs) zero a within = refl
set_here (x ∷ xs) (suc n) a within = let less : n < length xs = omega arith in set_here xs n a less

set_others : {X : Type 0} (xs : List X) (n k : ℕ) (a : X) → (n ≡ k → ⊥) → slice_get (set xs n a) k ≡ slice_get xs k
set_others [] n k a other = refl
set_others (x ∷ xs) zero zero a other = absurd (other refl)
set_others (x ∷ xs) zero (suc k) a other = refl
set_others (x ∷ xs) (suc n) zero a other = refl
set_others (x ∷ xs) (suc n) (suc k) a other = set_others xs n k a (λ same. other (ap suc same))

-- no report adds nobody
pub adds_nobody : (gones : List (Vec Gone)) → AddsGone [] gones gones
adds_nobody gones = record {
  count = refl;
  each = λ number before after at_before at_after.
      subst (λ o. IfSome o (λ v. v.items ≡ before.items ++ [])) (sym at_before ∙ at_after) (sym (append-nil before.items));
}

-- some reports and then others
pub adds_more : (xs ys : List Report) (a b c : List (Vec Gone)) → AddsGone xs a b → AddsGone ys b c → AddsGone (xs ++ ys) a c
adds_more xs ys a b c first second = record {
  count = second.count ∙ first.count;
  each = λ number before after at_before at_after.
      let within : number < length b = subst (λ n. number < n) (sym first.count) (slice_get_within a number before at_before) in
      let middle = get_or b number before in
      let at_middle = slice_get-get_or b number before within in
      second.each number middle after at_middle at_after ∙ ap (λ l. l ++ gones_in number ys) (first.each number before middle at_before at_middle)
      ∙ append_assoc before.items (gones_in number xs) (gones_in number ys)
      ∙ ap (λ l. before.items ++ l) (sym (flat_map-append (gone_in number) xs ys));
}

-- a report whose room's list got who is gone
pub adds_one : (report : Report) (gones : List (Vec Gone)) (room : ℕ) (gone : Gone) (list : Vec Gone) → report.room ≡ Some room → report.gone ≡ Some gone
    → room < length gones → ((d : Vec Gone) → list.items ≡ (get_or gones room d).items ++ gone ∷ []) → AddsGone (report ∷ []) gones (set gones room list)
adds_one report gones room gone list named is within added = record {
  count = length-set gones room list;
  each = λ number before after at_before at_after. at number before after at_before at_after (room == number) refl;
}
  where
    at : (number : ℕ) (before after : Vec Gone) → slice_get gones number ≡ Some before → slice_get (set gones room list) number ≡ Some after
        → (b : Bool) → (room == number) ≡ b → after.items ≡ before.items ++ gones_in number (report ∷ [])
    at number before after at_before at_after b same =
        let those : gone_in number report ≡ (if b then gone ∷ [] else []) =
        ap (λ o. if has_number number o then option_to_list report.gone else []) named ∙ ap (λ o. if room == number then option_to_list o else []) is
        ∙ ap (λ c. if c then gone ∷ [] else []) same in
        by b same ∙ ap (λ l. before.items ++ l) (sym (append-nil (gone_in number report) ∙ those))
      where
        by : (b : Bool) → (room == number) ≡ b → after.items ≡ before.items ++ (if b then gone ∷ [] else [])
        by true same =
            let here : room ≡ number = eqb-true room number same in
            let there : Some after ≡ Some list = sym at_after ∙ subst (λ n. slice_get (set gones room list) n ≡ Some list) here (set_here gones room list within) in
            let old : get_or gones room before ≡ before = subst (λ n. get_or gones n before ≡ before) (sym here) (get_or_from_slice_get gones number before before at_before) in
            subst (λ o. IfSome o (λ v. v.items ≡ before.items ++ gone ∷ [])) (sym there) (added before ∙ ap (λ v. v.items ++ gone ∷ []) old)
        by false same =
            let other : room ≡ number → ⊥ = eqb-false room number same in
            let there : Some before ≡ Some after = sym at_before ∙ sym (set_others gones room number list other) ∙ at_after in
            subst (λ o. IfSome o (λ v. v.items ≡ before.items ++ [])) there (sym (append-nil before.items))

-- a list in which the first elements are changed
abbrev pub changed : {X : Type 0} → (X → X) → ℕ → List X → List X
changed f zero xs = xs
changed f (suc n) [] = []
changed f (suc n) (x ∷ xs) = f x ∷ changed f n xs

pub changed_all : {X : Type 0} (f : X → X) (n : ℕ) (xs : List X) → length xs ≤ n → changed f n xs ≡ map f xs
changed_all f zero [] le = refl
changed_all f zero (x ∷ xs) le = absurd (omega arith)
changed_all f (suc n) [] le = refl
changed_all f (suc n) (x ∷ xs) le = let less : length xs ≤ n = omega arith in ap (λ l. f x ∷ l) (changed_all f n xs less)

pub changed_at : {X : Type 0} (f : X → X) (n : ℕ) (xs : List X) (d : X) → n < length xs → get_or (changed f n xs) n d ≡ get_or xs n d
changed_at f zero xs d within = refl
changed_at f (suc n) [] d within = absurd (omega arith)
changed_at f (suc n) (x ∷ xs) d within = let less : n < length xs = omega arith in changed_at f n xs d less

changed_more : {X : Type 0} (f : X → X) (n : ℕ) (xs : List X) (d : X) → n < length xs → set (changed f n xs) n (f (get_or xs n d)) ≡ changed f (suc n) xs
changed_more f n [] d within = absurd (omega arith)
changed_more f zero (x ∷ xs) d within = refl
changed_more f (suc n) (x ∷ xs) d within = let less : n < length xs = omega arith in ap (λ l. f x ∷ l) (changed_more f n xs d less)

pub changed_next : {X : Type 0} (f : X → X) (n : ℕ) (xs : List X) (d : X) → n < length xs → set (changed f n xs) n (f (get_or xs n d)) ≡ changed f (n + 1) xs
changed_next f n xs d within = let next : suc n ≡ n + 1 = omega arith in changed_more f n xs d within ∙ ap (λ k. changed f k xs) next

-- the reports of some tallies and others
pub reports-append : (xs ys : List Tally) → reports_of (xs ++ ys) ≡ reports_of xs ++ reports_of ys
reports-append xs ys = flat_map-append (λ tally. tally.reports.items) xs ys

-- what holds of all reports holds of those of a tally
pub part_of : (P : Report → Type 0) (xs ys : List Tally) (x : Tally) → All P (reports_of (xs ++ x ∷ ys)) → All P x.reports.items
part_of P xs ys x all =
    let behind = all_parts P (reports_of xs) (reports_of (x ∷ ys)) (subst (All P) (reports-append xs (x ∷ ys)) all) in
    (all_parts P x.reports.items (reports_of ys) behind.1).0

-- one tally more
pub adds_tally : (xs : List Tally) (x : Tally) (a b c : List (Vec Gone)) → AddsGone (reports_of xs) a b → AddsGone x.reports.items b c → AddsGone (reports_of (xs ++ x ∷ [])) a c
adds_tally xs x a b c first second =
    subst (λ l. AddsGone l a c) (sym (reports-append xs (x ∷ []) ∙ ap (λ l. reports_of xs ++ l) (append-nil x.reports.items)))
    (adds_more (reports_of xs) x.reports.items a b c first second)

-- the reports of tallies, once who is gone is taken out
pub emptied_reports : (xs ys : List Tally) → AllZip IsEmptied xs ys → reports_of ys ≡ map without_gone (reports_of xs)
emptied_reports [] [] all = refl
emptied_reports [] (y ∷ ys) all = absurd all
emptied_reports (x ∷ xs) [] all = absurd all
emptied_reports (x ∷ xs) (y ∷ ys) all =
    ap (λ l. l ++ reports_of ys) all.0.reports ∙ ap (λ l. map without_gone x.reports.items ++ l) (emptied_reports xs ys all.1)
    ∙ sym (map-append without_gone x.reports.items (reports_of xs))

-- who is gone was in a room that there is
pub below : (rooms : List RunningRoom) (report : Report) → IsReport rooms report → IsBelow (length rooms) report
below rooms report is = go report.gone is.own
  where
    go : (gone : Option Gone) → IfSome gone (WasIn rooms report.room)
        → IfSome gone (λ one. (number : ℕ) × (report.room ≡ Some number) × (number < length rooms))
    go None own = tt
    go (Some one) own = (own.number, own.named, slice_get_within rooms own.number own.running own.there)

pub all_below : (rooms : List RunningRoom) (reports : List Report) → All (IsReport rooms) reports → All (IsBelow (length rooms)) reports
all_below rooms reports all = All-weaker (IsReport rooms) (IsBelow (length rooms)) (below rooms) reports all

-- what holds where a list is taken
pub all_if : {X : Type 0} (P : X → Type 0) (b : Bool) (xs : List X) → (b ≡ true → All P xs) → All P (if b then xs else [])
all_if P true xs is = is refl
all_if P false xs is = All-nil P

-- those that are gone of a room by a report were in it
own_gone : (rooms : List RunningRoom) (room : RunningRoom) (number : ℕ) (report : Report) → slice_get rooms number ≡ Some room → IsReport rooms report
    → All (λ gone. room_of_gone gone ≡ id_of room) (gone_in number report)
own_gone rooms room number report there is = go report.room report.gone is.own
  where
    P : Gone → Type 0
    P gone = room_of_gone gone ≡ id_of room

    go : (named : Option ℕ) (gone : Option Gone) → IfSome gone (WasIn rooms named) → All P (if has_number number named then option_to_list gone else [])
    go None gone own = All-nil P
    go (Some k) None own = all_if P (k == number) [] (λ same. All-nil P)
    go (Some k) (Some one) own = all_if P (k == number) (one ∷ []) (λ same.
        let place : own.number ≡ number = sym (same_number k own.number own.named) ∙ eqb-true k number same in
        let found : slice_get rooms number ≡ Some own.running = subst (λ n. slice_get rooms n ≡ Some own.running) place own.there in
        All-cons P one [] (subst (λ o. IfSome o (λ r. room_of_gone one ≡ id_of r)) (sym found ∙ there) own.own) (All-nil P))

own_gones : (rooms : List RunningRoom) (room : RunningRoom) (number : ℕ) (reports : List Report) → slice_get rooms number ≡ Some room
    → All (IsReport rooms) reports → All (λ gone. room_of_gone gone ≡ id_of room) (gones_in number reports)
own_gones rooms room number [] there all = All-nil _
own_gones rooms room number (report ∷ reports) there all =
    All-append (λ gone. room_of_gone gone ≡ id_of room) (gone_in number report) (gones_in number reports)
    (own_gone rooms room number report there (All-head (IsReport rooms) report reports all))
    (own_gones rooms room number reports there (All-tail (IsReport rooms) report reports all))

-- so who was gathered of a room may be handed in there
pub all_own : (rooms : List RunningRoom) (gones : List (Vec Gone)) → length gones ≡ length rooms
    → ((number : ℕ) (room : RunningRoom) (those : Vec Gone) → slice_get rooms number ≡ Some room → slice_get gones number ≡ Some those → AreOf room those)
    → AllZip AreOf rooms gones
all_own [] [] long each = tt
all_own [] (g ∷ gs) long each = absurd (omega arith)
all_own (r ∷ rs) [] long each = absurd (omega arith)
all_own (r ∷ rs) (g ∷ gs) long each =
    let less : length gs ≡ length rs = omega arith in
    (each 0 r g refl refl, all_own rs gs less (λ number room those at also. each (suc number) room those at also))

pub gathered_own : (rooms : List RunningRoom) (reports : List Report) (gones : List (Vec Gone)) → length gones ≡ length rooms
    → All (IsReport rooms) reports → AreGathered reports gones → AllZip AreOf rooms gones
gathered_own rooms reports gones long all gathered =
    all_own rooms gones long (λ number room those at also.
    subst (All (λ gone. room_of_gone gone ≡ id_of room)) (sym (gathered number those also)) (own_gones rooms room number reports at all))

-- where nobody was there before, all are that were added
pub gathered_of : (reports : List Report) (old new : List (Vec Gone)) → All (λ those. those.items ≡ []) old → AddsGone reports old new → AreGathered reports new
gathered_of reports old new none adds = λ number those at.
    let within : number < length old = subst (λ n. number < n) adds.count (slice_get_within new number those at) in
    let before = get_or old number those in
    let empty : before.items ≡ [] = All-get_or (λ x. x.items ≡ []) old number those within none in
    adds.each number before those (slice_get-get_or old number those within) at ∙ ap (λ l. l ++ gones_in number reports) empty
