-- What the links of workers came to, one link and one worker after another.
use Rattle.std.proofs.Common.{◌≡◌, ℕ, List, [], ◌∷◌, ◌++◌, length, map, slice_get, suc, Option, Some, Ok, IfOk, refl, sym, ap, ◌∙◌, subst, arith, append-nil, append_assoc}
use Rattle.std.proofs.lemmas.List.{map-append}
use Rattle.std.proofs.lemmas.List.Elements.{All-cons, All-nil, All-push}
use Rattle.link_texts.proofs.SendingLemmas.{tells_then}
use Rattle.room_link.specs.Exchange.{Exchange, Tells}
use Rattle.room_link.specs.Worker.{Worker, Accepts, GivesBack}
use Rattle.room_run.specs.declared.running.RunningRoom.{RunningRoom}
use Rattle.room_serve.proofs.CourseLemmas.{tells_same}
use Rattle.room_serve.specs.Reports.{ServesIn, IsReport}
use Rattle.room_serve.specs.Stations.{tally_of, worker_of, IsWorked}
use Rattle.room_serve.specs.Tallies.{Service, service, Shift, shift_of, Works, IsServedLink, IsServing, IsShift, AreTallied}
use Rattle.room_serve.specs.declared.report.Report.{Report}
use Rattle.room_serve.specs.declared.tally.Tally.{Tally}
use Rattle.room_serve.specs.declared.workers.Station.{Station}

-- a worker that did nothing took no link
works_not : {K : Type 0} (x : Worker K) → Works [] x x
works_not x = record { taken = refl; given = sym (append-nil x.returned) }

-- one link more is taken, served and given back
works_more : {K : Type 0} (services : List (Service K)) (one : Service K) (a b c d : Worker K) → Works services a b
    → Accepts (Ok (Some one.out)) b c → GivesBack one.back c d → Works (services ++ one ∷ []) a d
works_more services one a b c d works took gave = record {
  taken = works.taken ∙ ap (λ l. map (λ s. s.out) services ++ l) (ap (λ w. w.left) took ∙ ap (λ w. one.out ∷ w.left) (sym gave))
      ∙ sym (append_assoc (map (λ s. s.out) services) (one.out ∷ []) d.left)
      ∙ ap (λ l. l ++ d.left) (sym (map-append (λ s. s.out) services (one ∷ [])));
  given = ap (λ w. w.returned) gave ∙ ap (λ l. l ++ one.back ∷ []) (sym (ap (λ w. w.returned) took) ∙ works.given)
      ∙ append_assoc a.returned (map (λ s. s.back) services) (one.back ∷ [])
      ∙ ap (λ l. a.returned ++ l) (sym (map-append (λ s. s.back) services (one ∷ [])));
}

module _ {K A : Type 0} (link_faults : K → ℕ) (link_told : K → Option Exchange)
    (Serves : Report → Exchange → Exchange → Type 0) (Is : Report → Type 0) (worker_faults : A → ℕ) (worker_told : A → Option (Worker K)) where
  -- a worker that begins has served no link
  pub serving_not : (worker : A) → IsServing link_faults link_told Serves Is worker_faults worker_told worker worker []
  serving_not worker = record {
    services = [];
    reported = refl;
    each = All-nil _;
    told = tells_same (Works []) (worker_told worker) works_not;
  }

  -- it serves one link more
  pub serving_more : (a b c d : A) (reports : List Report) (out back : K) (report : Report)
      → IsServing link_faults link_told Serves Is worker_faults worker_told a b reports
      → Tells (Accepts (Ok (Some out))) (worker_told b) (worker_told c) → Tells (GivesBack back) (worker_told c) (worker_told d)
      → IsServedLink link_faults link_told Serves Is (service out back report)
      → IsServing link_faults link_told Serves Is worker_faults worker_told a d (reports ++ report ∷ [])
  serving_more a b c d reports out back report s took gave served =
      let one : Service K = service out back report in record {
        services = s.services ++ one ∷ [];
        reported = ap (λ l. l ++ report ∷ []) s.reported ∙ sym (map-append (λ x. x.report) s.services (one ∷ []));
        each = All-push (IsServedLink link_faults link_told Serves Is) s.services one s.each served;
        told = tells_then {A = λ x z. Works s.services x z} {B = λ x z. (y : Worker K) × Accepts (Ok (Some out)) x y × GivesBack back y z} {C = Works (s.services ++ one ∷ [])}
            (worker_told a) (worker_told b) (worker_told d) s.told
            (tells_then (worker_told b) (worker_told c) (worker_told d) took gave (λ x y z p q. (y, p, q)))
            (λ x y z p q. works_more s.services one x y q.0 z p q.1 q.2);
      }

  -- a worker that gave no link has served those before
  pub serving_still : (a b c : A) (reports : List Report) → IsServing link_faults link_told Serves Is worker_faults worker_told a b reports
      → Tells (λ x y. y ≡ x) (worker_told b) (worker_told c) → IsServing link_faults link_told Serves Is worker_faults worker_told a c reports
  serving_still a b c reports s same = record {
    services = s.services;
    reported = s.reported;
    each = s.each;
    told = tells_then (worker_told a) (worker_told b) (worker_told c) s.told same (λ x y z p q. subst (Works s.services x) (sym q) p);
  }

-- workers at stations that have served have their tallies
module _ {K A : Type 0} (link_faults : K → ℕ) (link_told : K → Option Exchange)
    (worker_faults : A → ℕ) (worker_told : A → Option (Worker K)) (rooms : List RunningRoom) where
  pub tallied : (before after : List (Station A)) (tallies : List Tally) → length after ≡ length before
      → ((place : ℕ) (x y : Station A) → slice_get before place ≡ Some x → slice_get after place ≡ Some y
      → IsWorked link_faults link_told worker_faults worker_told rooms x y)
      → map Ok tallies ≡ map tally_of after
      → AreTallied link_faults link_told (ServesIn rooms) (IsReport rooms) worker_faults worker_told (map worker_of before) (map worker_of after) tallies
  tallied [] [] [] long each same = record { shifts = []; old = refl; new = refl; tallied = refl; each = All-nil _ }
  tallied [] [] (t ∷ ts) long each same = absurd (cc)
  tallied [] (y ∷ ys) tallies long each same = absurd (cc)
  tallied (x ∷ xs) [] tallies long each same = absurd (cc)
  tallied (x ∷ xs) (y ∷ ys) [] long each same = absurd (cc)
  tallied (x ∷ xs) (y ∷ ys) (t ∷ ts) long each same =
      let head : tally_of y ≡ Ok t = cc in
      let rest : map Ok ts ≡ map tally_of ys = cc in
      let shorter : length ys ≡ length xs = omega arith in
      let more = tallied xs ys ts shorter (λ place u v at_u at_v. each (suc place) u v at_u at_v) rest in
      let one : Shift A = shift_of x.worker y.worker t in record {
        shifts = one ∷ more.shifts;
        old = ap (λ l. x.worker ∷ l) more.old;
        new = ap (λ l. y.worker ∷ l) more.new;
        tallied = ap (λ l. t ∷ l) more.tallied;
        each = All-cons (IsShift link_faults link_told (ServesIn rooms) (IsReport rooms) worker_faults worker_told) one more.shifts
            (subst (λ r. IfOk r (λ tally. IsShift link_faults link_told (ServesIn rooms) (IsReport rooms) worker_faults worker_told (shift_of x.worker y.worker tally)))
            head (each 0 x y refl refl))
            more.each;
      }
