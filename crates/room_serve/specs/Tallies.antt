-- What the links of workers came to.
use Rattle.std.specs.Prelude.{◌≡◌, ℕ, List, [], ◌++◌, All, map, false, Option}
use Rattle.room_link.specs.Exchange.{Exchange, Tells}
use Rattle.room_link.specs.Worker.{Worker}
use Rattle.room_serve.specs.Accounts.{IsBlamed}
use Rattle.room_serve.specs.declared.report.Report.{Report}
use Rattle.room_serve.specs.declared.tally.Tally.{Tally}

-- a link as it was handed out and as it was given back, and what is reported of it
pub record Service (K : Type 0) : Type 0 where
  pub out : K
  pub back : K
  pub report : Report

-- a worker before it served its links and afterwards, and what its links came to
pub record Shift (A : Type 0) : Type 0 where
  pub before : A
  pub after : A
  pub tally : Tally

abbrev pub service : {K : Type 0} → K → K → Report → Service K
service out back report = record { out = out; back = back; report = report }

abbrev pub shift_of : {A : Type 0} → A → A → Tally → Shift A
shift_of before after tally = record { before = before; after = after; tally = tally }

-- a worker took these links from the front of those that were left, and gave each back, in order
pub record Works {K : Type 0} (services : List (Service K)) (old new : Worker K) : Type 0 where
  pub taken : old.left ≡ map (λ one. one.out) services ++ new.left
  pub given : new.returned ≡ old.returned ++ map (λ one. one.back) services

-- no link is left
abbrev pub IsDone : {K : Type 0} → Worker K → Worker K → Type 0
IsDone old new = new.left ≡ []

-- what a report says of a link that tells, and what it says of each; and how links say what faults they had and what they exchanged
module _ {K : Type 0} (link_faults : K → ℕ) (link_told : K → Option Exchange)
    (Serves : Report → Exchange → Exchange → Type 0) (Is : Report → Type 0) where
  -- a link was served as it is reported
  pub record IsServedLink (one : Service K) : Type 0 where
    pub served : Tells (Serves one.report) (link_told one.out) (link_told one.back)
    pub blamed : IsBlamed false one.report.fault (link_faults one.out) (link_faults one.back)
    pub is : Is one.report

  -- and how workers do
  module _ {A : Type 0} (worker_faults : A → ℕ) (worker_told : A → Option (Worker K)) where
    -- a worker served links one after another, each as it is reported
    pub record IsServing (before after : A) (reports : List Report) : Type 0 where
      pub services : List (Service K)
      pub reported : reports ≡ map (λ one. one.report) services
      pub each : All IsServedLink services
      pub told : Tells (Works services) (worker_told before) (worker_told after)

    -- it did so until it failed or no link was left
    pub record IsShift (shift : Shift A) : Type 0 where
      pub serving : IsServing shift.before shift.after shift.tally.reports.items
      pub blamed : IsBlamed false shift.tally.failed (worker_faults shift.before) (worker_faults shift.after)
      pub whole : shift.tally.failed ≡ false → Tells IsDone (worker_told shift.before) (worker_told shift.after)

    -- each of some workers did, and has its tally, in order
    pub record AreTallied (before after : List A) (tallies : List Tally) : Type 0 where
      pub shifts : List (Shift A)
      pub old : before ≡ map (λ shift. shift.before) shifts
      pub new : after ≡ map (λ shift. shift.after) shifts
      pub tallied : tallies ≡ map (λ shift. shift.tally) shifts
      pub each : All IsShift shifts
