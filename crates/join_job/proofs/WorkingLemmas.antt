-- What a worker's link leaves of the worker.
use Rattle.std.proofs.Common.{◌≡◌, ◌<◌, ℕ, List, [], ◌∷◌, ◌++◌, set, get_or, length, subst, Option, None, Some, Ok, refl, sym, ap, ◌∙◌, inl, inr, arith}
use Rattle.link_texts.proofs.SendingLemmas.{tells_then, tells_more}
use Rattle.room_link.specs.Exchange.{Exchange, Tells}
use Rattle.room_link.specs.Held.{Extends}
use Rattle.room_link.specs.Worker.{Worker, Accepts, GivesBack}
use Rattle.room_model.specs.Schemas.{WorldSchemas}
use Rattle.side_effects.specs.declared.fault.EditFault.{EditFault}
use Rattle.std.specs.Prelude.{◌≢◌, IfSome}
use Rattle.peer_schemas.specs.Clients.{AreOfTables}
use Rattle.join_job.specs.Working.{PlaysOverNone, PlaysOverLink, PlaysOverNext, PlaysOverFirst, PlaysOverWorkers, FirstFails, IsJoinStatus, job_status}
use Rattle.join_job.specs.declared.ending.JoinEnd.{JoinEnd}
use Rattle.join_job.specs.declared.ending.JoinEnd.TheVariants as join

module _ {K : Type 0} (link_faults : K → ℕ) (link_told : K → Option Exchange) (schemas : WorldSchemas EditFault) (room : ℕ) (script held holds : Option (List ℕ)) (by : JoinEnd) where
  abbrev Next : Worker K → Worker K → Type 0
  Next = PlaysOverNext schemas room script held holds by link_faults link_told

  -- a link was handed out and came back, on which a script was played
  pub played_over_link : (link now : K) (o m n : Option (Worker K)) → Tells (Accepts (Ok (Some link))) o m → Tells (GivesBack now) m n
      → PlaysOverLink schemas room script held holds by link_faults link_told link now → Tells Next o n
  played_over_link link now o m n taken back plays =
      tells_then {A = Accepts (Ok (Some link))} {B = GivesBack now} {C = Next} o m n taken back (λ x y z t b.
      inl (link, now, ap (λ w. w.left) t ∙ ap (λ l. link ∷ l) (sym (ap (λ w. w.left) b)), ap (λ w. w.returned) b ∙ ap (λ r. r ++ now ∷ []) (sym (ap (λ w. w.returned) t)), plays))

  -- no link was left, and a script was played over one that has ended
  pub played_over_none : (o n : Option (Worker K)) → Tells (Accepts (Ok None)) o n → PlaysOverNone schemas room script held holds by → Tells Next o n
  played_over_none o n taken plays = tells_more {A = Accepts (Ok None)} {B = Next} o n taken (λ x y t. inr (inl (t.0, t.1, plays)))

  -- memory was refused, and nothing was written
  pub nothing_played_over : (o n : Option (Worker K)) → Tells (λ old new. new ≡ old) o n → by ≡ join.Memory → Extends held holds [] → Tells Next o n
  nothing_played_over o n same out held_still = tells_more {A = λ old new. new ≡ old} {B = Next} o n same (λ x y t. inr (inr (out, t, held_still)))

-- a list of a length that isn't 0 isn't empty
pub is_some : {A : Type 0} (items : List A) → (length items ≡ 0 → ⊥) → items ≡ [] → ⊥
is_some items full none = full (ap length none)

-- the status tells how the script ended, or that the worker failed
pub is_known : (r : Option JoinEnd) → IsJoinStatus (job_status r)
is_known None = inl refl
is_known (Some by) = inr (by, refl)

pub is_failed : (r : Option JoinEnd) → job_status r ≡ 7 → r ≡ None
is_failed None is = refl
is_failed (Some join.Done) is = absurd (omega (arith, is))
is_failed (Some join.Refused) is = absurd (omega (arith, is))
is_failed (Some join.Read) is = absurd (omega (arith, is))
is_failed (Some join.Write) is = absurd (omega (arith, is))
is_failed (Some join.Memory) is = absurd (omega (arith, is))
is_failed (Some join.Link) is = absurd (omega (arith, is))
is_failed (Some join.Server) is = absurd (omega (arith, is))

pub is_unread : (r : Option JoinEnd) → job_status r ≡ 4 → r ≡ Some join.Read
is_unread (Some join.Read) is = refl
is_unread None is = absurd (omega (arith, is))
is_unread (Some join.Done) is = absurd (omega (arith, is))
is_unread (Some join.Refused) is = absurd (omega (arith, is))
is_unread (Some join.Write) is = absurd (omega (arith, is))
is_unread (Some join.Memory) is = absurd (omega (arith, is))
is_unread (Some join.Link) is = absurd (omega (arith, is))
is_unread (Some join.Server) is = absurd (omega (arith, is))

pub is_unwritten : (r : Option JoinEnd) → job_status r ≡ 5 → r ≡ Some join.Write
is_unwritten (Some join.Write) is = refl
is_unwritten None is = absurd (omega (arith, is))
is_unwritten (Some join.Done) is = absurd (omega (arith, is))
is_unwritten (Some join.Refused) is = absurd (omega (arith, is))
is_unwritten (Some join.Read) is = absurd (omega (arith, is))
is_unwritten (Some join.Memory) is = absurd (omega (arith, is))
is_unwritten (Some join.Link) is = absurd (omega (arith, is))
is_unwritten (Some join.Server) is = absurd (omega (arith, is))

module _ {K A : Type 0} (link_faults : K → ℕ) (link_told : K → Option Exchange) (told : A → Option (Worker K)) (room : ℕ) (script held holds : Option (List ℕ)) where
  module _ (by : JoinEnd) (schemas : WorldSchemas EditFault) where
    abbrev First : List A → List A → Type 0
    First = PlaysOverFirst schemas room script held holds by link_faults link_told told

    -- there is no worker
    pub played_without : (items : List A) → items ≡ [] → PlaysOverNone schemas room script held holds by → First items items
    played_without [] none plays = (refl, plays)
    played_without (x ∷ xs) none plays = absurd (cc)

    -- the first of some workers is played over
    pub played_over_first : (items : List A) (first now : A) → (items ≡ [] → ⊥) → first ≡ get_or items 0 first
        → Tells (PlaysOverNext schemas room script held holds by link_faults link_told) (told first) (told now) → First items (set items 0 now)
    played_over_first [] first now some is plays = absurd (some refl)
    played_over_first (x ∷ xs) first now some is plays = (refl, subst (λ y. Tells (PlaysOverNext schemas room script held holds by link_faults link_told) (told y) (told now)) is plays)

  -- the same, where it didn't fail
  pub played_over_some : (r : Option JoinEnd) (items : List A) (first now : A) → (items ≡ [] → ⊥) → first ≡ get_or items 0 first
      → IfSome r (λ by. (schemas : WorldSchemas EditFault) → AreOfTables schemas → Tells (PlaysOverNext schemas room script held holds by link_faults link_told) (told first) (told now))
      → IfSome r (λ by. (schemas : WorldSchemas EditFault) → AreOfTables schemas → PlaysOverFirst schemas room script held holds by link_faults link_told told items (set items 0 now))
  played_over_some None items first now some is plays = tt
  played_over_some (Some by) items first now some is plays = λ schemas tables. played_over_first by schemas items first now some is (plays schemas tables)

  -- the first of some workers failed
  pub failed_first : (faults : A → ℕ) (items : List A) (first now : A) → (items ≡ [] → ⊥) → first ≡ get_or items 0 first
      → faults first < faults now → Tells (λ old new. new ≡ old) (told first) (told now) → FirstFails faults told items (set items 0 now)
  failed_first faults [] first now some is rose same = absurd (some refl)
  failed_first faults (x ∷ xs) first now some is rose same =
      (subst (λ y. faults y < faults now) is rose, refl, subst (λ y. Tells (λ old new. new ≡ old) (told y) (told now)) is same)

  -- a job whose worker didn't fail
  pub played_over_workers : (r : Option JoinEnd) (before after : List A)
      → IfSome r (λ by. (schemas : WorldSchemas EditFault) → AreOfTables schemas → PlaysOverFirst schemas room script held holds by link_faults link_told told before after)
      → job_status r ≢ 7 → PlaysOverWorkers link_faults link_told told room script held holds (job_status r) before after
  played_over_workers None before after plays other = absurd (other refl)
  played_over_workers (Some by) before after plays other = λ schemas tables. (by, refl, plays schemas tables)
