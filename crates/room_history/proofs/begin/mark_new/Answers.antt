use Rattle.std.proofs.Common.{◌≡◌, List, true, false, [], ◌∷◌, ◌++◌, sym, ap, subst, ◌∙◌, w64, to_z, of_z}
use Rattle.std.proofs.lemmas.Int.{to_z-of_z}
use Rattle.change_list.specs.declared.entries.Change.{Change}
use Rattle.change_list.specs.Changes.{listed, AreUpTo, IsListed, without_id}
use Rattle.room_history.specs.Begins.{mark_new}
use Rattle.room_history.specs.Marks.{Lists}
use Rattle.room_history.proofs.NewMarkLemmas.{last_listed, last_gone, latest_new}
use Rattle.room_history.proofs.begin.mark_new.Goals as goal

pub bury-requires-clause-live : goal.bury-requires-clause-live
bury-requires-clause-live c =
    let change : Change = record { id = c.in_ok-copy.field-0; clock = to_z w64 (of_z w64 c.args.clock); live = true } in
    let same : c.in_ok-copy.field-0 ≡ c.as_str.result.now = c.in_ok-copy.ensures ∙ sym c.as_str.ensures.bytes in
    subst (IsListed c.touch.new.self.live) same
    (subst (λ (cs : List Change). IsListed cs c.in_ok-copy.field-0) (sym c.in_ok-touch.ensures.live) (last_listed (without_id c.in_ok-copy.field-0 c.args.changes.now.live) change))

pub bury-requires-clause-latest : goal.bury-requires-clause-latest
bury-requires-clause-latest c =
    let clock = to_z w64 (of_z w64 c.args.clock) in
    let id = c.in_ok-copy.field-0 in
    let fits : clock ≡ c.args.clock = to_z-of_z w64 c.args.clock c.ranges.clock in
    let old : Lists = (c.args.changes.now.live, c.args.changes.now.dead) in
    let marked : (c.touch.new.self.live, c.touch.new.self.dead) ≡ mark_new clock id true old = (λ i. (c.in_ok-touch.ensures.live i, c.in_ok-touch.ensures.dead i)) in
    subst (λ (ls : Lists). AreUpTo clock (ls.0 ++ ls.1)) (sym marked) (latest_new clock id true old (subst (λ z. AreUpTo z (listed c.args.changes.now)) (sym fits) c.requires))

pub returns-then-not-live-clause-lists : goal.returns-then-not-live-clause-lists
returns-then-not-live-clause-lists c =
    let clock = to_z w64 (of_z w64 c.args.clock) in
    let id = c.in_ok-copy.field-0 in
    let change : Change = record { id = id; clock = clock; live = true } in
    let fits : clock ≡ c.args.clock = to_z-of_z w64 c.args.clock c.ranges.clock in
    let same : c.as_str.result.now ≡ id = c.as_str.ensures.bytes ∙ sym c.in_ok-copy.ensures in
    let old : Lists = (c.args.changes.now.live, c.args.changes.now.dead) in
    let live : c.bury.new.self.live ≡ without_id id old.0 =
    c.bury.ensures.live ∙ (λ i. without_id (same i) (c.in_ok-touch.ensures.live i)) ∙ last_gone old.0 change in
    let dead : c.bury.new.self.dead ≡ without_id id old.1 ++ record { id = id; clock = clock; live = false } ∷ [] =
    c.bury.ensures.dead ∙ (λ i. c.in_ok-touch.ensures.dead i ++ record { id = same i; clock = clock; live = false } ∷ []) in
    (λ i. (live i, dead i))
    ∙ (λ i. mark_new (fits i) (c.in_ok-copy.ensures i) false old)
    ∙ ap (λ b. mark_new c.args.clock c.args.id.now b old) (sym c.if-not-live.true)

pub returns-then-not-live-clause-latest : goal.returns-then-not-live-clause-latest
returns-then-not-live-clause-latest c =
    let old : Lists = (c.args.changes.now.live, c.args.changes.now.dead) in
    subst (λ (ls : Lists). AreUpTo c.args.clock (ls.0 ++ ls.1)) (sym (returns-then-not-live-clause-lists c)) (latest_new c.args.clock c.args.id.now c.args.live old c.requires)

pub returns-else-not-live-clause-latest : goal.returns-else-not-live-clause-latest
returns-else-not-live-clause-latest c =
    let clock = to_z w64 (of_z w64 c.args.clock) in
    let id = c.in_ok-copy.field-0 in
    let fits : clock ≡ c.args.clock = to_z-of_z w64 c.args.clock c.ranges.clock in
    let old : Lists = (c.args.changes.now.live, c.args.changes.now.dead) in
    let marked : (c.touch.new.self.live, c.touch.new.self.dead) ≡ mark_new clock id true old = (λ i. (c.in_ok-touch.ensures.live i, c.in_ok-touch.ensures.dead i)) in
    subst (λ z. AreUpTo z (listed c.touch.new.self)) fits
    (subst (λ (ls : Lists). AreUpTo clock (ls.0 ++ ls.1)) (sym marked) (latest_new clock id true old (subst (λ z. AreUpTo z (listed c.args.changes.now)) (sym fits) c.requires)))
