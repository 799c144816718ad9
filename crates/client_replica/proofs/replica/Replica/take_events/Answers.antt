use Rattle.std.proofs.Common.{◌≡◌, ◌≤◌, ℕ, List, true, length, map, drop, take, sym, ap, subst, ◌∙◌, arith}
use Rattle.std.specs.Prelude.{is_some}
use Rattle.std.proofs.lemmas.List.{drop-map, take-map, length-map, drop_all}
use Rattle.rooms_val.specs.Maps.{value_at}
use Rattle.schema_core.specs.SchemaOf.{schema_tree}
use Rattle.schema_core.specs.Admits.{is_admitted, is_document}
use Rattle.doc_model.specs.Documents.{replay}
use Rattle.room_model.specs.Schemas.{records_with}
use Rattle.room_model.specs.Taking.{after_events}
use Rattle.room_model.proofs.LookUpLemmas.{rising-filter}
use Rattle.client_replica.specs.Works.{work_of, works_in, diffs_in, operations, ended}
use Rattle.field_ops.specs.RecordOps.{RecordOps}
use Rattle.client_replica.specs.Stashes.{is_named, AreCounted}
use Rattle.client_replica.proofs.CountLemmas.{none_counted}
use Rattle.client_replica.specs.NewBases.{IsAhead, NamesWithin}
use Rattle.client_replica.specs.Owns.{settled}
use Rattle.client_replica.specs.Standing.{IsReplica}
use Rattle.client_replica.proofs.NewBaseLemmas.{is_of}
use Rattle.client_replica.proofs.ReplicaLemmas.{rising-shown}
use Rattle.client_replica.proofs.TakenLemmas.{ahead, names_within, stays, own_shown, own_all, went_on, ops_taken}
use Rattle.client_replica.proofs.replica.Replica.take_events.Goals as goal

pub returns-then-len-count-clause-ok : goal.returns-then-len-count-clause-ok
returns-then-len-count-clause-ok g c = λ replica stands.
    let r = c.args.self.now in
    let s = schema_tree r.schema in
    let items = r.works.items in
    let events = c.args.events.now in
    let m = g.D.DocStore.records r.store in
    let after = after_events (is_admitted s) replica events in
    let few : length (map work_of items) ≤ length events =
    let least = c.if-len-count.true in let one = c.len.ensures in let other = ap length c.as_slice-count.ensures in let mapped = length-map items work_of in omega (arith, least, one, other, mapped) in
    let own = own_all s m (map work_of items) r.stash r.others replica events stands.0 (sym c.are_own-own.ensures ∙ c.if-own.true) few in
    let none = subst (λ n. AreCounted (diffs_in (drop (length events) (map work_of items))) n) (sym c.new-then-len-count.ensures) (none_counted (drop (length events) (map work_of items)) (drop_all (length events) (map work_of items) few)) in
    subst (λ ws. IsReplica s m ws c.new.result r.others after × AreCounted (diffs_in ws) c.new-then-len-count.result) (drop-map work_of (length events) items ∙ ap (λ n. map work_of (drop n items)) (sym (ap length c.as_slice-count.ensures)) ∙ ap (map work_of) (sym c.drop_first.ensures))
    (subst (λ none. IsReplica s m (drop (length events) (map work_of items)) none r.others after) (sym c.new.ensures) own, none)

pub returns-then-own-2-clause-ok : goal.returns-then-own-2-clause-ok
returns-then-own-2-clause-ok g c = λ replica stands.
    let r = c.args.self.now in
    let s = schema_tree r.schema in
    let items = r.works.items in
    let works = map work_of items in
    let events = c.args.events.now in
    let n = c.in_ok-answered.answered in
    let m = g.D.DocStore.records r.store in
    let base = c.take_events.new.self in
    let new = c.settle.new.self.stash in
    let after = after_events (is_admitted s) replica events in
    let left = drop-map work_of n items in
    let told = c.in_ok-answered.ensures in
    let none = c.new-base.ensures in
    let is = told.ahead replica (sym stands.0.works_are)
    (subst (λ o. IsAhead s replica replica.pending m r.stash c.new-base.result.changes o) (sym (none.others ∙ c.in_ok-copy.ensures))
    (subst (λ ch. IsAhead s replica replica.pending m r.stash ch r.others) (sym none.changes) (ahead s m works r.stash r.others replica stands.0))) in
    let touched : (q : List ℕ) → is_named (diffs_in (take n works)) q ≡ true → is_some (value_at base.changes q) ≡ true = λ q named. told.touched q (ap (λ ws. is_named (diffs_in ws) q) (sym (take-map work_of n items)) ∙ named) in
    let names = subst (λ ws. NamesWithin (diffs_in ws) r.stash) left (names_within s m works r.stash r.others replica n stands.0) in
    let counted = c.forget_first.ensures stands.1 in
    let settles : (q : List ℕ) → value_at new q ≡ settled (diffs_in (drop n works)) base.changes r.stash q = λ q. c.settle.ensures.stash (diffs_in (map work_of (drop n items))) counted names q ∙ ap (λ ws. settled (diffs_in ws) base.changes r.stash q) (sym left) in
    let shows = own_shown s m works r.stash r.others replica events n told.ended stands.0 (sym c.are_own-own.ensures ∙ c.if-own-2.true) in
    subst (λ ws. IsReplica (schema_tree c.settle.new.self.schema) (g.D.DocStore.records c.settle.new.self.store) ws new c.settle.new.self.others after × AreCounted (diffs_in ws) c.settle.new.self.names) (left ∙ ap (map work_of) (sym (c.drop_first-then-own-2.ensures ∙ ap (λ x. drop n x.works.items) c.settle.ensures.kept))) (
      subst (λ x. IsReplica (schema_tree x.schema) (g.D.DocStore.records x.store) (drop n works) x.stash x.others after) (sym c.settle.ensures.kept)
          (went_on s m m works r.stash base.changes new r.others base.others replica after n stands.0 is touched shows settles c.settle.ensures.rising),
      subst (λ x. AreCounted (diffs_in (drop n works)) x.names) (sym c.settle.ensures.kept) (subst (λ ws. AreCounted (diffs_in ws) c.forget_first.new.names) (sym left) counted),
    )

pub returns-clause-ok : goal.returns-clause-ok
returns-clause-ok g c = λ replica stands.
    let r = c.args.self.now in
    let s = schema_tree r.schema in
    let items = r.works.items in
    let works = map work_of items in
    let events = c.args.events.now in
    let n = c.in_ok-answered.answered in
    let m = g.D.DocStore.records r.store in
    let base = c.take_events.new.self in
    let w = c.write_changes.new.self in
    let wrote = c.in_ok-write_changes.ensures in
    let set = c.settle-2.new.self in
    let after = after_events (is_admitted s) replica events in
    let left = drop-map work_of n items in
    let told = c.in_ok-answered.ensures in
    let none = c.new-base.ensures in
    let is = told.ahead replica (sym stands.0.works_are)
    (subst (λ o. IsAhead s replica replica.pending m r.stash c.new-base.result.changes o) (sym (none.others ∙ c.in_ok-copy.ensures))
    (subst (λ ch. IsAhead s replica replica.pending m r.stash ch r.others) (sym none.changes) (ahead s m works r.stash r.others replica stands.0))) in
    let touched : (q : List ℕ) → is_named (diffs_in (take n works)) q ≡ true → is_some (value_at base.changes q) ≡ true = λ q named. told.touched q (ap (λ ws. is_named (diffs_in ws) q) (sym (take-map work_of n items)) ∙ named) in
    let names = subst (λ ws. NamesWithin (diffs_in ws) r.stash) left (names_within s m works r.stash r.others replica n stands.0) in
    let document = records_with (is_document s) after.base in
    let shows = wrote.ok document (rising-filter (is_document s) after.base is.rising) (rising-shown s m works r.stash r.others replica stands.0) (is_of document m r.stash base.changes is.document) names
    (λ q free. stays s m works r.stash base.changes r.others base.others replica after (drop n replica.pending) n stands.0 is touched q free ∙ ap (λ ws. value_at (replay (is_admitted s) document (diffs_in ws)) q) left) in
    let counted = subst (λ x. AreCounted (diffs_in (map work_of x.works.items)) x.names → AreCounted (diffs_in (map work_of (drop n x.works.items))) c.forget_first-2.new.names) wrote.kept c.forget_first-2.ensures stands.1 in
    let settles : (q : List ℕ) → value_at set.stash q ≡ settled (diffs_in (drop n works)) base.changes r.stash q = λ q.
    subst (λ x. (diffs : List RecordOps) → AreCounted diffs c.forget_first-2.new.names → NamesWithin diffs x.stash → (q : List ℕ) → value_at set.stash q ≡ settled diffs base.changes x.stash q)
    wrote.kept c.settle-2.ensures.stash (diffs_in (map work_of (drop n items))) counted names q ∙ ap (λ ws. settled (diffs_in ws) base.changes r.stash q) (sym left) in
    let done = went_on s m (g.D.DocStore.records w.store) works r.stash base.changes set.stash r.others base.others replica after n stands.0 is touched
    (shows ∙ ap (λ ws. replay (is_admitted s) document (diffs_in ws)) (sym left)) settles c.settle-2.ensures.rising in
    subst (λ ws. IsReplica (schema_tree set.schema) (g.D.DocStore.records set.store) ws set.stash set.others after × AreCounted (diffs_in ws) set.names)
    (left ∙ ap (map work_of) (sym (c.drop_first-2.ensures ∙ ap (λ x. drop n x.works.items) c.settle-2.ensures.kept ∙ ap (λ x. drop n x.works.items) wrote.kept))) (
      subst (λ x. IsReplica (schema_tree x.schema) (g.D.DocStore.records x.store) (drop n works) x.stash x.others after) (sym c.settle-2.ensures.kept)
          (subst (λ x. IsReplica (schema_tree x.schema) (g.D.DocStore.records w.store) (drop n works) set.stash base.others after) (sym wrote.kept) done),
      subst (λ x. AreCounted (diffs_in (drop n works)) x.names) (sym c.settle-2.ensures.kept) (subst (λ ws. AreCounted (diffs_in ws) c.forget_first-2.new.names) (sym left) counted),
    )

pub returns-in_err-write_changes-clause-few : goal.returns-in_err-write_changes-clause-few
returns-in_err-write_changes-clause-few g c = λ replica stands.
    let told = c.in_ok-answered.ensures in
    let few = told.few in
    let none = ap length c.new-base.ensures.changes in
    let same = ap (λ ws. operations (diffs_in ws)) (sym (take-map work_of c.in_ok-answered.answered c.args.self.now.works.items) ∙ (λ i. take (told.ended i) (stands.0.works_are i))) in
    let wrote = c.in_err-write_changes.ensures.ticks in
    omega (arith, few, none, same, wrote)

pub returns-in_err-write_changes-clause-ticks : goal.returns-in_err-write_changes-clause-ticks
returns-in_err-write_changes-clause-ticks g c = λ replica stands.
    let told = c.in_ok-answered.ensures in
    let few = told.few in
    let none = ap length c.new-base.ensures.changes in
    let same = ap (λ ws. operations (diffs_in ws)) (sym (take-map work_of c.in_ok-answered.answered c.args.self.now.works.items) ∙ (λ i. take (told.ended i) (stands.0.works_are i))) in
    let all = ops_taken (schema_tree c.args.self.now.schema) (works_in replica.pending) (ended c.args.events.now) in
    let wrote = c.in_err-write_changes.ensures.ticks in
    omega (arith, few, none, same, all, wrote)

pub returns-clause-few : goal.returns-clause-few
returns-clause-few g c = λ replica stands.
    let told = c.in_ok-answered.ensures in
    let few = told.few in
    let none = ap length c.new-base.ensures.changes in
    let same = ap (λ ws. operations (diffs_in ws)) (sym (take-map work_of c.in_ok-answered.answered c.args.self.now.works.items) ∙ (λ i. take (told.ended i) (stands.0.works_are i))) in
    let wrote = c.in_ok-write_changes.ensures.ticks in
    omega (arith, few, none, same, wrote)

pub returns-clause-ticks : goal.returns-clause-ticks
returns-clause-ticks g c = λ replica stands.
    let told = c.in_ok-answered.ensures in
    let few = told.few in
    let none = ap length c.new-base.ensures.changes in
    let same = ap (λ ws. operations (diffs_in ws)) (sym (take-map work_of c.in_ok-answered.answered c.args.self.now.works.items) ∙ (λ i. take (told.ended i) (stands.0.works_are i))) in
    let all = ops_taken (schema_tree c.args.self.now.schema) (works_in replica.pending) (ended c.args.events.now) in
    let wrote = c.in_ok-write_changes.ensures.ticks in
    omega (arith, few, none, same, all, wrote)
