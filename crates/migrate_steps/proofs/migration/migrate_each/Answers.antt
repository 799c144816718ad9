use Rattle.std.proofs.Common.{◌≡◌, ℕ, List, ◌++◌, ◌∷◌, [], sym, ap, ◌∙◌, rules, append_assoc}
use Rattle.rooms_val.specs.View.{pairs_view}
use Rattle.rooms_val.specs.declared.val.Val.{Val}
use Rattle.migrate_steps.specs.Records.{migrated}
use Rattle.migrate_steps.specs.declared.step.Way.TheVariants.{Up}
use Rattle.migrate_steps.proofs.RecordLemmas.{seen_on}
use Rattle.migrate_steps.proofs.migration.migrate_each.Goals as goal

pub records-preserved : goal.records-preserved
records-preserved c =
    let i = c.records.invariant in
    let done = c.records.yielded in
    let one : List ℕ × Val = (c.in-Some.id, c.in-Some.stored) in
    let left = c.next.new.self.rest.items in
    let next : c.records.id-iterator.rest.items ≡ one ∷ left = search rules in
    let all : pairs_view (done ++ one ∷ left) ≡ c.args.records = ap (λ l. pairs_view (done ++ l)) (sym next) ∙ i.all in
    record {
      so_far = c.in_ok-put_raised.ensures ∙ seen_on (migrated Up c.args.migration.now) c.args.records c.records.after done c.in-Some.id c.in-Some.stored left c.len.ensures.sound all i.so_far;
      all = ap pairs_view (append_assoc done (one ∷ []) left) ∙ all;
    }
