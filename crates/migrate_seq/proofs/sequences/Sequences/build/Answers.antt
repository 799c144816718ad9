use Rattle.std.proofs.Common.{◌∙◌, sym, ap, length}
use Rattle.std.specs.Prelude.{nat_eq, count_by}
use Rattle.migrate_seq.specs.Builds.{have_rising_ids, doubled}
use Rattle.migrate_seq.specs.Order.{never_taken}
use Rattle.migrate_seq.specs.Plans.{can_all_scale, follows, places_of}
use Rattle.migrate_seq.proofs.Counts.{count-by_id}
use Rattle.migrate_seq.proofs.BuildLemmas.{all-by_id, rising-by_id}
use Rattle.migrate_seq.proofs.sequences.Sequences.build.Goals as goal

pub invariant_of-result : goal.invariant_of-result
invariant_of-result c =
    let left = c.in_ok-order.order.left in
    let places = c.in_ok-places.ensures ∙ ap (places_of 0) c.deref-5.ensures.value in
    let all = c.in_ok-order.ensures.left ∙ (λ i. never_taken (follows (c.deref-6.ensures.value i)) (places i)) in
    record {
      acyclic = ap (λ l. nat_eq (length l) 0) (sym all) ∙ ap (λ n. nat_eq n 0) (sym left.ok.0) ∙ sym c.is_empty.ensures ∙ c.if-not-is_empty.false;
      scaled = ap can_all_scale c.in_ok-sequences.ensures ∙ all-by_id _ c.args.list.items c.requires;
    }

pub returns-clause-rising : goal.returns-clause-rising
returns-clause-rising c =
    ap have_rising_ids c.in_ok-sequences.ensures ∙ rising-by_id c.args.list.items (ap doubled (sym c.deref-3.ensures.value) ∙ sym c.in_default-doubled_id.ensures)

pub returns-clause-same : goal.returns-clause-same
returns-clause-same c test = ap (count_by test) c.in_ok-sequences.ensures ∙ count-by_id test c.args.list.items
