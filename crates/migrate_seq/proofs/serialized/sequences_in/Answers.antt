use Rattle.std.proofs.Common.{◌∙◌, sym, lit<}
use Rattle.migrate_seq.proofs.SerializedLemmas.{length_is, first_key, first_value, second_key, second_value, there_at, not_a_map, schema_found}
use Rattle.migrate_seq.proofs.serialized.sequences_in.Goals as goal

pub returns-then-len-ne2-clause-none : goal.returns-then-len-ne2-clause-none
returns-then-len-ne2-clause-none c ps stands = c.if-len-ne2.true (c.len.ensures.count ∙ length_is _ _ ps c.in-Map.is stands)

pub returns-in_default-at-clause-none : goal.returns-in_default-at-clause-none
returns-in_default-at-clause-none c ps stands = there_at _ _ ps c.in-Map.is stands 0 (lit< tt) c.in_default-at.ensures

pub returns-then-not-is_text-clause-none : goal.returns-then-not-is_text-clause-none
returns-then-not-is_text-clause-none c ps stands =
    let same = c.is_text.ensures.1 (first_key _ _ ps c.in-Map.is stands _ _ c.in-Some.ensures) in cc (same, c.if-not-is_text.true)

pub returns-then-not-is_two-clause-none : goal.returns-then-not-is_two-clause-none
returns-then-not-is_two-clause-none c ps stands =
    let same = c.is_two.ensures.1 (first_value _ _ ps c.in-Map.is stands _ _ c.in-Some.ensures) in cc (same, c.if-not-is_two.true)

pub returns-in_default-at-2-clause-none : goal.returns-in_default-at-2-clause-none
returns-in_default-at-2-clause-none c ps stands = there_at _ _ ps c.in-Map.is stands 1 (lit< tt) c.in_default-at-2.ensures

pub returns-then-not-is_text-2-clause-none : goal.returns-then-not-is_text-2-clause-none
returns-then-not-is_text-2-clause-none c ps stands =
    let same = c.is_text-2.ensures.1 (second_key _ _ ps c.in-Map.is stands _ _ c.in-Some-at.ensures) in cc (same, c.if-not-is_text-2.true)

pub returns-in-Map-sequences-clause-found : goal.returns-in-Map-sequences-clause-found
returns-in-Map-sequences-clause-found c =
    schema_found _ _ _ _ _ _ _ c.in-Map.is (sym c.len.ensures.count ∙ c.if-len-ne2.false) c.in-Some.ensures (c.is_text.ensures.0 c.if-not-is_text.false)
    (c.is_two.ensures.0 c.if-not-is_two.false) c.in-Some-at.ensures (c.is_text-2.ensures.0 c.if-not-is_text-2.false) c.in-Map-sequences.is

pub returns-in_default-sequences : goal.returns-in_default-sequences
returns-in_default-sequences c = record {
  found = tt;
  none = λ ps stands. not_a_map _ _ c.in_default-sequences.not-Map (second_value _ _ ps c.in-Map.is stands _ _ c.in-Some-at.ensures);
}
