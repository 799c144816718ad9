use Rattle.std.proofs.Common.{sym, ap, ◌∙◌}
use Rattle.migrate_seq.specs.Versions.{are_numbers, numbers_of, versions_in, schema_with}
use Rattle.migrate_seq.proofs.SerializedLemmas.{numbers_of-versions_in, are_numbers-numbers_of, same_schemas}
use Rattle.migrate_seq.proofs.serialized.Serialized.read.Goals as goal

pub returns-in_ok-versions-in-Some-clause-found : goal.returns-in_ok-versions-in-Some-clause-found
returns-in_ok-versions-in-Some-clause-found c =
    c.in-Some.ensures.found
    ∙ ap schema_with (sym (numbers_of-versions_in c.in-Some.versions.now (sym c.are_numbers.ensures ∙ c.if-are_numbers.true)))
    ∙ ap (λ ps. schema_with (numbers_of (versions_in ps))) (sym c.in_ok-versions-in-Some.ensures)

pub returns-else-are_numbers-clause-wrong : goal.returns-else-are_numbers-clause-wrong
returns-else-are_numbers-clause-wrong c _ s stands =
    let same = same_schemas _ _ (sym c.in-Some.ensures.found ∙ stands) in
    cc (ap are_numbers same, are_numbers-numbers_of s, c.are_numbers.ensures, c.if-are_numbers.false)
