use Rattle.std.proofs.Common.{T, sym, subst, ap, ◌∙◌}
use Rattle.std.specs.Ordering.{is_lt}
use Rattle.rooms_val.specs.Maps.{order}
use Rattle.rooms_val.proofs.PlacesLemmas.{gap_at_end}
use Rattle.rooms_val.proofs.entries.place_to_put.Goals as goal

pub returns-in-Some-clause-absent : goal.returns-in-Some-clause-absent
returns-in-Some-clause-absent g c =
    let below = sym c.if-lt.true ∙ c.lt.ensures ∙ ap (λ k. is_lt (order k c.args.key.now)) c.as_str.ensures.bytes in
    gap_at_end c.args.entries.now c.requires c.args.key.now c.in-Some.last.now c.in-Some.ensures.item.3.0 c.in-Some.ensures.item.1 (subst T below tt)
