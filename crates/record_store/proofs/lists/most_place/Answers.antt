use Rattle.std.proofs.Common.{◌∙◌, length, sym, arith}
use Rattle.tl_rules.specs.Listings.{is_before}
use Rattle.record_store.specs.Lists.{place_at}
use Rattle.record_store.proofs.PlaceLemmas.{starts, goes_down}
use Rattle.record_store.proofs.lists.most_place.Goals as goal

pub returns-clause-behind : goal.returns-clause-behind
returns-clause-behind c =
    let ids = c.args.ids.now in
    let at = c.in_ok-is_before_at.ensures in
    λ m has. (
    let passes = is_before c.args.listing m (place_at c.args.index.now c.args.id.now) in
    goes_down passes ids 0 (length ids) (starts passes ids) c.args.guess at.0 at.1 (omega arith) (omega (arith, c.requires, c.if-guess-len.false, c.len.ensures)) (sym c.if-branch.false ∙ at.2 m has)).after
