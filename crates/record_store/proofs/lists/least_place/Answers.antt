use Rattle.std.proofs.Common.{◌∙◌, ◌-◌, length, sym, arith}
use Rattle.tl_rules.specs.Listings.{is_before}
use Rattle.record_store.specs.Lists.{place_at}
use Rattle.record_store.proofs.PlaceLemmas.{starts, goes_up}
use Rattle.record_store.proofs.lists.least_place.Goals as goal

pub returns-then-branch-clause-before : goal.returns-then-branch-clause-before
returns-then-branch-clause-before c =
    let ids = c.args.ids.now in
    let at = c.in_ok-is_before_at.ensures in
    λ m has parted k d least most.
    let passes = is_before c.args.listing m (place_at c.args.index.now c.args.id.now) in
    (goes_up passes ids 0 (length ids) (starts passes ids) (c.args.guess - 1) at.0 at.1 (omega arith) (omega (arith, c.requires, c.if-guess-eq0.false)) (sym c.if-branch.true ∙ at.2 m has)).before
    parted k d least (omega (arith, most, c.if-guess-eq0.false))
