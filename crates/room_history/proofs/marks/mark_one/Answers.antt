use Rattle.std.proofs.Common.{◌≡◌, ◌||◌, true, sym, subst}
use Rattle.change_list.specs.Changes.{IsListed}
use Rattle.room_history.specs.Marks.{is_listed}
use Rattle.room_history.proofs.ListedLemmas.{is_contained}
use Rattle.room_history.proofs.marks.mark_one.Goals as goal

pub bury-requires-clause-live : goal.bury-requires-clause-live
bury-requires-clause-live c =
    let live = c.args.changes.now.live in
    let listed = subst (λ b. b || is_listed live c.args.id ≡ true) c.if-live.false c.requires.live in
    subst (IsListed live) (sym c.as_str.ensures.bytes) (is_contained live c.args.id listed)
