use Rattle.std.proofs.Common.{MatchOption, subst}
use Rattle.room_snapshot.specs.Ids.{HaveIds, IsFirstFault}
use Rattle.room_snapshot.specs.Saved.{documents_view, records_of, saved_tree}
use Rattle.room_snapshot.proofs.IdLemmas.{none_else}
use Rattle.room_snapshot.proofs.ids.bad_id.Goals as goal

pub returns-clause-exactly : goal.returns-clause-exactly
returns-clause-exactly c =
    let bad = c.in_ok-bad.bad in
    none_else (records_of (saved_tree c.args.saved.now).documents) bad
    (subst (λ ds. MatchOption bad (HaveIds (records_of (documents_view ds))) (IsFirstFault (records_of (documents_view ds)))) c.deref.ensures.value c.in_ok-bad.ensures)
