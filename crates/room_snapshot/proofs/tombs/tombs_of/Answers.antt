use Rattle.std.proofs.Common.{sym, ap, ◌∙◌}
use Rattle.rooms_val.specs.Data.{whole}
use Rattle.rooms_val.specs.Maps.{seen}
use Rattle.rooms_val.proofs.DataLemmas.{rising_pairs}
use Rattle.room_snapshot.specs.Saved.{tombs_view}
use Rattle.room_snapshot.proofs.TombLemmas.{rising_tombs, tombs_by_id-rising}
use Rattle.rooms_val.proofs.RefusalLemmas.{passed_on}
use Rattle.room_snapshot.proofs.tombs.tombs_of.Goals as goal

pub returns-in_err-tombs-clause-refused : goal.returns-in_err-tombs-clause-refused
returns-in_err-tombs-clause-refused c =
    passed_on c.from_residual.result c.in_err-tombs.field-0.0 c.from_residual.ensures.1 (λ none tombs is. none tombs (c.as_slice.ensures.pairs ∙ is)) c.in_err-tombs.ensures.refused

pub returns-clause-rising : goal.returns-clause-rising
returns-clause-rising c =
    let fields = c.args.fields.now in
    rising_tombs fields (tombs_view c.in_ok-tombs.tombs.items) (rising_pairs fields c.as_slice.ensures.sound) (sym c.as_slice.ensures.pairs ∙ c.in_ok-tombs.ensures.found)

pub returns-clause-found : goal.returns-clause-found
returns-clause-found c =
    let fields = c.args.fields.now in
    let tombs = tombs_view c.in_ok-tombs.tombs.items in
    let is = sym c.as_slice.ensures.pairs ∙ c.in_ok-tombs.ensures.found in
    is ∙ ap (seen whole) (sym (tombs_by_id-rising tombs (rising_tombs fields tombs (rising_pairs fields c.as_slice.ensures.sound) is)))
