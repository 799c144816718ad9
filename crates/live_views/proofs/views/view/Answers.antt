use Rattle.rooms_val.specs.View.{data_of}
use Rattle.record_store.specs.Seen.{records}
use Rattle.record_store.proofs.FrameLemmas.{if_ok}
use Rattle.live_views.proofs.TellingLemmas.{told_so}
use Rattle.live_views.proofs.views.view.Goals as goal

pub returns-clause-told : goal.returns-clause-told
returns-clause-told g c =
    if_ok c.told_value.result
    (λ val is. told_so (records c.args.store.now) c.args.view.now (data_of val) _ c.in_ok-key.key is c.in_ok-ask.ensures.value c.in_ok-key.ensures) c.told_value.ensures
