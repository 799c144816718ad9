use Rattle.room_events.proofs.ExpectLemmas.{snapshot_expected, results_expected}
use Rattle.room_events.proofs.telling.replies_are_expected.Goals as goal

pub returns-clause-snapshots : goal.returns-clause-snapshots
returns-clause-snapshots c schemas last before after number client told request lawful legal is of_ =
    snapshot_expected schemas lawful last number client before after told request legal is of_

pub returns-clause-results : goal.returns-clause-results
returns-clause-results c schemas last before after number client told lawful legal is = results_expected schemas lawful last number client before after told legal is
