use Rattle.field_index.proofs.IndexLemmas.{indexed-set_at}
use Rattle.field_index.proofs.laws.index_follows_writes.Goals as goal

pub returns : goal.returns
returns c = indexed-set_at
