use Rattle.clip_content.proofs.CopyLemmas.{copied_closed, copied_least}
use Rattle.clip_content.proofs.laws.copies_the_least_set.Goals as goal

pub returns : goal.returns
returns c = λ m ids. record { closed = copied_closed m ids; least = copied_least m ids }
