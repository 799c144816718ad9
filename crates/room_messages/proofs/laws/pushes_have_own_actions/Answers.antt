use Rattle.room_model.proofs.ActingLemmas.{push_acts}
use Rattle.room_schemas.specs.Decided.{decided}
use Rattle.room_messages.proofs.LawfulLemmas.{lawful}
use Rattle.room_messages.proofs.laws.pushes_have_own_actions.Goals as goal

pub returns : goal.returns
returns c = λ tree member m push history presences rising taken own.
    ((push_acts (decided tree) (lawful tree presences) member m push rising taken).action, own)
