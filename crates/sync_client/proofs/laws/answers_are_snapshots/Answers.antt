use Rattle.std.proofs.Common.{pos, sym, ap}
use Rattle.room_model.specs.Replicas.{push_all}
use Rattle.sync_client.specs.Calls.{after_answer, opened}
use Rattle.sync_client.proofs.laws.answers_are_snapshots.Goals as goal

pub returns : goal.returns
returns c = λ session clock client asks. ap (λ x. push_all (record (after_answer (pos clock) client) { connection = opened x })) (sym asks)
