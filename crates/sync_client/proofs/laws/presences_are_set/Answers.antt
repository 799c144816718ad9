use Rattle.std.proofs.Common.{◌≡◌, true, false, cond, Some, refl}
use Rattle.room_model.specs.Replicas.{is_open, push_all, push_none, presence, with_work}
use Rattle.sync_client.proofs.laws.presences_are_set.Goals as goal

pub returns : goal.returns
returns c = λ d client.
    let set = record client { presence = Some d } in
    let more = with_work (presence d) set in
    elim (is_open client.connection) as (λ b. cond b (push_all more) (push_none set) ≡ cond b (push_all (cond b more set)) (push_none (cond b more set))) [ true ↦ refl | false ↦ refl ]
