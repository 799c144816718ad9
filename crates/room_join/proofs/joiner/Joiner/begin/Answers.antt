use Rattle.std.proofs.Common.{[], ◌∷◌, false, refl, sym, ap, subst, ◌∙◌}
use Rattle.client_link.specs.declared.saying.Saying.TheVariants as say
use Rattle.room_model.specs.Replicas.{new_client, schema_of}
use Rattle.sync_client.specs.Calls.{ClientState, asks, connect_answer}
use Rattle.room_join.specs.Joiners.{new_joiner}
use Rattle.room_join.specs.Standing.{Stands}
use Rattle.room_join.proofs.AnsweringLemmas.{answered_is, begun_stands}
use Rattle.room_join.proofs.joiner.Joiner.begin.Goals as goal

pub returns-clause-stands : goal.returns-clause-stands
returns-clause-stands c = λ schemas tables.
    let state : ClientState = record { base = []; client = new_client c.args.version } in
    subst (Stands schemas (new_joiner c.args.version)) (sym c.with_peer.ensures)
    (begun_stands schemas c.args.version c.in_ok-peer.peer c.ask.new.peer (c.in_ok-asked.ensures.stands schemas state (c.in_ok-peer.ensures.stands schemas tables))
    c.ask.ensures.store c.in_ok-peer.ensures.unwatched c.in_ok-peer.ensures.closed)

pub returns-clause-said : goal.returns-clause-said
returns-clause-said c = λ schemas tables.
    let state : ClientState = record { base = []; client = new_client c.args.version } in
    let asked = c.in_ok-asked.ensures.asked schemas state (c.in_ok-peer.ensures.stands schemas tables) in
    let versions = (schema_of schemas state.client).versions in
    let same = answered_is (connect_answer versions 0 state.client) (asks versions 0 state.client) c.in_ok-asked.asked refl asked in
    c.in_ok-said.ensures ∙ ap (λ m. say.Join (record { readonly = false; room = c.args.room }) ∷ say.Message m ∷ []) (sym same)
