use Rattle.std.proofs.Common.{ℕ, List, ◌∷◌, [], ap, ◌∙◌, Ok, Err}
use Rattle.std.specs.Option.{option_map_or}
use Rattle.shape_tree.specs.Queries.{ids_meeting}
use Rattle.room_model.specs.Replicas.{Client}
use Rattle.room_model.specs.Worlds.{shown_in}
use Rattle.room_model.specs.declared.fault.StepFault.TheVariants.{NoSuchClient}
use Rattle.rec_format.specs.declared.printed.PrintedLine.TheVariants as printed
use Rattle.world_views.specs.Views.{tells}
use Rattle.world_views.proofs.EventLemmas.{tells_nothing}
use Rattle.world_views.proofs.TellLemmas.{is_made}
use Rattle.world_views.proofs.viewed.ViewedWorld.query.Goals as goal

pub returns-clause-steps : goal.returns-clause-steps
returns-clause-steps c = λ schemas viewed stands.
    let code = c.args.self.now.world in
    let client = c.args.client in
    let made = is_made schemas client viewed code stands.world stands.watched (c.has_client.ensures.0 c.if-not-has_client.false) in
    let found : Client → List (List ℕ) = λ one. ids_meeting (shown_in schemas viewed.world one) c.args.type_name.now c.args.query.now in
    let lines = printed.Ids client (found made.one) ∷ [] in
    let ids = c.of-ids.ensures ∙ c.in_ok-query.ensures schemas viewed.world made.one stands.world made.at in (
      record { viewed = viewed; lines = lines },
      ap (λ o. option_map_or (λ one. Ok (tells schemas (printed.Ids client (found one) ∷ []) viewed)) o (Err NoSuchClient)) made.at ∙ ap (λ s. Ok s) (tells_nothing schemas viewed code lines stands),
      c.in_ok-one_line.ensures ∙ ap (λ list. printed.Ids client list ∷ []) ids,
      stands,
    )
