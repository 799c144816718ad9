use Rattle.std.proofs.Common.{w64, ◌≡◌, Ok, Result, refl, sym, ap, ◌∙◌}
use Rattle.std.specs.Result.{result_map_both}
use Rattle.std.proofs.lemmas.Int.{to_z-of_z}
use Rattle.schema_core.specs.SchemaOf.{schema_tree}
use Rattle.room_model.specs.Rooms as model
use Rattle.room_schemas.specs.Decided.{decided, plan_for}
use Rattle.room_accept.specs.Plans.{plan_of}
use Rattle.sync_room.specs.Sessions.{with_at, is_new}
use Rattle.sync_room.specs.Standing.{tree_of}
use Rattle.sync_room.specs.declared.session.Phase.TheVariants.{Asked}
use Rattle.sync_room.proofs.PushLemmas.{asks}
use Rattle.sync_room.proofs.TableLemmas.{stays_in}
use Rattle.rooms_val.proofs.Truths.{some_there}
use Rattle.sync_room.proofs.room.Room.connect.Goals as goal

pub returns-in_ok-copy-in-Ok-clause-step : goal.returns-in_ok-copy-in-Ok-clause-step
returns-in_ok-copy-in-Ok-clause-step c = λ state s h at.
    let same : c.index.result.now ≡ s = let here = c.index.ensures in let found = at.here in cc in
    let new = ap (λ s. is_new s.phase) (sym same) ∙ sym c.is_new.ensures ∙ c.if-not-is_new.false in
    let right = sym (c.protocol_fault.ensures ∙ ap model.protocol_fault (to_z-of_z w64 c.args.protocol c.ranges.protocol)) ∙ c.in_default.is in
    let planned : Ok (plan_of c.in-Ok.plan) ≡ plan_for (tree_of c.args.self.now) c.args.versions.now =
    ap (result_map_both plan_of (λ reason. reason)) (sym c.in-Ok.is) ∙ c.in_ok-plan.ensures ∙ ap (λ s. plan_for (schema_tree s) c.args.versions.now) c.schema.ensures.schema in
    asks (decided (tree_of c.args.self.now)) state c.args.self.now _ c.args.key s
    (record { request = c.args.request.now; reached = c.args.reached; protocol = c.args.protocol; versions = c.args.versions.now }) c.in-Ok.plan h at.here new right planned
    (record {
      last = refl;
      history = refl;
      sessions = c.set_phase.ensures s at.here
          ∙ ap (λ reached. with_at c.args.key (record s { phase = Asked c.in_ok-copy-in-Ok.field-0 reached c.in-Ok.plan }) c.args.self.now.sessions) (to_z-of_z w64 c.args.reached c.ranges.reached)
          ∙ ap (λ request. with_at c.args.key (record s { phase = Asked request c.args.reached c.in-Ok.plan }) c.args.self.now.sessions) c.in_ok-copy-in-Ok.ensures;
    })

pub returns-in_ok-copy-in-Ok-clause-others : goal.returns-in_ok-copy-in-Ok-clause-others
returns-in_ok-copy-in-Ok-clause-others c =
    let s = some_there _ c.requires in
    stays_in c.args.self.now.sessions c.set_phase.new.self c.args.key s.0 _ s.1 refl (c.set_phase.ensures s.0 s.1)
