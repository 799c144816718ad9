use Rattle.std.proofs.Common.{◌≡◌, Some, None, Ok, Err, option_map}
use Rattle.std.specs.Option.{option_copied}
use Rattle.std.specs.Prelude.{IfOk, MatchOption}
use Rattle.rooms_val.specs.Maps.{value_at}
use Rattle.rooms_val.specs.View.{data_of}
use Rattle.rooms_val.proofs.DataLemmas.{rising_pairs}
use Rattle.field_ops.specs.View.{maybe_data}
use Rattle.field_ops.specs.ViewRecordOps.{change_of}
use Rattle.doc_model.specs.Documents.{left_on}
use Rattle.schema_core.specs.Admits.{is_admitted}
use Rattle.schema_core.specs.SchemaOf.{schema_tree}
use Rattle.room_accept.specs.Parts.{own_part, IsOwnLeft}
use Rattle.room_accept.proofs.AdmittedLemmas.{standing_at}
use Rattle.room_accept.proofs.PresenceLemmas.{own_left_is}
use Rattle.room_accept.proofs.presence.own_left.Goals as goal

pub step_admitted-requires : goal.step_admitted-requires
step_admitted-requires c =
    let s = schema_tree c.args.schema.now in
    let m = c.args.records.now.0 in
    let id = c.args.id.now in
    let found : maybe_data (option_copied c.get.result) ≡ value_at m id =
    elim c.get.result as (λ o. option_map (λ v. data_of v.now) o ≡ value_at m id → maybe_data (option_copied o) ≡ value_at m id) [ None ↦ λ is. is | Some v ↦ λ is. is ] c.get.ensures.found in
    standing_at s m c.requires id _ found

pub returns : goal.returns
returns c =
    let s = schema_tree c.args.schema.now in
    let m = c.args.records.now.0 in
    let id = c.args.id.now in
    let op = c.args.op.now in
    let r = maybe_data (option_copied c.get.result) in
    let found : r ≡ value_at m id =
    elim c.get.result as (λ o. option_map (λ v. data_of v.now) o ≡ value_at m id → maybe_data (option_copied o) ≡ value_at m id) [ None ↦ λ is. is | Some v ↦ λ is. is ] c.get.ensures.found in
    elim c.step_admitted.result as (λ x. IfOk x (λ left. option_map maybe_data left ≡ left_on (is_admitted s) id (change_of op) r) → IfOk x (λ left. MatchOption left (own_part s m id (change_of op) ≡ None) (IsOwnLeft s m id (change_of op)))) [
      | Ok left ↦ λ is. own_left_is s m id (rising_pairs m c.get.ensures.sound) op c.in_default.not-Remove r found left is
      | Err e ↦ λ is. tt
    ] c.step_admitted.ensures
