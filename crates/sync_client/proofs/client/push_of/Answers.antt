use Rattle.std.proofs.Common.{rules, ◌≡◌, w64, None, Some, pos, sym, ap, ◌∙◌}
use mir.Val.{to_z}
use Rattle.rooms_val.specs.View.{val_of}
use Rattle.rooms_val.proofs.DataLemmas.{val_of-data_of}
use Rattle.field_ops.specs.declared.record_op.RecordOp.TheVariants.{Put}
use Rattle.sync_msgs.specs.declared.client_message.ClientMessage.TheVariants.{Push}
use Rattle.room_model.specs.Replicas as model
use Rattle.client_replica.specs.Works.{work_of}
use Rattle.sync_client.proofs.client.push_of.Goals as goal

pub returns-in_ok-copy-in-Presence : goal.returns-in_ok-copy-in-Presence
returns-in_ok-copy-in-Presence c =
    let same = sym (val_of-data_of c.in_ok-copy-in-Presence.field-0) ∙ ap val_of c.in_ok-copy-in-Presence.ensures in
    let number : to_z w64 c.args.number ≡ pos c.args.number = search rules in
    (λ i. Push (number i) None (Some (Put (same i)))) ∙ sym (ap (λ w. model.push_of c.args.number (work_of w)) c.in-Presence.is)
