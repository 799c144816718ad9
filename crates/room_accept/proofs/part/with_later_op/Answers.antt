use Rattle.std.proofs.Common.{[], ap, ◌∙◌}
use Rattle.rooms_val.specs.Maps.{with_key}
use Rattle.rooms_val.proofs.MapsLemmas.{put_last}
use Rattle.field_ops.specs.ViewRecordOps.{change_of}
use Rattle.room_accept.proofs.part.with_later_op.Goals as goal

pub returns-clause-diff : goal.returns-clause-diff
returns-clause-diff c =
    let op = change_of c.args.op in
    c.in_ok-put.ensures.ok ∙ ap (λ id. with_key c.args.part.diff id op) c.in_ok-copy.ensures ∙ put_last c.args.part.diff c.args.id.now op [] c.requires
