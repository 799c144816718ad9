use Rattle.std.proofs.Common.{sym, ap, ◌∙◌}
use Rattle.rooms_val.proofs.DataLemmas.{pairs_of-members_of}
use Rattle.field_ops.specs.ValueOps.{edits_of}
use Rattle.field_ops.specs.Inverses.{inverted}
use Rattle.field_ops.proofs.inverses.patch_back.Goals as goal

pub returns-in_ok-inverse_object-in-Map : goal.returns-in_ok-inverse_object-in-Map
returns-in_ok-inverse_object-in-Map c =
    rw c.in-Map.is (c.in_ok-inverse_object-in-Map.ensures ∙ ap (λ f. inverted (edits_of c.args.diff.now) f) (sym (pairs_of-members_of c.in-Map.fields)))
