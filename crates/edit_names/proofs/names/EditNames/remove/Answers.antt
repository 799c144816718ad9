use Rattle.std.proofs.Common.{◌-◌, ap, ◌∙◌}
use Rattle.field_ops.specs.ViewRecordOps.{change_of}
use Rattle.edit_names.specs.Names.{count_at, once}
use Rattle.edit_names.proofs.NamesLemmas.{once-seen, rising-ids}
use Rattle.edit_names.proofs.names.EditNames.remove.Goals as goal

pub returns : goal.returns
returns c = λ q.
    let items = c.as_slice.result.now in
    let rising = rising-ids change_of items c.args.diff.now c.as_slice.ensures.pairs c.as_slice.ensures.sound.0 in
    c.remove_each.ensures rising q ∙ ap (λ n. count_at c.args.self.now q - n) (once-seen change_of items q ∙ ap (λ d. once d q) c.as_slice.ensures.pairs)
