use Rattle.std.proofs.Common.{Some, sym, ap, subst, ◌∙◌}
use Rattle.rooms_val.specs.Places.{IsPlace, IsGap}
use Rattle.rooms_val.proofs.PlacesLemmas.{find_at_place, find_in_gap, where_at_place, where_in_gap}
use Rattle.rooms_val.proofs.entries.take.Goals as goal

pub returns-in-Ok-clause-old : goal.returns-in-Ok-clause-old
returns-in-Ok-clause-old g c =
    let at = subst (λ t. IsPlace t c.args.key.now c.in-Ok.place) c.deref.ensures.value c.in-Ok.ensures.found in
    ap (λ e. Some e.1) c.remove.ensures.value ∙ sym (find_at_place c.args.entries.now.items c.args.key.now c.in-Ok.place c.remove.result at)

pub returns-in-Ok-clause-rest : goal.returns-in-Ok-clause-rest
returns-in-Ok-clause-rest g c =
    let at = subst (λ t. IsPlace t c.args.key.now c.in-Ok.place) c.deref.ensures.value c.in-Ok.ensures.found in
    c.remove.ensures.items ∙ sym (where_at_place c.args.entries.now.items c.args.key.now c.in-Ok.place at)

pub returns-in-Err-clause-old : goal.returns-in-Err-clause-old
returns-in-Err-clause-old g c = sym (find_in_gap c.args.entries.now.items c.args.key.now c.in-Err.field-0 (subst (λ t. IsGap t c.args.key.now c.in-Err.field-0) c.deref.ensures.value c.in-Err.ensures.absent))

pub returns-in-Err-clause-rest : goal.returns-in-Err-clause-rest
returns-in-Err-clause-rest g c = sym (where_in_gap c.args.entries.now.items c.args.key.now c.in-Err.field-0 (subst (λ t. IsGap t c.args.key.now c.in-Err.field-0) c.deref.ensures.value c.in-Err.ensures.absent))
