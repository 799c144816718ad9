use Rattle.std.proofs.Common.{Ok, Err, ap, sym, subst, ◌∙◌, rules}
use Rattle.std.specs.Option.{option_map_or}
use Rattle.std.proofs.lemmas.Iterator.Adapters.{YieldsList-from_vec}
use Rattle.std.proofs.lemmas.Iterator.Consumers.{YieldsList-turn}
use Rattle.rooms_val.specs.Places.{IsPlace, IsGap}
use Rattle.rooms_val.specs.Maps.{AreRising, with_key}
use Rattle.rooms_val.proofs.MapsLemmas.{rising-with_key, seen-with_key}
use Rattle.rooms_val.proofs.PlacesLemmas.{put_in_gap}
use Rattle.schema_core.specs.Builds.{by_name}
use Rattle.schema_core.specs.View.{type_tree, types_view, rows_view}
use Rattle.schema_core.specs.declared.row.RecordType.{RecordType}
use Rattle.schema_core.specs.declared.fault.SchemaFault.TheVariants as schema_fault
use Rattle.schema_core.proofs.NamesLemmas.{by_name-push, listed_at_place, listed_in_gap, doubled_here, doubled_later}
use Rattle.schema_core.proofs.names.by_name.Goals as goal

pub returns-in-Ok-clause-answer : goal.returns-in-Ok-clause-answer
returns-in-Ok-clause-answer c other =
    let all = c.args.rows.items in
    let r = c.in-Some.row in
    let turn = YieldsList-turn (YieldsList-from_vec {s = c.into_iter-row-iterator.result} all (search rules) (search rules)) c.rows.yielded _ c.rows.yielded_by _ c.next.new.self r c.in-Some.is c.next.ensures.steps in
    let es = c.rows.types.items in
    let at = subst (λ s. IsPlace s r.name c.in-Ok.field-0) c.deref.ensures.value (subst (λ k. IsPlace c.deref.result.now k c.in-Ok.field-0) c.as_str.ensures.bytes c.in-Ok.ensures.found) in
    let listed = listed_at_place es c.rows.yielded c.rows.invariant.so_far r.name c.in-Ok.field-0 (record { scope = r.scope; check = r.check }) at in
    ap (λ o. option_map_or (λ name. Err (schema_fault.DoubledType name)) o (Ok (by_name (rows_view all)))) (c.rows.invariant.none ∙ doubled_here all c.rows.yielded r turn.0 turn.1 listed)

pub rows-preserved : goal.rows-preserved
rows-preserved c =
    let all = c.args.rows.items in
    let r = c.in-Some.row in
    let kept : RecordType = record { scope = r.scope; check = r.check } in
    let turn = YieldsList-turn (YieldsList-from_vec {s = c.into_iter-row-iterator.result} all (search rules) (search rules)) c.rows.yielded _ c.rows.yielded_by _ c.next.new.self r c.in-Some.is c.next.ensures.steps in
    let es = c.rows.types.items in
    let at = subst (λ k. IsGap c.deref.result.now k c.in-Err.place) c.as_str.ensures.bytes c.in-Err.ensures.absent in
    let edited = c.in_ok-insert-in-Err.ensures.items ∙ sym (put_in_gap es r.name kept c.in-Err.place (subst (λ s. IsGap s r.name c.in-Err.place) c.deref.ensures.value at)) in
    let none = listed_in_gap es c.rows.yielded c.rows.invariant.so_far r.name c.in-Err.place (subst (λ s. IsGap s r.name c.in-Err.place) c.deref.ensures.value at) in
    record {
      rising = subst AreRising (sym edited) (rising-with_key es r.name kept c.rows.invariant.rising);
      so_far = ap types_view edited ∙ seen-with_key type_tree es r.name kept ∙ ap (λ ts. with_key ts r.name (type_tree kept)) c.rows.invariant.so_far ∙ sym (by_name-push c.rows.yielded r);
      none = c.rows.invariant.none ∙ doubled_later all c.rows.yielded r turn.0 turn.1 none;
    }
