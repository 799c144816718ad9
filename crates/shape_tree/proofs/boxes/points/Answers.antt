use Rattle.std.proofs.Common.{Some, option_map, option_and_then, unwrap_or, sym, ap, ◌∙◌}
use Rattle.rooms_val.specs.Data.{list_of, no_items}
use Rattle.rooms_val.specs.Kinds.{as_items}
use Rattle.rooms_val.specs.View.{data_of}
use Rattle.rooms_val.specs.declared.val.Val.{Val}
use Rattle.rooms_val.proofs.DataLemmas.{list_of-items_of}
use Rattle.shape_tree.proofs.boxes.points.Goals as goal

pub returns-in-Some-List : goal.returns-in-Some-List
returns-in-Some-List c =
    c.as_slice.ensures.values
    ∙ sym (list_of-items_of c.in-Some-List.items)
    ∙ ap (λ o. list_of (unwrap_or (option_and_then as_items o) no_items))
    (ap (λ (v : Val). Some (data_of v)) (sym c.in-Some-List.field-0-is) ∙ ap (option_map (λ v. data_of v.now)) (sym c.in-Some-List.is) ∙ c.under.ensures)
