use Rattle.std.proofs.Common.{◌≡◌, ap, sym, ◌∙◌, rules, w64, FitsSigned}
use Rattle.std.proofs.lemmas.Int.{to_z-of_z}
use Rattle.rooms_val.specs.View.{data_of}
use Rattle.shape_tree.specs.Queries.{ids_meeting}
use Rattle.field_index.specs.Index.{indexed, ids_equal, ids_greater}
use Rattle.field_index.proofs.IndexLemmas.{ids_equal_by_index, ids_greater_by_index}
use Rattle.store_query.proofs.asking.answer.Goals as goal

pub returns-then-eq : goal.returns-then-eq
returns-then-eq c = λ m holds.
    let type : c.args.index.now.type_name ≡ c.args.type_name.now = search rules in
    let field : c.args.index.now.field ≡ c.in-Eq.field = search rules in
    c.in_ok-equal-in-Eq.ensures
    ∙ ap (ids_equal (data_of c.in-Eq.value)) (holds ∙ (λ i. indexed (type i) (field i) m))
    ∙ sym (ids_equal_by_index c.args.type_name.now c.in-Eq.field m c.in-Eq.value)
    ∙ ap (ids_meeting m c.args.type_name.now) (sym c.in-Eq.is)

pub returns-then-eq-2 : goal.returns-then-eq-2
returns-then-eq-2 c = λ m holds.
    let type : c.args.index.now.type_name ≡ c.args.type_name.now = search rules in
    let field : c.args.index.now.field ≡ c.in-Gt.field = search rules in
    let fits : FitsSigned w64 c.in-Gt.number = search rules in
    c.in_ok-greater-in-Gt.ensures
    ∙ ap (λ z. ids_greater z c.args.index.now.values) (to_z-of_z w64 c.in-Gt.number fits)
    ∙ ap (ids_greater c.in-Gt.number) (holds ∙ (λ i. indexed (type i) (field i) m))
    ∙ sym (ids_greater_by_index c.args.type_name.now c.in-Gt.field m c.in-Gt.number)
    ∙ ap (ids_meeting m c.args.type_name.now) (sym c.in-Gt.is)
