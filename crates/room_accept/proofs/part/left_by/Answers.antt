use Rattle.std.proofs.Common.{◌≡◌, Bool, ◌&&◌, true, Some, option_map, sym, ap, ◌∙◌}
use Rattle.std.specs.Option.{option_copied}
use Rattle.field_ops.specs.Patched.{raw}
use Rattle.field_ops.specs.View.{maybe_data}
use Rattle.field_ops.specs.ViewRecordOps.{change_of}
use Rattle.doc_model.specs.Documents.{acts_on, left_on}
use Rattle.room_model.specs.Accepting.{is_put_admitted}
use Rattle.schema_core.specs.Admits.{is_admitted}
use Rattle.schema_core.specs.SchemaOf.{schema_tree}
use Rattle.room_schemas.specs.Decided.{decided}
use Rattle.room_accept.specs.Sizes.{size_after, is_within}
use Rattle.room_accept.proofs.PartLemmas.{acted}
use Rattle.rooms_val.proofs.Truths.{and_false}
use Rattle.room_accept.proofs.SizeLemmas.{within_same, exact_within}
use Rattle.room_accept.proofs.part.left_by.Goals as goal

pub returns-then-not-is_within : goal.returns-then-not-is_within
returns-then-not-is_within c =
    let r = maybe_data (option_copied c.args.before) in
    let op = change_of c.args.op.now in
    let s = schema_tree c.args.schema.now in
    let left : Some (maybe_data c.in-Some.after) ≡ left_on (is_admitted s) c.args.id.now op r = ap (option_map maybe_data) (sym c.in-Some.is) ∙ c.in_ok-after.ensures in
    let leaves = (acted (is_admitted s) c.args.id.now op r c.in-Some.after left).1 in
    let size = size_after c.args.size r (maybe_data c.in-Some.after) in
    let rest : Bool = acts_on (is_admitted s) c.args.id.now op r && is_put_admitted (decided s) c.args.id.now op in
    ap (λ a. rest && is_within (size_after c.args.size r a)) (sym leaves)
    ∙ ap (λ b. rest && b) (sym (within_same size c.after-size.result c.after-size.ensures.count c.after-size.ensures.weight) ∙ sym c.is_within.ensures ∙ c.if-not-is_within.true)
    ∙ and_false rest

pub returns : goal.returns
returns c =
    let r = maybe_data (option_copied c.args.before) in
    let op = change_of c.args.op.now in
    let s = schema_tree c.args.schema.now in
    let left : Some (maybe_data c.in-Some.after) ≡ left_on (is_admitted s) c.args.id.now op r = ap (option_map maybe_data) (sym c.in-Some.is) ∙ c.in_ok-after.ensures in
    let did = acted (is_admitted s) c.args.id.now op r c.in-Some.after left in
    let size = size_after c.args.size r (maybe_data c.in-Some.after) in
    let fits : is_within c.after-size.result ≡ true = sym c.is_within.ensures ∙ c.if-not-is_within.false in
    let within : is_within (size_after c.args.size r (raw op r)) ≡ true =
    ap (λ a. is_within (size_after c.args.size r a)) (sym did.1) ∙ sym (within_same size c.after-size.result c.after-size.ensures.count c.after-size.ensures.weight) ∙ fits in (
      λ i. did.0 i && (sym c.is_put_admitted.ensures ∙ c.if-not-is_put_admitted.false) i && within i,
      did.1,
      exact_within size c.after-size.result c.after-size.ensures.count c.after-size.ensures.weight fits ∙ ap (size_after c.args.size r) did.1,
    )
