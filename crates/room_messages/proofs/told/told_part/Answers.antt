use Rattle.std.proofs.Common.{◌≡◌, ℕ, ◌+◌, Bool, true, false, not, ◌&&◌, ◌||◌, List, [], ◌∷◌, ◌++◌, drop, Option, sym, ap, subst, ◌∙◌}
use Rattle.std.specs.Str.{bytes_eq}
use Rattle.rooms_val.specs.Maps.{seen, with_key}
use Rattle.rooms_val.proofs.ListLemmas.{one_off}
use Rattle.rooms_val.specs.declared.text.Text.{Text}
use Rattle.rooms_val.specs.declared.val.Val.{Val}
use Rattle.field_ops.specs.View.{maybe_data}
use Rattle.field_ops.specs.RecordOps.{RecordOps, IsSoundDiff}
use Rattle.field_ops.specs.ViewRecordOps.{change_of, changes_view}
use Rattle.schema_core.specs.SchemaOf.{schema_tree}
use Rattle.room_schemas.specs.Decided.{decided}
use Rattle.room_accept.specs.Pushes.{member_of}
use Rattle.room_messages.specs.Told.{is_in, is_told, told_part}
use Rattle.room_messages.proofs.ToldLemmas.{rising-part, told_further, not_told}
use Rattle.room_messages.proofs.told.told_part.Goals as goal
use Rattle.room_messages.proofs.told.told_part.Goals.{then-is_told+in_ok-op+in_ok-copy+in_ok-put, else-is_told}

pub ops-preserved : goal.ops-preserved
ops-preserved c =
    let schemas = decided (schema_tree c.args.schema.now) in
    let member = member_of c.args.member in
    let part = c.args.part in
    let ops = c.as_slice-ops.result.now in
    let named = c.args.recent.now.after.items in
    let x = c.index-ops-place.result in
    let f = c.in-Some.field-0.now in
    let more_ops = changes_view (drop (c.ops.place + 1) ops) in
    let more_named = seen maybe_data (drop (c.ops.place + 1) named) in
    let more = told_part schemas member part more_ops more_named in
    let parts = one_off ops c.ops.place x c.ops-test.true c.index-ops-place.is in
    let found = c.in-Some.ensures.lookup in
    let named_parts = subst (λ (xs : List (Text × Option Val)). drop c.ops.place xs ≡ f ∷ drop (c.ops.place + 1) xs) c.deref.ensures.value (one_off c.deref.result.now c.ops.place f found.3.0 found.1) in
    let rising = rising-part schemas member part (changes_view ops) (seen maybe_data named) (subst IsSoundDiff (sym c.as_slice-ops.ensures.pairs) c.as_slice-ops.ensures.sound).0 in
    let before = sym (λ i. c.ops.told ++ told_part schemas member part (changes_view (parts i)) (seen maybe_data (named_parts i))) ∙ c.ops.invariant in
    let test : is_told schemas member part x.0 ≡ c.is_told.result =
    sym (c.is_told.ensures ∙ ap (λ (own : List ℕ). not (bytes_eq x.0 own) && is_in schemas part x.0) c.requires) in
    let target = told_part schemas member part (changes_view ops) (seen maybe_data named) in
    elim c.if-is_told.branch [
      | then-is_told+in_ok-op+in_ok-copy+in_ok-put w ↦
          ap (λ (d : RecordOps). d ++ more) (w.told-is ∙ w.in_ok-put.ensures.ok ∙ (λ i. with_key c.ops.told (w.in_ok-copy.ensures i) (w.in_ok-op.ensures i)))
          ∙ told_further schemas member part target c.ops.told (x.0, change_of x.1) more_ops (f.0, maybe_data f.1) more_named rising before (test ∙ w.if-is_told.true)
      | else-is_told w ↦
          ap (λ (d : RecordOps). d ++ more) w.told-is
          ∙ not_told schemas member part target c.ops.told (x.0, change_of x.1) more_ops (f.0, maybe_data f.1) more_named rising before (test ∙ w.if-is_told.false)
    ]
