use Rattle.std.proofs.Common.{◌≡◌, Some, is_ok, sym, ap, ◌∙◌}
use Rattle.std.specs.Option.{option_copied}
use Rattle.rooms_val.specs.View.{data_of}
use Rattle.field_ops.specs.Patched.{raw}
use Rattle.field_ops.specs.RecordOps.{patch}
use Rattle.field_ops.specs.View.{maybe_data}
use Rattle.field_ops.specs.ViewRecordOps.{change_of}
use Rattle.schema_core.specs.Admits.{admission, is_admitted}
use Rattle.schema_core.specs.SchemaOf.{schema_tree}
use Rattle.schema_core.proofs.AdmitsLemmas.{law}
use Rattle.doc_model.specs.Documents.{acts_on}
use Rattle.room_accept.proofs.AdmittedLemmas.{standing_some}
use Rattle.rooms_val.proofs.Truths.{some_same}
use Rattle.room_accept.proofs.admitted.acts.Goals as goal

pub returns-in-Some-left : goal.returns-in-Some-left
returns-in-Some-left c =
    let s = schema_tree c.args.schema.now in
    let id = c.args.id.now in
    let d = data_of c.in-Some.stored.now in
    let op : change_of c.args.op.now ≡ patch c.in-Patch.diff = ap change_of c.in-Patch.is in
    let was : maybe_data (option_copied c.args.before) ≡ Some d = ap (λ o. maybe_data (option_copied o)) c.in-Some.is in
    let same = some_same _ _ (ap maybe_data (sym c.in-Some-left.is) ∙ c.requires.left ∙ λ i. raw (op i) (was i)) in
    let admitted = (law s id d).0 (standing_some s id _ d c.requires.admitted was) in
    c.is_ok.ensures.value ∙ ap is_ok (c.admits_patched.ensures d c.kind.ensures.sound admitted same)
    ∙ ap (λ e. is_ok (admission s id e)) same ∙ sym (λ i. acts_on (is_admitted s) id (op i) (was i))
