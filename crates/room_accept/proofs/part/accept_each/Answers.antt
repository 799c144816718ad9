use Rattle.std.proofs.Common.{◌≡◌, ◌+◌, ◌∷◌, ◌++◌, true, drop, sym, ap, subst, ◌∙◌, append-nil, arith}
use Rattle.std.proofs.lemmas.List.{drop_all}
use Rattle.rooms_val.specs.Maps.{AreRising, value_at, seen}
use Rattle.rooms_val.proofs.ListLemmas.{one_off}
use Rattle.field_ops.specs.ViewRecordOps.{change_of, changes_view}
use Rattle.doc_model.specs.Documents.{fold_raw}
use Rattle.field_ops.specs.View.{maybe_data}
use Rattle.schema_core.specs.Admits.{is_document}
use Rattle.schema_core.specs.SchemaOf.{schema_tree}
use Rattle.room_model.specs.Accepting.{accept_ops, tried_op}
use Rattle.rooms_val.proofs.Truths.{and_left, and_right}
use Rattle.room_schemas.specs.Decided.{decided}
use Rattle.room_accept.specs.Parts.{are_documents, with_tried}
use Rattle.room_accept.specs.Plans.{plan_of}
use Rattle.room_accept.specs.Sizes.{size_of}
use Rattle.room_accept.specs.Suiting.{AreAdmitted, each_changes, left_under}
use Rattle.room_accept.proofs.PartLemmas.{rising_up_to, none_before, going_on, rising_tried}
use Rattle.room_accept.proofs.part.accept_each.Goals as goal

pub ids-init : goal.ids-init
ids-init c =
    let s = schema_tree c.args.schema.now in
    let m = c.args.records.now.0 in
    let all = changes_view c.as_slice-id-items.result.now in
    let plan = plan_of c.args.plan.now in
    record {
      goes_on = ap (λ d. d ++ accept_ops (decided s) plan (fold_raw m d) all) c.new.ensures;
      part = record {
        after = ap (seen maybe_data) c.new-2.ensures.items ∙ ap (left_under m) (sym c.new.ensures);
        size = c.requires.size ∙ ap (λ d. size_of (is_document s) (fold_raw m d)) (sym c.new.ensures);
        changing = ap (each_changes m) c.new.ensures;
        admitted = subst (λ d. AreAdmitted s (fold_raw m d)) (sym c.new.ensures) c.requires.admitted;
        rising = subst AreRising (sym c.new.ensures) tt;
      };
      rising = subst (λ d. AreRising (d ++ all)) (sym c.new.ensures) (subst AreRising (sym c.as_slice-id-items.ensures.pairs) c.as_slice-id-items.ensures.sound.0);
      documents = ap (are_documents s) c.as_slice-id-items.ensures.pairs ∙ c.requires.documents;
    }

pub accept_one-requires : goal.accept_one-requires
accept_one-requires c =
    let s = schema_tree c.args.schema.now in
    let items = c.as_slice-id-items.result.now in
    let x = c.ids-item.result in
    let more = changes_view (drop (c.ids.id-index + 1) items) in
    let parts : changes_view (drop c.ids.id-index items) ≡ (x.0, change_of x.1) ∷ more = ap changes_view (one_off items c.ids.id-index x c.ids-test.true c.ids-item.is) in
    let documents : are_documents s ((x.0, change_of x.1) ∷ more) ≡ true = ap (are_documents s) (sym parts) ∙ c.ids.invariant.documents in
    let rising : AreRising (c.ids.part.diff ++ (x.0, change_of x.1) ∷ more) = subst (λ l. AreRising (c.ids.part.diff ++ l)) parts c.ids.invariant.rising in
    record {
      part = c.ids.invariant.part;
      admitted = c.requires.admitted;
      document = and_left _ _ documents;
      later = rising_up_to c.ids.part.diff (x.0, change_of x.1) more rising;
    }

pub ids-preserved : goal.ids-preserved
ids-preserved c =
    let s = schema_tree c.args.schema.now in
    let m = c.args.records.now.0 in
    let plan = plan_of c.args.plan.now in
    let items = c.as_slice-id-items.result.now in
    let part = c.ids.part.diff in
    let size = c.ids.part.size in
    let x = c.ids-item.result in
    let more = changes_view (drop (c.ids.id-index + 1) items) in
    let r = value_at m x.0 in
    let tries = tried_op (decided s) plan (change_of x.1) r in
    let parts : changes_view (drop c.ids.id-index items) ≡ (x.0, change_of x.1) ∷ more = ap changes_view (one_off items c.ids.id-index x c.ids-test.true c.ids-item.is) in
    let documents : are_documents s ((x.0, change_of x.1) ∷ more) ≡ true = ap (are_documents s) (sym parts) ∙ c.ids.invariant.documents in
    let rising : AreRising (part ++ (x.0, change_of x.1) ∷ more) = subst (λ l. AreRising (part ++ l)) parts c.ids.invariant.rising in
    let next : c.in_ok-part.part.diff ≡ with_tried s size part x.0 tries r = c.in_ok-part.ensures.diff in
    record {
      goes_on = ap (λ d. d ++ accept_ops (decided s) plan (fold_raw m d) more) next
          ∙ sym (going_on s m c.in_ok-part.ensures.sound part size c.ids.invariant.part.size x.0 (and_left _ _ documents) (none_before x.0 more part (change_of x.1) rising) plan (change_of x.1) more)
          ∙ ap (λ l. part ++ accept_ops (decided s) plan (fold_raw m part) l) (sym parts) ∙ c.ids.invariant.goes_on;
      part = c.in_ok-part.ensures.part;
      rising = subst (λ d. AreRising (d ++ more)) (sym next) (rising_tried s size part x.0 (change_of x.1) tries r more rising);
      documents = and_right _ _ documents;
    }

pub returns-clause-diff : goal.returns-clause-diff
returns-clause-diff c =
    let s = schema_tree c.args.schema.now in
    let m = c.args.records.now.0 in
    let plan = plan_of c.args.plan.now in
    let part = c.ids.part.diff in
    let items = c.as_slice-id-items.result.now in
    let none = drop_all c.ids.id-index items (omega arith) in
    sym (append-nil part) ∙ ap (λ l. part ++ accept_ops (decided s) plan (fold_raw m part) (changes_view l)) (sym none) ∙ c.ids.invariant.goes_on ∙ ap (accept_ops (decided s) plan m) c.as_slice-id-items.ensures.pairs

pub returns-clause-part : goal.returns-clause-part
returns-clause-part c = c.ids.invariant.part
