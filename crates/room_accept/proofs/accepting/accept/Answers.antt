use Rattle.std.proofs.Common.{◌≡◌, ◌||◌, Bool, true, false, Some, sym, ap, ◌∙◌, rules, w64}
use Rattle.std.proofs.lemmas.Int.{to_z-of_z}
use mir.Val.{to_z, of_z}
use Rattle.field_ops.specs.ViewRecordOps.{maybe_change}
use Rattle.schema_core.specs.SchemaOf.{schema_tree}
use Rattle.room_model.specs.Accepting.{is_fit}
use Rattle.rooms_val.proofs.Truths.{and_left, and_right}
use Rattle.room_schemas.specs.Decided.{decided, is_presence}
use Rattle.room_accept.specs.Parts.{are_documents}
use Rattle.room_accept.specs.Pushes.{member_of, push_of}
use Rattle.room_accept.proofs.EntryLemmas.{taken_is, part_documents, entry_is}
use Rattle.room_accept.proofs.PartLemmas.{fit_documents}
use Rattle.room_accept.proofs.accepting.accept.Goals as goal

pub returns-then-not-branch-clause-taken : goal.returns-then-not-branch-clause-taken
returns-then-not-branch-clause-taken c =
    sym c.if-not-branch.true ∙ c.in_ok-is_taken.ensures
    ∙ taken_is (schema_tree c.args.schema.now) (member_of c.args.member) (push_of c.args.push) c.in_ok-id.id (maybe_change c.in_ok-own.own) c.in_ok-id.ensures c.in_ok-own.ensures

pub returns-clause-taken : goal.returns-clause-taken
returns-clause-taken c =
    sym c.if-not-branch.false ∙ c.in_ok-is_taken.ensures
    ∙ taken_is (schema_tree c.args.schema.now) (member_of c.args.member) (push_of c.args.push) c.in_ok-id.id (maybe_change c.in_ok-own.own) c.in_ok-id.ensures c.in_ok-own.ensures

is_fit_of : (readonly fits : Bool) → readonly || fits ≡ true → readonly ≡ false → fits ≡ true
is_fit_of true fits is not = absurd (cc)
is_fit_of false fits is not = is

pub document_part-requires-clause-documents : goal.document_part-requires-clause-documents
document_part-requires-clause-documents c not =
    let s = schema_tree c.args.schema.now in
    let push = push_of c.args.push in
    let member = member_of c.args.member in
    fit_documents s member.plan push.diff (is_fit_of member.readonly (is_fit (decided s) member.plan push.diff) (and_left _ _ (sym c.in_ok-is_taken.ensures ∙ c.if-not-branch.false)) not)

pub with_presence-requires-clause-documents : goal.with_presence-requires-clause-documents
with_presence-requires-clause-documents c =
    let s = schema_tree c.args.schema.now in
    let push = push_of c.args.push in
    let member = member_of c.args.member in
    ap (are_documents s) c.in_ok-part.ensures.diff
    ∙ part_documents s member c.args.records.now.0 push.diff (λ not.
    fit_documents s member.plan push.diff (is_fit_of member.readonly (is_fit (decided s) member.plan push.diff) (and_left _ _ (sym c.in_ok-is_taken.ensures ∙ c.if-not-branch.false)) not))

pub with_presence-requires-clause-presence : goal.with_presence-requires-clause-presence
with_presence-requires-clause-presence c = ap (is_presence (schema_tree c.args.schema.now)) c.in_ok-id.ensures ∙ c.requires.presence c.args.member.session

pub returns-clause-entry : goal.returns-clause-entry
returns-clause-entry c =
    let back : to_z w64 (of_z w64 c.args.push.client_clock) ≡ c.args.push.client_clock = search (rules, to_z-of_z) in
    ap (λ z. record { diff = c.in_ok-diff.field-0.diff; author = Some (record { session = c.args.member.session; client_clock = z; action = c.in_ok-action.action }) }) back
    ∙ entry_is (schema_tree c.args.schema.now) (member_of c.args.member) c.args.records.now.0 (push_of c.args.push) c.in_ok-id.id (maybe_change c.in_ok-own.own) c.in_ok-part.part.diff c.in_ok-diff.field-0.diff c.in_ok-action.action
    c.in_ok-id.ensures c.in_ok-own.ensures c.in_ok-part.ensures.diff c.in_ok-diff.ensures.diff c.in_ok-action.ensures

pub with_presence-requires-clause-own : goal.with_presence-requires-clause-own
with_presence-requires-clause-own c = and_right _ _ (sym c.in_ok-is_taken.ensures ∙ c.if-not-branch.false)
