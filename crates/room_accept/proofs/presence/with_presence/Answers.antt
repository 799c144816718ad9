use Rattle.std.proofs.Common.{◌≡◌, ◌+◌, ◌≤◌, length, None, Ok, Err, sym, ap, subst, arith}
use Rattle.std.specs.Prelude.{IfOk, MatchOption}
use Rattle.rooms_val.specs.Maps.{with_key}
use Rattle.field_ops.specs.ViewRecordOps.{change_of, maybe_change}
use Rattle.room_accept.proofs.AdmittedLemmas.{own_standing}
use Rattle.doc_model.specs.Documents.{fold_raw}
use Rattle.schema_core.specs.SchemaOf.{schema_tree}
use Rattle.room_model.specs.Schemas.{records_with}
use Rattle.room_schemas.specs.Decided.{is_presence}
use Rattle.room_accept.specs.Parts.{IsPart, IsOwnLeft, own_part}
use Rattle.room_accept.proofs.PresenceLemmas.{presences_kept, one_more, rising_after, part_beside}
use Rattle.room_accept.proofs.presence.with_presence.Goals as goal

pub returns-in_default-clause-presences : goal.returns-in_default-clause-presences
returns-in_default-clause-presences c =
    omega (arith, ap length (presences_kept (schema_tree c.args.schema.now) c.args.records.now.0 c.args.part.diff c.requires.documents))

pub with_own_op-requires : goal.with_own_op-requires
with_own_op-requires c = rising_after (schema_tree c.args.schema.now) c.args.records.now.0 c.args.part c.requires.part

pub returns-in-Some-2-clause-part : goal.returns-in-Some-2-clause-part
returns-in-Some-2-clause-part c =
    let s = schema_tree c.args.schema.now in
    let m = c.args.records.now.0 in
    let part = c.args.part in
    let id = c.args.id in
    let op = change_of c.in-Some.op in
    let key = c.as_str.result.now in
    let own = subst (λ k. IsOwnLeft s m k op c.in-Some-2.left) c.as_str.ensures.bytes (subst (λ o. MatchOption o (own_part s m key op ≡ None) (IsOwnLeft s m key op)) c.in-Some-2.is c.in_ok-left.ensures) in
    let puts = own_standing s id _ op (ap maybe_change c.in-Some.is) c.requires.own in
    elim c.with_own_op.result as (λ x. IfOk x (λ n. n.diff ≡ with_key part.diff id op) → IfOk x (λ n. n.after.items ≡ with_key part.after.items id c.in-Some-2.left) → IfOk x (λ n. n.size ≡ part.size) → IfOk x (IsPart s m)) [
      | Ok all ↦ λ diff after size. part_beside s m part all id op c.in-Some-2.left own.rising c.requires.part c.requires.presence own.acting puts own.leaves diff after size
      | Err e ↦ λ diff after size. tt
    ] c.with_own_op.ensures.diff c.with_own_op.ensures.after c.with_own_op.ensures.size

pub returns-in-Some-2-clause-presences : goal.returns-in-Some-2-clause-presences
returns-in-Some-2-clause-presences c =
    let s = schema_tree c.args.schema.now in
    let m = c.args.records.now.0 in
    let part = c.args.part in
    let id = c.args.id in
    let op = change_of c.in-Some.op in
    let key = c.as_str.result.now in
    let own = subst (λ o. MatchOption o (own_part s m key op ≡ None) (IsOwnLeft s m key op)) c.in-Some-2.is c.in_ok-left.ensures in
    elim c.with_own_op.result as (λ x. IfOk x (λ n. n.diff ≡ with_key part.diff id op) → IfOk x (λ n. length (records_with (is_presence s) (fold_raw m n.diff)) ≤ length (records_with (is_presence s) m) + 1)) [
      | Ok all ↦ λ diff. subst (λ d. length (records_with (is_presence s) (fold_raw m d)) ≤ length (records_with (is_presence s) m) + 1) (sym diff) (one_more s m part.diff id op own.rising c.requires.part.rising c.requires.documents c.requires.presence)
      | Err e ↦ λ diff. tt
    ] c.with_own_op.ensures.diff

pub returns-in-None-clause-presences : goal.returns-in-None-clause-presences
returns-in-None-clause-presences c =
    omega (arith, ap length (presences_kept (schema_tree c.args.schema.now) c.args.records.now.0 c.args.part.diff c.requires.documents))
