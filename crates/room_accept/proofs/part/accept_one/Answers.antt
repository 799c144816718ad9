use Rattle.std.proofs.Common.{◌≡◌, ℕ, List, Option, [], ◌∷◌, ◌++◌, true, false, cond, Some, None, Ok, Err, option_map, sym, ap, subst, ◌∙◌}
use Rattle.std.specs.Option.{option_copied}
use Rattle.std.specs.Prelude.{IfOk, MatchOption}
use Rattle.rooms_val.specs.Data.{Data}
use Rattle.rooms_val.specs.declared.val.Val.{Val}
use Rattle.rooms_val.specs.Maps.{AreRising, value_at}
use Rattle.rooms_val.specs.View.{data_of}
use Rattle.rooms_val.proofs.DataLemmas.{rising_pairs}
use Rattle.field_ops.specs.Patched.{raw}
use Rattle.field_ops.specs.View.{maybe_data}
use Rattle.field_ops.specs.ViewRecordOps.{change_of}
use Rattle.schema_core.specs.SchemaOf.{schema_tree}
use Rattle.room_model.specs.Accepting.{tried_op}
use Rattle.room_schemas.specs.Decided.{decided}
use Rattle.room_accept.specs.Parts.{IsPart, IsStanding, is_taken_in, with_tried}
use Rattle.room_accept.proofs.AdmittedLemmas.{standing_at}
use Rattle.room_accept.specs.Plans.{plan_of}
use Rattle.room_accept.specs.Sizes.{size_after}
use Rattle.room_accept.specs.declared.size.DocumentSize.{DocumentSize}
use Rattle.room_accept.proofs.PartLemmas.{part_pushed, rising-other}
use Rattle.room_accept.proofs.part.accept_one.Goals as goal

pub with_later_op-requires : goal.with_later_op-requires
with_later_op-requires c = rising-other c.args.part.diff c.args.id.now (change_of c.args.op.now) (change_of c.in_ok-op.op) [] c.requires.later

pub left_by-requires : goal.left_by-requires
left_by-requires c =
    let s = schema_tree c.args.schema.now in
    let m = c.args.records.now.0 in
    let found : maybe_data (option_copied c.get-before.result) ≡ value_at m c.args.id.now =
    elim c.get-before.result as (λ o. option_map (λ v. data_of v.now) o ≡ value_at m c.as_str.result.now → maybe_data (option_copied o) ≡ value_at m c.args.id.now) [
      | None ↦ λ is. is ∙ ap (value_at m) c.as_str.ensures.bytes
      | Some v ↦ λ is. is ∙ ap (value_at m) c.as_str.ensures.bytes
    ] c.get-before.ensures.found in
    subst (λ k. IsStanding s k (maybe_data (option_copied c.get-before.result))) (sym c.as_str-2.ensures.bytes) (standing_at s m c.requires.admitted c.args.id.now _ found)

pub returns-in-Some : goal.returns-in-Some
returns-in-Some c =
    let s = schema_tree c.args.schema.now in
    let m = c.args.records.now.0 in
    let part = c.args.part in
    let id = c.args.id.now in
    let op = change_of c.in_ok-op.op in
    let r = maybe_data (option_copied c.get-before.result) in
    let found : r ≡ value_at m id =
    elim c.get-before.result as (λ o. option_map (λ v. data_of v.now) o ≡ value_at m c.as_str.result.now → maybe_data (option_copied o) ≡ value_at m id) [
      | None ↦ λ is. is ∙ ap (value_at m) c.as_str.ensures.bytes
      | Some v ↦ λ is. is ∙ ap (value_at m) c.as_str.ensures.bytes
    ] c.get-before.ensures.found in
    let tries : op ≡ tried_op (decided s) (plan_of c.args.plan.now) (change_of c.args.op.now) (value_at m id) = c.in_ok-op.ensures ∙ ap (tried_op (decided s) (plan_of c.args.plan.now) (change_of c.args.op.now)) found in
    let key = c.as_str-2.result.now in
    let claim : List ℕ → Option Data → Option Val × DocumentSize → Type 0 = λ k v l. (is_taken_in s part.size k op v ≡ true) × (maybe_data l.0 ≡ raw op v) × (l.1 ≡ size_after part.size v (raw op v)) in
    let judged = subst (λ v. claim id v c.in-Some.left) found (subst (λ k. claim k r c.in-Some.left) c.as_str-2.ensures.bytes
    (subst (λ o. MatchOption o (is_taken_in s part.size key op r ≡ false) (claim key r)) c.in-Some.is c.in_ok-left.ensures)) in
    let later = rising-other part.diff id (change_of c.args.op.now) op [] c.requires.later in
    let wanted = with_tried s part.size part.diff id (tried_op (decided s) (plan_of c.args.plan.now) (change_of c.args.op.now) (value_at m id)) (value_at m id) in
    let pushed : part.diff ++ (id, op) ∷ [] ≡ wanted = sym (ap (λ b. cond b (part.diff ++ (id, op) ∷ []) part.diff) judged.0) ∙ ap (λ o. with_tried s part.size part.diff id o (value_at m id)) tries in
    elim c.with_later_op.result as (λ x. IfOk x (λ n. n.diff ≡ part.diff ++ (id, op) ∷ []) → IfOk x (λ n. n.after.items ≡ part.after.items ++ (id, c.in-Some.left.0) ∷ []) → IfOk x (λ n. n.size ≡ c.in-Some.left.1)
    → record { diff : IfOk x (λ n. n.diff ≡ wanted); part : IfOk x (IsPart s m); sound : IfOk x (λ _. AreRising m) }) [
      | Ok next ↦ λ diff after size. record {
        diff = diff ∙ pushed;
        part = part_pushed s m part next id op c.in-Some.left.0 (rising_pairs m c.get-before.ensures.sound) c.requires.part c.requires.document later judged.0 judged.1 diff after (size ∙ judged.2);
        sound = rising_pairs m c.get-before.ensures.sound;
      }
      | Err e ↦ λ diff after size. record { diff = tt; part = tt; sound = tt }
    ] c.with_later_op.ensures.diff c.with_later_op.ensures.after c.with_later_op.ensures.size

pub returns-in-None : goal.returns-in-None
returns-in-None c =
    let s = schema_tree c.args.schema.now in
    let m = c.args.records.now.0 in
    let part = c.args.part in
    let id = c.args.id.now in
    let op = change_of c.in_ok-op.op in
    let r = maybe_data (option_copied c.get-before.result) in
    let found : r ≡ value_at m id =
    elim c.get-before.result as (λ o. option_map (λ v. data_of v.now) o ≡ value_at m c.as_str.result.now → maybe_data (option_copied o) ≡ value_at m id) [
      | None ↦ λ is. is ∙ ap (value_at m) c.as_str.ensures.bytes
      | Some v ↦ λ is. is ∙ ap (value_at m) c.as_str.ensures.bytes
    ] c.get-before.ensures.found in
    let tries : op ≡ tried_op (decided s) (plan_of c.args.plan.now) (change_of c.args.op.now) (value_at m id) = c.in_ok-op.ensures ∙ ap (tried_op (decided s) (plan_of c.args.plan.now) (change_of c.args.op.now)) found in
    let key = c.as_str-2.result.now in
    let refused = subst (λ v. is_taken_in s part.size id op v ≡ false) found (subst (λ k. is_taken_in s part.size k op r ≡ false) c.as_str-2.ensures.bytes
    (subst (λ o. MatchOption o (is_taken_in s part.size key op r ≡ false) (λ l. (is_taken_in s part.size key op r ≡ true) × (maybe_data l.0 ≡ raw op r) × (l.1 ≡ size_after part.size r (raw op r)))) c.in-None.is c.in_ok-left.ensures)) in
    record {
      diff = sym (ap (λ b. cond b (part.diff ++ (id, op) ∷ []) part.diff) refused) ∙ ap (λ o. with_tried s part.size part.diff id o (value_at m id)) tries;
      part = c.requires.part;
      sound = rising_pairs m c.get-before.ensures.sound;
    }
