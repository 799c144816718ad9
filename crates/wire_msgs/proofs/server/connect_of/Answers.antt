use Rattle.std.proofs.Common.{◌≡◌, ◌∙◌, ap, codes, arith}
use mir.Syntax.{w64}
use mir.Val.{to_z, of_z}
use Rattle.rooms_val.specs.Data.{whole, text, boolean}
use Rattle.wire_msgs.specs.Events.{typed, IsClock}
use Rattle.wire_msgs.specs.Messages.{hydration_word}
use Rattle.rooms_val.proofs.FieldLemmas.{from_place, none_past}
use Rattle.std.proofs.lemmas.Grind.{common_steps}
use Rattle.rooms_val.specs.View.{field_of}
use Rattle.field_ops.specs.WireRecordOps.{diff_data}
use Rattle.migrate_seq.specs.Versions.{schema_of}
use Rattle.rooms_val.proofs.RefusalLemmas.{refused_for, passed_on}
use Rattle.wire_msgs.proofs.server.connect_of.Goals as goal

pub returns-in_err-request-clause-refused : goal.returns-in_err-request-clause-refused
returns-in_err-request-clause-refused c = refused_for c.from_residual-in_err-request.result (λ keeps request version schema diff clock readonly proper is. c.in_err-request.ensures.only request (grind (arith, common_steps)))

pub returns-in_err-hydration_type-clause-refused : goal.returns-in_err-hydration_type-clause-refused
returns-in_err-hydration_type-clause-refused c = refused_for c.from_residual-in_err-hydration_type.result (λ keeps request version schema diff clock readonly proper is. c.in_err-hydration_type.ensures.only keeps (grind (arith, common_steps)))

pub returns-in_err-is_readonly-clause-refused : goal.returns-in_err-is_readonly-clause-refused
returns-in_err-is_readonly-clause-refused c = refused_for c.from_residual-in_err-is_readonly.result (λ keeps request version schema diff clock readonly proper is. c.in_err-is_readonly.ensures.only readonly (grind (arith, common_steps)))

pub returns-in_err-protocol_version-clause-refused : goal.returns-in_err-protocol_version-clause-refused
returns-in_err-protocol_version-clause-refused c = refused_for c.from_residual-in_err-protocol_version.result (λ keeps request version schema diff clock readonly proper is. c.in_err-protocol_version.ensures.only version (grind (arith, common_steps)))

pub returns-in_err-server_clock-clause-refused : goal.returns-in_err-server_clock-clause-refused
returns-in_err-server_clock-clause-refused c = refused_for c.from_residual-in_err-server_clock.result (λ keeps request version schema diff clock readonly proper is. c.in_err-server_clock.ensures.only clock proper.1 (grind (arith, common_steps)))

pub returns-in_err-val_in-clause-refused : goal.returns-in_err-val_in-clause-refused
returns-in_err-val_in-clause-refused c = refused_for c.from_residual-in_err-val_in.result (λ keeps request version schema diff clock readonly proper is. c.in_err-val_in.ensures.only (schema_of schema) (grind (arith, common_steps)))

pub returns-in_err-schema-clause-refused : goal.returns-in_err-schema-clause-refused
returns-in_err-schema-clause-refused c =
    passed_on c.from_residual-in_err-schema.result c.in_err-schema.field-0.0 c.from_residual-in_err-schema.ensures.1 (λ none keeps request version schema diff clock readonly proper is. none schema (grind (arith, common_steps))) c.in_err-schema.ensures.refused

pub returns-in_err-val_in-2-clause-refused : goal.returns-in_err-val_in-2-clause-refused
returns-in_err-val_in-2-clause-refused c = refused_for c.from_residual-in_err-val_in-2.result (λ keeps request version schema diff clock readonly proper is. c.in_err-val_in-2.ensures.only (diff_data diff) (grind (arith, common_steps)))

pub returns-in_err-diff-clause-refused : goal.returns-in_err-diff-clause-refused
returns-in_err-diff-clause-refused c =
    passed_on c.from_residual-in_err-diff.result c.in_err-diff.field-0.0 c.from_residual-in_err-diff.ensures.1 (λ none keeps request version schema diff clock readonly proper is. none diff proper.0 (grind (arith, common_steps))) c.in_err-diff.ensures.refused

pub returns-clause-found : goal.returns-clause-found
returns-clause-found c =
    let es = c.args.entries.now in
    let request : field_of c.request-item.result ≡ (codes "connectRequestId", text c.in_ok-copy.field-0) = grind (arith, common_steps) in
    let diff : field_of c.diff-item.result ≡ (codes "diff", diff_data c.in_ok-diff.diff) = c.in_ok-val_in-2.ensures.found ∙ ap (λ d. (codes "diff", d)) c.in_ok-diff.ensures.found.0 in
    let keeps : field_of c.keeps-item.result ≡ (codes "hydrationType", text (hydration_word c.in_ok-hydration_type.hydration_type)) = c.in_ok-hydration_type.ensures.found in
    let readonly : field_of c.readonly-item.result ≡ (codes "isReadonly", boolean c.in_ok-is_readonly.is_readonly) = c.in_ok-is_readonly.ensures.found in
    let version : field_of c.version-item.result ≡ (codes "protocolVersion", whole (to_z w64 (of_z w64 c.in_ok-protocol_version.protocol_version))) = grind (arith, common_steps) in
    let schema : field_of c.schema-item.result ≡ (codes "schema", schema_of c.in_ok-schema.schema) = c.in_ok-val_in.ensures.found ∙ ap (λ d. (codes "schema", d)) c.in_ok-schema.ensures.found in
    let clock : field_of c.clock-item.result ≡ (codes "serverClock", whole (to_z w64 (of_z w64 c.in_ok-server_clock.server_clock))) = grind (arith, common_steps) in
    let from_0 : IsClock (to_z w64 (of_z w64 c.in_ok-server_clock.server_clock)) = grind (arith, common_steps) in
    let word : field_of c.word-item.result ≡ typed (codes "connect") = c.in_ok-check_type.ensures.found in (
      from_place es 0 _ _ _ (omega arith) c.request-item.is request
          (from_place es 1 _ _ _ (omega arith) c.diff-item.is diff
          (from_place es 2 _ _ _ (omega arith) c.keeps-item.is keeps
          (from_place es 3 _ _ _ (omega arith) c.readonly-item.is readonly
          (from_place es 4 _ _ _ (omega arith) c.version-item.is version
          (from_place es 5 _ _ _ (omega arith) c.schema-item.is schema
          (from_place es 6 _ _ _ (omega arith) c.clock-item.is clock
          (from_place es 7 _ _ _ (omega arith) c.word-item.is word
          (none_past es 8 (omega arith))))))))),
      (c.in_ok-diff.ensures.found.1, from_0),
    )
