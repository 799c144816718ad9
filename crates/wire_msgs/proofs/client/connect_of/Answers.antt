use Rattle.std.proofs.Common.{◌≡◌, ◌∙◌, ap, codes, arith}
use mir.Syntax.{w64}
use mir.Val.{to_z, of_z}
use Rattle.rooms_val.specs.Data.{whole, text}
use Rattle.wire_msgs.specs.Events.{typed}
use Rattle.rooms_val.proofs.FieldLemmas.{from_place, none_past}
use Rattle.std.proofs.lemmas.Grind.{common_steps}
use Rattle.rooms_val.specs.View.{field_of}
use Rattle.migrate_seq.specs.Versions.{schema_of}
use Rattle.rooms_val.proofs.RefusalLemmas.{refused_for, passed_on}
use Rattle.wire_msgs.proofs.client.connect_of.Goals as goal

pub returns-in_err-request-clause-refused : goal.returns-in_err-request-clause-refused
returns-in_err-request-clause-refused c = refused_for c.from_residual-in_err-request.result (λ request clock version schema is. c.in_err-request.ensures.only request (grind (arith, common_steps)))

pub returns-in_err-last_server_clock-clause-refused : goal.returns-in_err-last_server_clock-clause-refused
returns-in_err-last_server_clock-clause-refused c = refused_for c.from_residual-in_err-last_server_clock.result (λ request clock version schema is. c.in_err-last_server_clock.ensures.only clock (grind (arith, common_steps)))

pub returns-in_err-protocol_version-clause-refused : goal.returns-in_err-protocol_version-clause-refused
returns-in_err-protocol_version-clause-refused c = refused_for c.from_residual-in_err-protocol_version.result (λ request clock version schema is. c.in_err-protocol_version.ensures.only version (grind (arith, common_steps)))

pub returns-in_err-val_in-clause-refused : goal.returns-in_err-val_in-clause-refused
returns-in_err-val_in-clause-refused c = refused_for c.from_residual-in_err-val_in.result (λ request clock version schema is. c.in_err-val_in.ensures.only (schema_of schema) (grind (arith, common_steps)))

pub returns-in_err-schema-clause-refused : goal.returns-in_err-schema-clause-refused
returns-in_err-schema-clause-refused c =
    passed_on c.from_residual-in_err-schema.result c.in_err-schema.field-0.0 c.from_residual-in_err-schema.ensures.1 (λ none request clock version schema is. none schema (grind (arith, common_steps))) c.in_err-schema.ensures.refused

pub returns-clause-found : goal.returns-clause-found
returns-clause-found c =
    let es = c.args.entries.now in
    let request : field_of c.request-item.result ≡ (codes "connectRequestId", text c.in_ok-copy.field-0) = grind (arith, common_steps) in
    let clock : field_of c.clock-item.result ≡ (codes "lastServerClock", whole (to_z w64 (of_z w64 c.in_ok-last_server_clock.last_server_clock))) = grind (arith, common_steps) in
    let version : field_of c.version-item.result ≡ (codes "protocolVersion", whole (to_z w64 (of_z w64 c.in_ok-protocol_version.protocol_version))) = grind (arith, common_steps) in
    let schema : field_of c.schema-item.result ≡ (codes "schema", schema_of c.in_ok-schema.schema) = c.in_ok-val_in.ensures.found ∙ ap (λ d. (codes "schema", d)) c.in_ok-schema.ensures.found in
    let word : field_of c.word-item.result ≡ typed (codes "connect") = c.in_ok-check_type.ensures.found in (
      from_place es 0 _ _ _ (omega arith) c.request-item.is request
          (from_place es 1 _ _ _ (omega arith) c.clock-item.is clock
          (from_place es 2 _ _ _ (omega arith) c.version-item.is version
          (from_place es 3 _ _ _ (omega arith) c.schema-item.is schema
          (from_place es 4 _ _ _ (omega arith) c.word-item.is word
          (none_past es 5 (omega arith)))))),
      tt,
    )
