use Rattle.std.proofs.Common.{◌≡◌, Ok, Err, sym, subst}
use Rattle.schema_core.specs.SchemaOf.{schema_tree}
use Rattle.tl_tables.specs.Tables.{IsSchemaAt}
use Rattle.tl_tables.specs.declared.tables.TableFault.TheVariants.{NoSuchVersion}
use Rattle.schema_core.specs.declared.schema.Schema.{Schema}
use Rattle.peer_schemas.proofs.VersionLemmas.{is_version}
use Rattle.sync_peer.proofs.peer.Peer.new.Goals as goal

pub returns-clause-stands : goal.returns-clause-stands
returns-clause-stands c = λ schemas of. record {
  tables = of;
  known = is_version c.args.version (λ none. let never : Ok c.in_ok-schema.schema ≡ Err NoSuchVersion = c.in_ok-schema.ensures.unknown.1 none in absurd (cc));
  version = subst (λ (s : Schema). IsSchemaAt c.args.version (schema_tree s)) (sym c.new-2.ensures.schema) c.in_ok-schema.ensures.known;
  client = c.new-2.ensures.stands c.args.version;
  marks = c.new-3.ensures.stands;
}
