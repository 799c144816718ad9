-- What the tables decide is lawful, and goes by versions alone.
use Rattle.std.proofs.Common.{◌≡◌, ℕ, true, List, [], map, option_map, refl, sym, ap, subst, ◌∙◌}
use Rattle.std.specs.List.{list_all}
use Rattle.schema_core.specs.Admits.{is_admitted, is_document}
use Rattle.schema_core.specs.Builds.{by_name}
use Rattle.schema_core.specs.Tree.{SchemaTree, Types}
use Rattle.room_model.specs.Schemas.{WorldSchemas, AreLawfulTogether}
use Rattle.room_schemas.proofs.ApartLemmas.{document_apart}
use Rattle.shape_tree.specs.Records.{is_shape, is_binding}
use Rattle.side_effects.specs.Completed.{completed}
use Rattle.side_effects.proofs.CompletedLemmas.{completed_documents, completed_rises}
use Rattle.side_effects.specs.declared.fault.EditFault.{EditFault}
use Rattle.sync_client.specs.Presences.{presence_fault}
use Rattle.table_schemas.proofs.PresenceLemmas.{presences}
use Rattle.tl_tables.specs.Migrations.{sequences}
use Rattle.tl_tables.specs.Tables.{IsVersion, IsSchemaAt}
use Rattle.tl_tables.specs.Trees.{sequence_tree}
use Rattle.tl_tables.specs.Types.{type_rows}
use Rattle.peer_schemas.specs.Clients.{table_version, types_at, by_id, edit_fault_of, client_at, schemas_of, AreOfTables, IsDecidedBy}
use Rattle.peer_schemas.proofs.ByIdLemmas.{by_id-rising, rising-by_id}
use Rattle.peer_schemas.proofs.PlanLemmas.{same_types, newest}
use Rattle.peer_schemas.proofs.TypeLemmas.{same_document, shapes_of, bindings_of}
use Rattle.peer_schemas.proofs.VersionLemmas.{table_version-known}

-- shapes and bindings are the document's at each version
shapes_are : (n : ℕ) (id : List ℕ) → is_shape id ≡ true → is_document (types_at n) id ≡ true
shapes_are n id is = shapes_of (types_at n) (table_version n) refl id is

bindings_are : (n : ℕ) (id : List ℕ) → is_binding id ≡ true → is_document (types_at n) id ≡ true
bindings_are n id is = bindings_of (types_at n) (table_version n) refl id is

-- types with which nothing goes by migrations
abbrev alone : Types → SchemaTree
alone types = record { types = types; sequences = [] }

module _ (version : ℕ) (s : SchemaTree) (known : IsVersion version) (at : IsSchemaAt version s) where
  -- its types are those that are decided by
  types_are : s.types ≡ (types_at version).types
  types_are = at.types ∙ ap (λ n. by_name (type_rows n)) (sym (table_version-known version known))

  sequences_are : map sequence_tree s.sequences ≡ sequences (table_version version)
  sequences_are = at.sequences_are ∙ ap sequences (sym (table_version-known version known))

  pub decided_by : IsDecidedBy s (client_at version)
  decided_by = record {
    admits = ap (λ types. is_admitted (alone types)) (sym types_are);
    completes = λ document wanted rising.
        ap (completed (types_at version) document) (by_id-rising wanted rising)
        ∙ ap (λ types. completed (alone types) document wanted) (sym types_are);
    refuses = λ d. ap (λ types. option_map edit_fault_of (presence_fault (alone types) d)) (sym types_are);
    versions = newest s version sequences_are;
  }

  -- an id is the document's to the schema as to that of any version
  pub same_document_at : (n : ℕ) → is_document (types_at n) ≡ is_document s
  same_document_at n = same_document (types_at n) s (table_version n) version refl at.types

  lawful_of : AreLawfulTogether (schemas_of s)
  lawful_of = record {
    room = record {
      apart = λ id is. document_apart s id is;
      presence = presences version s at;
      raises_nothing = λ d. refl;
      lowers_nothing = λ d. refl;
    };
    same = λ n none id d. ap (λ types. is_admitted (alone types) id d) (same_types s version n sequences_are none ∙ sym types_are);
    completed = λ n document wanted diff is.
        ap (λ test. list_all (λ c. test c.0) diff) (sym (same_document_at n))
        ∙ completed_documents (types_at n) document (by_id wanted) diff is (shapes_are n) (bindings_are n);
    completed_rises = λ n document wanted diff is. completed_rises (types_at n) document (by_id wanted) diff is (rising-by_id wanted);
  }

-- what the tables decide is lawful
pub lawful : (schemas : WorldSchemas EditFault) → AreOfTables schemas → AreLawfulTogether schemas
lawful schemas of = subst AreLawfulTogether (sym of.are) (lawful_of of.version of.room of.known of.at)
