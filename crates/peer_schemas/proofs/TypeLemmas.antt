-- What goes by the types of a schema.
use Rattle.std.proofs.Common.{◌≡◌, ℕ, List, true, false, Option, None, Some, option_map, refl, sym, ap, ◌∙◌}
use Rattle.std.specs.Prelude.{bytes_eq, codes}
use Rattle.std.specs.Option.{option_and_then, option_map_or}
use Rattle.std.proofs.lemmas.Slice.Eq.{bytes_eq-Decides}
use Rattle.shape_tree.specs.Records.{is_id_of, is_shape, is_binding}
use Rattle.rooms_val.specs.Maps.{value_at, seen}
use Rattle.rooms_val.proofs.MapsLemmas.{at-seen}
use Rattle.record_valid.specs.Ids.{type_part}
use Rattle.schema_core.specs.Admits.{scope_of, is_of_document, is_document}
use Rattle.schema_core.specs.Builds.{by_name}
use Rattle.schema_core.specs.Tree.{SchemaTree, TypeTree, Types}
use Rattle.schema_core.specs.declared.row.Scope.{Scope}
use Rattle.schema_core.specs.declared.row.Scope.TheVariants.{Document}
use Rattle.room_schemas.specs.Decided.{is_presence, is_of_presence}
use Rattle.tl_tables.specs.Types.{document, page, shape, asset, binding, camera, instance, instance_presence, type_rows}

-- the scope of each type
abbrev scopes : Types → List (List ℕ × Scope)
scopes types = seen (λ (t : TypeTree). t.scope) types

-- it is the same at every version
same_scopes : (m n : ℕ) → scopes (by_name (type_rows m)) ≡ scopes (by_name (type_rows n))
unfolding type_rows document page shape asset binding camera instance instance_presence
same_scopes m n = refl

scope_by_scopes : (s : SchemaTree) (id : List ℕ) → scope_of s id ≡ option_and_then (value_at (scopes s.types)) (type_part id)
scope_by_scopes s id = elim (type_part id) as (λ o. option_map (λ (t : TypeTree). t.scope) (option_and_then (value_at s.types) o) ≡ option_and_then (value_at (scopes s.types)) o) [
  | None ↦ refl
  | Some name ↦ sym (at-seen (λ (t : TypeTree). t.scope) s.types name)
]

module _ (s t : SchemaTree) (m n : ℕ) (one : s.types ≡ by_name (type_rows m)) (other : t.types ≡ by_name (type_rows n)) where
  -- an id has one scope at every version
  pub same_scope : (id : List ℕ) → scope_of s id ≡ scope_of t id
  same_scope id =
      scope_by_scopes s id
      ∙ ap (λ types. option_and_then (value_at types) (type_part id)) (ap scopes one ∙ same_scopes m n ∙ sym (ap scopes other))
      ∙ sym (scope_by_scopes t id)

  pub same_document : is_document s ≡ is_document t
  same_document = λ i id. is_of_document (same_scope id i)

  pub same_presence : is_presence s ≡ is_presence t
  same_presence = λ i id. is_of_presence (same_scope id i)

-- what an id of a type is, where the type's scope is that of documents
document_by : (s : SchemaTree) (name id : List ℕ) (o : Option (List ℕ)) → value_at (scopes s.types) name ≡ Some Document → option_map_or (λ part. bytes_eq part name) o false ≡ true
    → is_of_document (option_and_then (value_at (scopes s.types)) o) ≡ true
document_by s name id None there is = absurd (let no : false ≡ true = is in (cc))
document_by s name id (Some part) there is = ap is_of_document (ap (value_at (scopes s.types)) ((bytes_eq-Decides part name).0 is) ∙ there)

module _ (s : SchemaTree) (n : ℕ) (are : s.types ≡ by_name (type_rows n)) where
  document_of : (name id : List ℕ) → value_at (scopes (by_name (type_rows n))) name ≡ Some Document → is_id_of name id ≡ true → is_document s id ≡ true
  document_of name id there is =
      ap is_of_document (scope_by_scopes s id)
      ∙ document_by s name id (type_part id) (ap (λ types. value_at (scopes types) name) are ∙ there) is

  pub shapes_of : (id : List ℕ) → is_shape id ≡ true → is_document s id ≡ true
  unfolding type_rows document page shape asset binding camera instance instance_presence
  shapes_of id is = document_of (codes "shape") id refl is

  pub bindings_of : (id : List ℕ) → is_binding id ≡ true → is_document s id ≡ true
  unfolding type_rows document page shape asset binding camera instance instance_presence
  bindings_of id is = document_of (codes "binding") id refl is
