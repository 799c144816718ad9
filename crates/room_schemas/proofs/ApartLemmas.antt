-- Document and presence are apart.
use Rattle.std.proofs.Common.{◌≡◌, ℕ, List, [], ◌∷◌, Bool, true, false, cond, Option, None, Some, refl, ap, ◌∙◌}
use Rattle.std.specs.Prelude.{filter}
use Rattle.rooms_val.specs.Data.{Pairs}
use Rattle.schema_core.specs.Admits.{is_document, is_of_document, scope_of}
use Rattle.schema_core.specs.Tree.{SchemaTree}
use Rattle.schema_core.specs.declared.row.Scope.{Scope}
use Rattle.schema_core.specs.declared.row.Scope.TheVariants.{Document, Session, Presence}
use Rattle.room_model.specs.Schemas.{records_with}
use Rattle.room_schemas.specs.Decided.{is_presence, is_of_presence}

document_scope : (o : Option Scope) → is_of_document o ≡ true → is_of_presence o ≡ false
document_scope None is = refl
document_scope (Some Document) is = refl
document_scope (Some Session) is = refl
document_scope (Some Presence) is = absurd (cc)

presence_scope : (o : Option Scope) → is_of_presence o ≡ true → is_of_document o ≡ false
presence_scope None is = absurd (cc)
presence_scope (Some Document) is = absurd (cc)
presence_scope (Some Session) is = refl
presence_scope (Some Presence) is = refl

-- an id of the document is that of no presence
pub document_apart : (s : SchemaTree) (id : List ℕ) → is_document s id ≡ true → is_presence s id ≡ false
document_apart s id is = document_scope (scope_of s id) is

-- the id of a presence isn't the document's
pub presence_apart : (s : SchemaTree) (id : List ℕ) → is_presence s id ≡ true → is_document s id ≡ false
presence_apart s id is = presence_scope (scope_of s id) is

none_of : {X : Type 0} (b : Bool) (x : X) (xs : List X) (test : X → Bool) → (b ≡ true → test x ≡ false) → filter test xs ≡ [] → filter test (cond b (x ∷ xs) xs) ≡ []
none_of true x xs test apart none = ap (λ b. cond b (x ∷ filter test xs) (filter test xs)) (apart refl) ∙ none
none_of false x xs test apart none = none

-- the document has no presence
pub presence-document : (s : SchemaTree) (m : Pairs) → records_with (is_presence s) (records_with (is_document s) m) ≡ []
presence-document s [] = refl
presence-document s (p ∷ m) = none_of (is_document s p.0) p (records_with (is_document s) m) (λ p. is_presence s p.0) (document_apart s p.0) (presence-document s m)
