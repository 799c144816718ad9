-- What a room's schema decides is lawful, and so the entries of pushes act.
use Rattle.std.proofs.Common.{refl}
use Rattle.schema_core.specs.Tree.{SchemaTree}
use Rattle.room_model.specs.Schemas.{AreLawful}
use Rattle.room_schemas.specs.Decided.{decided}
use Rattle.room_schemas.proofs.ApartLemmas.{document_apart}
use Rattle.room_accept.specs.Suiting.{HasPresences}

pub lawful : (tree : SchemaTree) → HasPresences tree → AreLawful (decided tree)
lawful tree presences = record {
  apart = λ id. document_apart tree id;
  presence = presences;
  raises_nothing = λ d. refl;
  lowers_nothing = λ d. refl;
}
