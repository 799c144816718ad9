-- For which base and pending items a replica stands.
use Rattle.std.specs.Prelude.{◌≡◌, ℕ, List, [], ◌∷◌, ◌++◌, map, Bool, Option, option_to_list}
use Rattle.rooms_val.specs.Data.{Data, Pairs}
use Rattle.rooms_val.specs.Maps.{AreRising}
use Rattle.field_ops.specs.RecordOps.{RecordOps}
use Rattle.schema_core.specs.Admits.{is_admitted, is_document}
use Rattle.schema_core.specs.Tree.{SchemaTree}
use Rattle.schema_core.specs.SchemaOf.{schema_tree}
use Rattle.doc_store.specs.Slots.{Slots}
use Rattle.doc_model.specs.Documents.{replay}
use Rattle.room_model.specs.Schemas.{records_with}
use Rattle.room_model.specs.Replicas.{Work, edit, presence, unsent, all_unsent}
use Rattle.room_model.specs.Taking as model
use Rattle.room_model.specs.Taking.{after_hydration}
use Rattle.sync_msgs.specs.declared.server_message.Hydration.{Hydration}
use Rattle.room_schemas.specs.Decided.{is_presence}
use Rattle.client_replica.specs.Works.{work_of, works_in, diffs_in}
use Rattle.client_replica.specs.Stashes.{IsStash, AreCounted}
use Rattle.client_replica.specs.declared.replica.Replica.{Replica}

-- a store's records, works, a stash and the presence of others make up a base and what is pending over it
pub record IsReplica (s : SchemaTree) (records : Pairs) (works : List Work) (stash : Slots) (others : Pairs) (replica : model.Replica) : Type 0 where
  -- the works are those of the pending items
  pub works_are : works ≡ works_in replica.pending
  -- the store has the base's document, with the pending edits replayed
  pub shown : records ≡ replay (is_admitted s) (records_with (is_document s) replica.base) (diffs_in works)
  -- the stash has what stood in that document under the ids that the edits name
  pub stash_is : IsStash (records_with (is_document s) replica.base) (diffs_in works) records stash
  -- the presence of others stands beside the store
  pub others_are : others ≡ records_with (is_presence s) replica.base
  -- the base's ids rise
  pub rising : AreRising replica.base

module _ {D : Type 0} where
  -- which records a replica admits
  abbrev pub admits_of : Replica D → List ℕ → Data → Bool
  admits_of r = is_admitted (schema_tree r.schema)

  -- which ids are the document's to it
  abbrev pub document_of : Replica D → List ℕ → Bool
  document_of r = is_document (schema_tree r.schema)

  -- which ids are a presence's to it
  abbrev pub presence_of : Replica D → List ℕ → Bool
  presence_of r = is_presence (schema_tree r.schema)

  -- a replica stands for a base and what is pending over it, where `records` says which records a store has: the replica's
  -- parts make these up, and the replica's counts say how many of the pending edits name each id
  abbrev pub Stands : (D → Pairs) → model.Replica → Replica D → Type 0
  Stands records replica r =
      IsReplica (schema_tree r.schema) (records r.store) (map work_of r.works.items) r.stash r.others replica
      × AreCounted (diffs_in (map work_of r.works.items)) r.names

-- a replica with a further work, which wasn't sent
abbrev pub with_work : Work → model.Replica → model.Replica
with_work work replica = record replica { pending = replica.pending ++ unsent work ∷ [] }

-- a replica that lost its room: the document and the edits stay, unsent; no presence does
abbrev pub alone : (List ℕ → Bool) → model.Replica → model.Replica
alone is_doc replica = record {
  base = records_with is_doc replica.base;
  pending = all_unsent (map edit (diffs_in (works_in replica.pending)));
}

-- a replica after a snapshot, with its own presence pending last, if there is one
abbrev pub after_snapshot : (List ℕ → Data → Bool) → (List ℕ → Bool) → Hydration → RecordOps → Option Data → model.Replica → model.Replica
after_snapshot admits is_doc hydration diff own replica = record {
  base = after_hydration admits is_doc replica.base hydration diff;
  pending = all_unsent (works_in replica.pending ++ map presence (option_to_list own));
}
