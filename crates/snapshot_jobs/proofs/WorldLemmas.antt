-- What becomes of a saved room that is brought to a schema.
use Rattle.std.proofs.Common.{◌≡◌, ◌≢◌, inl, inr, List, ℕ, Some, None, Option, Result, Ok, Err, sym, ap, subst, ◌∙◌}
use Rattle.fault_texts.specs.Texts.{plan_fault_text}
use Rattle.migrate_seq.specs.Versions.{Versions}
use Rattle.migrate_seq.specs.declared.fault.PlanFault.{PlanFault}
use Rattle.migrate_seq.specs.declared.fault.PlanFault.TheVariants as plan
use Rattle.room_model.specs.declared.saved.SavedRoom.{SavedRoom}
use Rattle.room_snapshot.specs.Ids.{HaveIds}
use Rattle.room_snapshot.specs.Raised.{raised}
use Rattle.room_snapshot.specs.Saved.{SavedTree, saved_tree, records_of}
use Rattle.schema_core.specs.Tree.{SchemaTree}
use Rattle.world_views.specs.declared.viewed.ViewedWorld.{ViewedWorld}
use Rattle.snapshot_jobs.specs.Restored.{IsRoomOf, IsWorldOf}
use Rattle.snapshot_jobs.specs.Restoring.{IsUnfit}

module _ (schema : SchemaTree) (saved : SavedTree) (held : Versions) (ids : HaveIds (records_of saved.documents)) where
  -- it was brought there, and a room begins from it or not
  pub made_of : (room : SavedRoom) (answer : Result ViewedWorld (List ℕ)) → raised schema.sequences held saved ≡ Ok (saved_tree room) → IsRoomOf schema room answer → IsWorldOf schema saved held answer
  made_of room (Ok code) is of = (room, (ids, is, of.0), of.1)
  made_of room (Err text) is of = inr (inr (room, of.0, ids, is, of.1, of.2))

  no_want : (fault : PlanFault) (text : List ℕ) → plan_fault_text fault ≡ Some text → fault ≢ plan.OutOfMemory
  no_want fault text told want = let none : plan_fault_text plan.OutOfMemory ≡ Some text = subst (λ f. plan_fault_text f ≡ Some text) want told in cc

  -- it can't be brought there
  pub unplanned : (fault : PlanFault) (text : List ℕ) → (fault ≢ plan.OutOfMemory → raised schema.sequences held saved ≡ Err fault) → plan_fault_text fault ≡ Some text → IsUnfit schema saved held text
  unplanned fault text is told = inr (inl (fault, ids, is (no_want fault text told), told))
