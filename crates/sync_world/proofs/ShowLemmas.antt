-- What clients and the room show, as values.
use Rattle.std.proofs.Common.{◌≡◌, ℕ, Some, slice_get, sym, ap, ◌∙◌}
use Rattle.rooms_val.specs.Data.{Pairs, map, members_of}
use Rattle.rooms_val.specs.View.{data_of, val_of}
use Rattle.rooms_val.specs.declared.val.Val.{Val}
use Rattle.rooms_val.specs.declared.val.Val.TheVariants as v
use Rattle.rooms_val.proofs.DataLemmas.{pairs_of-members_of, val_of-data_of}
use Rattle.doc_model.specs.Documents.{replay}
use Rattle.room_model.specs.Schemas.{WorldSchemas}
use Rattle.room_model.specs.Replicas.{Client, schema_of, pending_diffs, others}
use Rattle.room_model.specs.Worlds as model
use Rattle.room_model.specs.Worlds.{map_val, shown_in}
use Rattle.side_effects.specs.declared.fault.EditFault.{EditFault}
use Rattle.sync_peer.specs.Calls.{shown, others_shown}
use Rattle.world_laws.proofs.TakenLemmas.{has_parts}
use Rattle.sync_world.specs.States.{client_state}
use Rattle.sync_world.specs.Standing.{Keeps}
use Rattle.sync_world.specs.declared.live.Live.{Live}
use Rattle.sync_world.proofs.EventLemmas.{document_is}
use Rattle.peer_schemas.proofs.ClientLemmas.{lawful}

-- a value that stands for a map is that map
pub map_is : (x : Val) (m : Pairs) → data_of x ≡ map (members_of m) → x ≡ map_val m
map_is x m is = sym (val_of-data_of x) ∙ ap val_of is ∙ ap (λ pairs. v.Map pairs) (pairs_of-members_of m)

module _ (schemas : WorldSchemas EditFault) (w : model.World) (live : Live) (keeps : Keeps schemas w live) (n : ℕ) (c : Client) (at : slice_get w.clients n ≡ Some c) where
  -- a peer shows what its client shows
  pub shown_is : shown schemas (client_state schemas w.room.history c) ≡ shown_in schemas w c
  shown_is = ap (λ b. replay (schema_of schemas c).admits b (pending_diffs c)) (document_is schemas w live keeps n c at)

  -- and the same of others
  pub others_are : others_shown schemas (client_state schemas w.room.history c) ≡ others schemas w.room.history c
  others_are = (has_parts schemas (lawful schemas keeps.fits.tables) w n c keeps.reachable at).1
