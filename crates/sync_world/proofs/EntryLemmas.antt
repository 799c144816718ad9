-- What the entries of a history name, by their places.
use Rattle.std.proofs.Common.{◌≡◌, ℕ, zero, suc, true, List, [], ◌∷◌, slice_get, Some, ap, subst, ◌∙◌, sym}
use Rattle.room_model.specs.Schemas.{WorldSchemas}
use Rattle.room_model.specs.Histories.{History}
use Rattle.room_model.specs.Naming.{IsNamedBy, AllNamed}
use Rattle.room_model.specs.Rooms.{Session}
use Rattle.room_model.specs.declared.history.Author.{Author}
use Rattle.room_model.specs.declared.history.Entry.{Entry}
use Rattle.room_model.proofs.EntryLemmas.{reachable_names}
use Rattle.side_effects.specs.declared.fault.EditFault.{EditFault}
use Rattle.world_laws.proofs.DiffLemmas.{room_reached}
use Rattle.world_laws.proofs.PresenceLemmas.{reachable_removals}
use Rattle.sync_world.specs.Standing.{Stands}
use Rattle.sync_world.specs.Entries.{ReadonlyEditNothing, AuthorsNameTheirOwn, OthersRemovePresences}
use Rattle.sync_world.specs.declared.world.World.{World}
use Rattle.signal_txn.proofs.FromLemmas.{same_some}
use Rattle.peer_schemas.proofs.ClientLemmas.{lawful as lawful_of}

-- what is named by an entry at a place
named_at : (schemas : WorldSchemas EditFault) (sessions : List Session) (history : History) → AllNamed schemas.room sessions history → (at : ℕ) (entry : Entry) (author : Author)
    → slice_get history at ≡ Some entry → entry.author ≡ Some author → IsNamedBy schemas.room sessions author.session entry.diff
named_at schemas sessions [] all at entry author there by = absurd (cc)
named_at schemas sessions (first ∷ history) all zero entry author there by =
    let same = same_some first entry there in
    let P : Entry → Type 0 = λ e. e.author ≡ Some author → IsNamedBy schemas.room sessions author.session e.diff in
    subst P same (all.0 author) by
named_at schemas sessions (first ∷ history) all (suc at) entry author there by = named_at schemas sessions history all.1 at entry author there by

module _ (code : World) where
  pub readonly : ReadonlyEditNothing code
  readonly schemas w at entry author session stands there by entered only =
      let lawful = lawful_of schemas stands.keeps.fits.tables in
      let named = named_at schemas w.room.sessions w.room.history (reachable_names schemas.room lawful.room w.room (room_reached schemas lawful w stands.keeps.reachable)) at entry author there by in
      let same = same_some named.session session (sym named.entered ∙ entered) in
      named.readonly (ap (λ (s : Session). s.readonly) same ∙ only)

  pub authored : AuthorsNameTheirOwn code
  authored schemas w at entry author stands there by =
      let lawful = lawful_of schemas stands.keeps.fits.tables in
      (named_at schemas w.room.sessions w.room.history (reachable_names schemas.room lawful.room w.room (room_reached schemas lawful w stands.keeps.reachable)) at entry author there by).names

  pub unauthored : OthersRemovePresences code
  unauthored schemas w stands =
      let lawful = lawful_of schemas stands.keeps.fits.tables in
      reachable_removals schemas.room w.room (room_reached schemas lawful w stands.keeps.reachable)
