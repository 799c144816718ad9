-- What changes of the stores of clients while one of these changes.
use Rattle.std.proofs.Common.{◌≡◌, ◌≢◌, ℕ, zero, suc, ◌<◌, List, [], ◌∷◌, length, get_or, map, slice_get, slice_set, Some, refl, sym, ap, subst, ◌∙◌, arith}
use Rattle.std.specs.Prelude.{vec_len}
use Rattle.std.specs.Vec.{with_item}
use Rattle.record_store.specs.Seen.{Seen, begun}
use Rattle.room_model.specs.Schemas.{WorldSchemas}
use Rattle.room_model.specs.Worlds as model
use Rattle.room_model.specs.Worlds.{with_client}
use Rattle.side_effects.specs.declared.fault.EditFault.{EditFault}
use Rattle.sync_client.specs.Calls.{ClientState}
use Rattle.sync_peer.specs.Standing as peer_of
use Rattle.sync_peer.specs.Viewing.{store_of, WatchAlike}
use Rattle.sync_peer.specs.declared.peer.Peer.{Peer}
use Rattle.world_laws.proofs.PushLemmas.{long-set}
use Rattle.sync_world.specs.Standing.{Fits, Stands}
use Rattle.sync_world.specs.Viewing.{stores_kept, stores_in, ChangesAt, ChangesOne}
use Rattle.sync_world.specs.declared.world.World.{World}
use Rattle.sync_world.specs.declared.live.Live.{Live}
use Rattle.sync_world.specs.declared.live.WorldClient.{WorldClient}
use Rattle.sync_world.proofs.ListLemmas.{got_item, set_again}
use Rattle.sync_world.proofs.PartLemmas.{client_there, client_is, fits_client}

-- the stores after one client is set
set_store : (kept : List WorldClient) (n : ℕ) (k : WorldClient) → stores_kept (slice_set kept n k) ≡ slice_set (stores_kept kept) n (store_of k.peer)
set_store [] n k = refl
set_store (x ∷ kept) zero k = refl
set_store (x ∷ kept) (suc n) k = ap (λ (ss : List Seen). store_of x.peer ∷ ss) (set_store kept n k)

pub long_stores : (kept : List WorldClient) → length (stores_kept kept) ≡ length kept
long_stores [] = refl
long_stores (k ∷ kept) = ap suc (long_stores kept)

pub store_there : (kept : List WorldClient) (n : ℕ) (k : WorldClient) → slice_get kept n ≡ Some k → slice_get (stores_kept kept) n ≡ Some (store_of k.peer)
store_there [] n k at = absurd (cc)
store_there (x ∷ kept) zero k at = let same : x ≡ k = cc in ap (λ (y : WorldClient). Some (store_of y.peer)) same
store_there (x ∷ kept) (suc n) k at = store_there kept n k at

-- where another is set, what stands elsewhere stays, and what is set stands there
set_apart : {X : Type 0} (xs : List X) (n k : ℕ) (y : X) → k ≢ n → slice_get (slice_set xs n y) k ≡ slice_get xs k
set_apart [] n k y apart = refl
set_apart (x ∷ xs) zero zero y apart = absurd (apart refl)
set_apart (x ∷ xs) zero (suc k) y apart = refl
set_apart (x ∷ xs) (suc n) zero y apart = refl
set_apart (x ∷ xs) (suc n) (suc k) y apart = set_apart xs n k y (λ e. apart (ap suc e))

set_there : {X : Type 0} (xs : List X) (n : ℕ) (x y : X) → slice_get xs n ≡ Some x → slice_get (slice_set xs n y) n ≡ Some y
set_there [] n x y at = absurd (cc)
set_there (z ∷ xs) zero x y at = refl
set_there (z ∷ xs) (suc n) x y at = set_there xs n x y at

-- one store is set in place of another that it is like
set_alike : (Alike : Seen → Seen → Type 0) (stores : List Seen) (n : ℕ) (s t : Seen) → slice_get stores n ≡ Some s → Alike s t → ChangesAt Alike n stores (slice_set stores n t)
set_alike Alike stores n s t at alike = record {
  long = long-set stores n t;
  others = λ k apart. set_apart stores n k t apart;
  alike = λ a b was is.
      let old : s ≡ a = let same : Some s ≡ Some a = sym at ∙ was in cc in
      let new : t ≡ b = let same : Some t ≡ Some b = sym (set_there stores n s t at) ∙ is in cc in
      subst (λ x. Alike x b) old (subst (Alike s) new alike);
}

-- where nothing changes, every store is alike
pub stays_one : (n : ℕ) (stores : List Seen) → ChangesOne n stores stores
stays_one n stores = record {
  long = refl;
  others = λ k apart. refl;
  alike = λ s t was is. let same : s ≡ t = let both : Some s ≡ Some t = sym was ∙ is in cc in subst (WatchAlike s) same (record { watches = refl; begun = refl });
}

module _ (live : Live) (at : ℕ) (one other : WorldClient) (less : at < vec_len live.clients) (value : one ≡ get_or live.clients.items at one) where
  pub is_at : slice_get live.clients.items at ≡ Some one
  is_at = let long = live.clients.ok.0 in got_item live.clients.items at one (omega arith) value

  -- a client changes, but its store doesn't
  pub same_stores : store_of other.peer ≡ store_of one.peer → stores_kept (slice_set live.clients.items at other) ≡ stores_in live
  same_stores same =
      set_store live.clients.items at other
      ∙ ap (λ s. slice_set (stores_in live) at s) same
      ∙ set_again (stores_in live) at (store_of one.peer) (store_there live.clients.items at one is_at)

  -- a client changes, and its store is still alike
  pub one_changes : (Alike : Seen → Seen → Type 0) → Alike (store_of one.peer) (store_of other.peer) → ChangesAt Alike at (stores_in live) (stores_kept (slice_set live.clients.items at other))
  one_changes Alike alike =
      subst (ChangesAt Alike at (stores_in live)) (sym (set_store live.clients.items at other))
      (set_alike Alike (stores_in live) at (store_of one.peer) (store_of other.peer) (store_there live.clients.items at one is_at) alike)

  -- what is then found is the new store
  pub set_has : (t : Seen) → slice_get (stores_kept (slice_set live.clients.items at other)) at ≡ Some t → store_of other.peer ≡ t
  set_has t there =
      let found = set_there (stores_in live) at (store_of one.peer) (store_of other.peer) (store_there live.clients.items at one is_at) in
      let both : Some (store_of other.peer) ≡ Some t = sym found ∙ ap (λ (ss : List Seen). slice_get ss at) (sym (set_store live.clients.items at other)) ∙ there in
      cc

  pub had : slice_get (stores_in live) at ≡ Some (store_of one.peer)
  had = store_there live.clients.items at one is_at

-- a world still stands for what it stood for where a peer does
pub still_stands : (schemas : WorldSchemas EditFault) (world : model.World) (code : World) (n : ℕ) (one : WorldClient) (peer : Peer)
    → n < vec_len code.live.clients → one ≡ get_or code.live.clients.items n one
    → ((state : ClientState) → peer_of.Stands schemas state one.peer → peer_of.Stands schemas state peer) → Stands schemas world code
    → Stands schemas world (record code { live = record code.live { clients = with_item code.live.clients n (record one { peer = peer }) } })
still_stands schemas world code n one peer less value also stands =
    let live = code.live in
    let new : Live = record live { clients = with_item live.clients n (record one { peer = peer }) } in
    let fits = stands.keeps.fits in
    let there = client_there schemas world live fits n less in
    let is = client_is schemas world live fits n there.0 one less there.1 value in
    let set = fits_client schemas world live fits n there.0 (record one { peer = peer }) new (record { peer = also _ is.peer; session = is.session; clip = is.clip }) refl refl refl in
    let same : with_client n there.0 world ≡ world = λ i. record world { clients = set_again world.clients n there.0 there.1 i } in
    record {
      going = stands.going;
      keeps = record { reachable = stands.keeps.reachable; fits = subst (λ w. Fits schemas w new) same set; given = stands.keeps.given };
      sound = stands.sound;
    }
