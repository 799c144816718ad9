-- The presences of a room are those of the sessions in its table.
use Rattle.std.proofs.Common.{◌≡◌, ℕ, zero, suc, ◌<◌, Bool, true, false, ◌||◌, List, [], ◌∷◌, length, get_or, map, is_some, Contains, Some, refl, sym, ap, subst, ◌∙◌, arith}
use Rattle.slab.specs.Slab.{get, entries}
use Rattle.slab.proofs.SlabLemmas.{Contains-entries}
use Rattle.room_model.specs.Histories.{records_of}
use Rattle.room_model.specs.Reachable.{is_over}
use Rattle.room_model.specs.Rooms as model
use Rattle.room_model.specs.Schemas.{presence_id}
use Rattle.room_messages.specs.Present.{ArePresencesOf}
use Rattle.room_schemas.proofs.ApartLemmas.{presence_apart}
use Rattle.sync_room.specs.Standing.{Stands, tree_of}
use Rattle.sync_room.specs.declared.room.Room.{Room}
use Rattle.sync_room.specs.declared.session.Session.{Session}

-- what a list has is among what is made of each
mapped : {X Y : Type 0} (f : X → Y) (xs : List X) (k : ℕ) (x : X) → k < length xs → get_or xs k x ≡ x → Contains (map f xs) (f x)
mapped f [] k x less is = absurd (omega arith)
mapped f (y ∷ ys) zero x less is = (0, omega arith, ap f is)
mapped f (y ∷ ys) (suc k) x less is = let h = mapped f ys k x (omega arith) is in (suc h.0, let within = h.1 in omega arith, h.2)

-- a session that isn't over hasn't left
not_gone : (phase : model.Phase) → is_over phase ≡ false → model.has_left phase ≡ false
not_gone model.new is = refl
not_gone (model.asked request reached plan) is = refl
not_gone (model.live sent plan) is = refl
not_gone (model.ended reason told) is = refl
not_gone model.gone is = is

pub presences_of : (state : model.Room) (room : Room) (numbers : List ℕ) → Stands state room → numbers ≡ map (λ entry. entry.1.number) (entries room.sessions.present)
    → ArePresencesOf (tree_of room) numbers (records_of state.history)
presences_of state room numbers h are id presence there =
    let owner = h.presences id (presence_apart (tree_of room) id presence) there in
    let place = h.agrees.sessions.there owner.number owner.session owner.at (not_gone owner.session.phase owner.unended) in
    let among = (Contains-entries room.sessions.present place.0 place.1).1 place.2 in
    let number = mapped (λ (entry : ℕ × Session). entry.1.number) (entries room.sessions.present) among.0 (place.0, place.1) among.1 among.2 in
    let id_of = mapped presence_id (map (λ (entry : ℕ × Session). entry.1.number) (entries room.sessions.present)) number.0 place.1.number number.1 number.2 in
    let own : presence_id place.1.number ≡ id = ap presence_id place.3 ∙ sym owner.own in
    subst (λ ns. Contains (map presence_id ns) id) (sym are)
    (subst (Contains (map presence_id (map (λ (entry : ℕ × Session). entry.1.number) (entries room.sessions.present)))) own id_of)
