-- What holds of a room that begins from a saved one.
use Rattle.std.proofs.Common.{◌≡◌, ℕ, zero, suc, not, [], length, slice_get, Option, Some, None, is_some, sym, ap, ◌∙◌}
use Rattle.std.specs.Prelude.{count_by, slice_index_or}
use Rattle.slab.specs.Slab.{get}
use Rattle.room_messages.specs.Told.{HasOwnActions}
use Rattle.room_model.specs.Rooms as model
use Rattle.room_model.specs.Saves.{begun_to}
use Rattle.room_model.specs.Schemas.{Schemas}
use Rattle.room_model.specs.declared.saved.SavedRoom.{SavedRoom}
use Rattle.sync_room.specs.Sessions.{Holds}
use Rattle.sync_room.specs.declared.sessions.Sessions.{Sessions}

-- no entry has an author
pub begun_says : (schemas : Schemas) (saved : SavedRoom) (n : ℕ) → HasOwnActions schemas (begun_to saved n)
begun_says schemas saved zero = tt
begun_says schemas saved (suc n) = ((λ author by. let never = ap is_some by in absurd (cc)), begun_says schemas saved n)

-- a table without sessions has those of a room that nobody entered
pub holds_nobody : (state : model.Room) (table : Sessions) → state.sessions ≡ [] → table.present.slots ≡ [] → table.entered ≡ 0 → Holds state table
holds_nobody state table none empty entered =
    let nothing : (key : ℕ) → get table.present key ≡ None = λ key. ap (λ slots. slice_index_or slots key None) empty in
    record {
      entered = ap length none ∙ sym entered;
      here = λ key s at. absurd (no_one (nothing key) at);
      kept = λ key s at. absurd (no_one (nothing key) at);
      once = λ key other s t at also same. absurd (no_one (nothing key) at);
      there = λ number session at stays. absurd (no_one (ap (λ l. slice_get l number) none) at);
      count = ap (count_by is_some) empty ∙ sym (ap (count_by (λ (s : model.Session). not (model.has_left s.phase))) none);
    }
  where
    no_one : {X : Type 0} {o : Option X} {x : X} → o ≡ None → o ≡ Some x → ⊥
    no_one none some = let never = ap is_some (sym some ∙ none) in absurd (cc)
