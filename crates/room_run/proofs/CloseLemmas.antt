-- What who closes a room has noted of those that were handed in.
use Rattle.std.proofs.Common.{◌≡◌, ℕ, zero, suc, List, [], ◌∷◌, ◌++◌, map, length, arith, Option, Some, None, refl, sym, ap, ◌∙◌, subst}
use Rattle.std.proofs.lemmas.List.{map-append}
use Rattle.std.specs.Prelude.{slice_get}
use mathlib.Core.Option.{some}
use lib.ListN.{get_elem?}
use Rattle.room_events.specs.Events.{events_of, number_of}
use Rattle.room_events.specs.declared.room_event.RoomEvent.{RoomEvent}
use Rattle.room_run.specs.Passes.{view_of_gone, EndsBy, AllEndBy}
use Rattle.room_run.specs.Rule.{Fits, AreApart}
use Rattle.room_run.specs.Steps.{note_of}
use Rattle.room_run.specs.declared.passes.Gone.{Gone}
use Rattle.room_run.specs.declared.views.Note.{Note}

-- what is noted of a pass that is gone
abbrev pub note_of_gone : Gone → Note
note_of_gone gone = note_of (view_of_gone gone)

noted_at : (gones : List Gone) (k : ℕ) (gone : Gone) → slice_get gones k ≡ Some gone → get_elem? (map note_of_gone gones) k ≡ some (note_of_gone gone)
noted_at [] k gone e = absurd (cc)
noted_at (x ∷ gones) zero gone e = let same : x ≡ gone = cc in ap (λ g. some (note_of_gone g)) same
noted_at (x ∷ gones) (suc k) gone e = noted_at gones k gone e

-- the notes fit the pen, so it ends by all
pub all_end : (pen seen : List RoomEvent) (notes : List Note) (gones : List Gone) → seen ≡ pen → notes ≡ map note_of_gone gones
    → ((i : ℕ) (note : Note) → get_elem? notes i ≡ some note → Fits seen note.seen note.mine) → AreApart notes → AllEndBy pen gones
all_end pen seen notes gones same are fits apart =
    let at : (k : ℕ) (gone : Gone) → slice_get gones k ≡ Some gone → get_elem? notes k ≡ some (note_of_gone gone) =
    λ k gone e. ap (λ l. get_elem? l k) are ∙ noted_at gones k gone e in record {
      each = λ k gone e. let f = subst (λ l. Fits l (note_of_gone gone).seen (note_of_gone gone).mine) same (fits k (note_of_gone gone) (at k gone e)) in record {
        begins = f.begins;
        own = λ n is. f.own n (gone.number ∙ is);
      };
      apart = λ i j n x y ex ey nx ny. apart i j n (note_of_gone x) (note_of_gone y) (at i x ex) (at j y ey) (x.number ∙ nx) (y.number ∙ ny);
    }

pub none_left : (gones : List Gone) → length gones ≡ 0 → gones ≡ []
none_left [] none = refl
none_left (gone ∷ gones) none = absurd (omega arith)

pub noted_one_more : (gones : List Gone) (gone : Gone) → map note_of_gone (gones ++ gone ∷ []) ≡ map note_of_gone gones ++ note_of_gone gone ∷ []
noted_one_more gones gone = map-append note_of_gone gones (gone ∷ [])
