-- That all views fit the pen, once one of them changes, comes, or is noted by another.
use Rattle.std.proofs.Common.{◌≡◌, ◌≢◌, ◌⊎◌, ℕ, Bool, true, false, List, [], ◌∷◌, ◌++◌, length, set, Option, Some, None, refl, sym, ap, ◌∙◌, subst, inl, inr, ⊎_elim, append-nil}
use mathlib.Core.List.{IsPrefix}
use mathlib.Core.Option.{some, some-ne-none}
use lib.ListN.{get_elem?}
use Rattle.atomic_table.proofs.Lists.{at_set}
use Rattle.room_events.specs.Events.{session_of, events_of, number_of}
use Rattle.room_events.specs.declared.room_event.RoomEvent.{RoomEvent}
use Rattle.room_run.specs.Openings.{Opening}
use Rattle.room_run.specs.Rule.{newcomer, Fits, IsNoted, AreApart, AllFit}
use Rattle.room_run.specs.Steps.{seeing, note_of, noted, spent}
use Rattle.room_run.specs.Turn.{IsOwn}
use Rattle.room_run.specs.declared.views.Note.{Note}
use Rattle.room_run.specs.declared.views.View.{View}
use Rattle.room_run.proofs.PlaceLemmas.{each, at_push, each_push, prefix_all, prefix_push}
use Rattle.room_run.proofs.EventLemmas.{not_empty, same_events, other_events, number_own, the_number}

-- a view stood at a place with these events and notes
record Was (views : List View) (k : ℕ) (x : View) : Type 0 where
  before : View
  at : get_elem? views k ≡ some before
  mine : before.mine ≡ x.mine
  notes : before.notes ≡ x.notes

fits_new : (pen : List RoomEvent) → Fits pen [] []
fits_new pen = record { begins = prefix_all pen; own = λ n is. absurd (not_empty [] n is refl) }

no_note : (note : Note) (i : ℕ) → get_elem? [] i ≡ some note → ⊥
no_note note i e = some-ne-none note (sym e)

module _ (pen : List RoomEvent) (views : List View) (all : AllFit pen views) where
  -- a new seat comes
  pub comes : (opening : Opening) → AllFit pen (views ++ newcomer opening ∷ [])
  comes opening =
      let first : View = newcomer opening in
      let had : (k n : ℕ) (x : View) → get_elem? (views ++ first ∷ []) k ≡ some x → number_of x.mine ≡ Some n → get_elem? views k ≡ some x =
      λ k n x e is. ⊎_elim (λ h. h) (λ (t : (k ≡ length views) × (first ≡ x)). absurd (not_empty x.mine n is (ap (λ v. v.mine) (sym t.1)))) (at_push views first x k e) in record {
        fits = each_push (λ k u. Fits pen u.seen u.mine) views first all.fits (λ k. fits_new pen);
        apart = λ j k n x y ex ey nx ny. all.apart j k n x y (had j n x ex nx) (had k n y ey ny) nx ny;
        noted = each_push (λ k u. (i : ℕ) (note : Note) → get_elem? u.notes i ≡ some note → IsNoted pen (views ++ first ∷ []) note) views first
            (λ k u e i note ei. let old = all.noted k u e i note ei in record { fits = old.fits; is_over = λ n is j y ey same. old.is_over n is j y (had j n y ey same) same })
            (λ k i note ei. absurd (no_note note i ei));
        notes_apart = each_push (λ k u. AreApart u.notes) views first all.notes_apart (λ k i j n x y ei ej nx ny. absurd (no_note x i ei));
      }

  module _ (id : ℕ) (v : View) (at : get_elem? views id ≡ some v) where
    -- a view takes the turn or gives it, and has seen some beginning of the pen
    pub changes : (turn : Bool) (seen : List RoomEvent) → IsPrefix seen pen → AllFit pen (set views id (seeing turn seen v))
    changes turn seen begins =
        let w : View = seeing turn seen v in
        let was : (k : ℕ) (x : View) → get_elem? (set views id w) k ≡ some x → Was views k x =
        each (Was views) views id w (λ k x _ e. record { before = x; at = e; mine = refl; notes = refl }) (record { before = v; at = at; mine = refl; notes = refl }) in record {
          fits = each (λ k u. Fits pen u.seen u.mine) views id w (λ k u _ e. all.fits k u e) (record { begins = begins; own = (all.fits id v at).own });
          apart = λ j k n x y ex ey nx ny. let a = was j x ex in let b = was k y ey in
              all.apart j k n a.before b.before a.at b.at (ap number_of a.mine ∙ nx) (ap number_of b.mine ∙ ny);
          noted = λ k x ex i note ei. let a = was k x ex in
              let old = all.noted k a.before a.at i note (subst (λ l. get_elem? l i ≡ some note) (sym a.notes) ei) in record {
                fits = old.fits;
                is_over = λ n is j y ey same. let b = was j y ey in old.is_over n is j b.before b.at (ap number_of b.mine ∙ same);
              };
          notes_apart = λ k x ex. let a = was k x ex in subst AreApart a.notes (all.notes_apart k a.before a.at);
        }

    module _ (e : RoomEvent) (own : IsOwn pen v.mine e) where
      abbrev more : List RoomEvent
      more = pen ++ e ∷ []

      abbrev after : View
      after = record { opening = v.opening; turn = v.turn; seen = pen ++ e ∷ []; mine = v.mine ++ e ∷ []; notes = v.notes }

      -- the event is of no other seat, and of no note
      foreign : (k n : ℕ) (u : View) → k ≢ id → get_elem? views k ≡ some u → number_of u.mine ≡ Some n → session_of e ≢ n
      foreign k n u other eu is same = ⊎_elim
          (λ (mine : number_of v.mine ≡ Some (session_of e)). other (all.apart k id n u v eu at is (mine ∙ ap Some same)))
          (λ (new : (v.mine ≡ []) × (events_of (session_of e) pen ≡ [])). not_empty u.mine n is (sym ((all.fits k u eu).own n is) ∙ subst (λ m. events_of m pen ≡ []) same new.1))
          own

      foreign_note : (n : ℕ) (note : Note) → IsNoted pen views note → number_of note.mine ≡ Some n → session_of e ≢ n
      foreign_note n note old is same = ⊎_elim
          (λ (mine : number_of v.mine ≡ Some (session_of e)). old.is_over n is id v at (mine ∙ ap Some same))
          (λ (new : (v.mine ≡ []) × (events_of (session_of e) pen ≡ [])). not_empty note.mine n is (sym (old.fits.own n is) ∙ subst (λ m. events_of m pen ≡ []) same new.1))
          own

      number_after : (n : ℕ) → number_of after.mine ≡ Some n → session_of e ≡ n
      number_after n is = the_number (session_of e) n (number_of after.mine) (number_own pen v.mine e own) is

      own_after : (n : ℕ) → number_of after.mine ≡ Some n → events_of n more ≡ after.mine
      own_after n is =
          let same : session_of e ≡ n = number_after n is in
          same_events n pen e same ∙ ap (λ l. l ++ e ∷ []) (⊎_elim
          (λ (mine : number_of v.mine ≡ Some (session_of e)). (all.fits id v at).own n (mine ∙ ap Some same))
          (λ (new : (v.mine ≡ []) × (events_of (session_of e) pen ≡ [])). subst (λ m. events_of m pen ≡ []) same new.1 ∙ sym new.0)
          own)

      still_fits : (seen mine : List RoomEvent) → Fits pen seen mine → ((n : ℕ) → number_of mine ≡ Some n → session_of e ≢ n) → Fits more seen mine
      still_fits seen mine old others = record {
        begins = prefix_push seen pen e old.begins;
        own = λ n is. other_events n pen e (others n is) ∙ old.own n is;
      }

      -- two views of one session stand at one place
      meets : (j k n : ℕ) (x y : View) → (j ≢ id) × (get_elem? views j ≡ some x) → get_elem? (set views id after) k ≡ some y → number_of x.mine ≡ Some n → number_of y.mine ≡ Some n → j ≡ k
      meets j k n x y t ey nx ny = ⊎_elim
          (λ (h : (k ≡ id) × (after ≡ y)). absurd (foreign j n x t.0 t.1 nx (number_after n (ap (λ (u : View). number_of u.mine) h.1 ∙ ny))))
          (λ (h : (k ≢ id) × (get_elem? views k ≡ some y)). all.apart j k n x y t.1 h.1 nx ny)
          (at_set views id k after y ey)

      meets_here : (j k n : ℕ) (x y : View) → (j ≡ id) × (after ≡ x) → get_elem? (set views id after) k ≡ some y → number_of x.mine ≡ Some n → number_of y.mine ≡ Some n → j ≡ k
      meets_here j k n x y t ey nx ny = ⊎_elim
          (λ (h : (k ≡ id) × (after ≡ y)). t.0 ∙ sym h.0)
          (λ (h : (k ≢ id) × (get_elem? views k ≡ some y)). absurd (foreign k n y h.0 h.1 ny (number_after n (ap (λ (u : View). number_of u.mine) t.1 ∙ nx))))
          (at_set views id k after y ey)

      still_noted : (note : Note) → IsNoted pen views note → IsNoted more (set views id after) note
      still_noted note old = record {
        fits = still_fits note.seen note.mine old.fits (λ n is. foreign_note n note old is);
        is_over = λ n is. each (λ k u. number_of u.mine ≢ Some n) views id after (λ k u _ eu. old.is_over n is k u eu)
            (λ same. foreign_note n note old is (number_after n same));
      }

      -- the seat appends an event
      pub adds : AllFit more (set views id after)
      adds = record {
        fits = each (λ k u. Fits more u.seen u.mine) views id after
            (λ k u other eu. still_fits u.seen u.mine (all.fits k u eu) (λ n is. foreign k n u other eu is))
            (record { begins = ([], append-nil more); own = own_after });
        apart = λ j k n x y ex ey nx ny. ⊎_elim
            (λ (t : (j ≡ id) × (after ≡ x)). meets_here j k n x y t ey nx ny)
            (λ (t : (j ≢ id) × (get_elem? views j ≡ some x)). meets j k n x y t ey nx ny)
            (at_set views id j after x ex);
        noted = each (λ k u. (i : ℕ) (note : Note) → get_elem? u.notes i ≡ some note → IsNoted more (set views id after) note) views id after
            (λ k u _ eu i note ei. still_noted note (all.noted k u eu i note ei))
            (λ i note ei. still_noted note (all.noted id v at i note ei));
        notes_apart = each (λ k u. AreApart u.notes) views id after (λ k u _ eu. all.notes_apart k u eu) (all.notes_apart id v at);
      }

    module _ (other : ℕ) (w : View) (differs : other ≢ id) (there : get_elem? views other ≡ some w) where
      abbrev noting : List View
      noting = set (set views id (noted v w)) other spent

      -- who has a number had it before, and isn't the one that was taken in
      record Had (k n : ℕ) : Type 0 where
        stays : k ≢ other
        before : View
        stood : get_elem? views k ≡ some before
        number : number_of before.mine ≡ Some n

      had : (k n : ℕ) (x : View) → get_elem? noting k ≡ some x → number_of x.mine ≡ Some n → Had k n
      had k n = each (λ k x. number_of x.mine ≡ Some n → Had k n) (set views id (noted v w)) other spent
          (λ k x stays ex. each (λ k x. k ≢ other → number_of x.mine ≡ Some n → Had k n) views id (noted v w)
          (λ k x _ e stays is. record { stays = stays; before = x; stood = e; number = is })
          (λ stays is. record { stays = stays; before = v; stood = at; number = is }) k x ex stays)
          (λ is. absurd (not_empty [] n is refl)) k

      over : (note : Note) → Fits pen note.seen note.mine
          → ((n : ℕ) → number_of note.mine ≡ Some n → (k : ℕ) (u : View) → k ≢ other → get_elem? views k ≡ some u → number_of u.mine ≢ Some n) → IsNoted pen noting note
      over note fits old = record {
        fits = fits;
        is_over = λ n is k y ey same. let h = had k n y ey same in old n is k h.before h.stays h.stood h.number;
      }

      noted_before : (note : Note) → IsNoted pen views note → IsNoted pen noting note
      noted_before note old = over note old.fits (λ n is k u _ eu. old.is_over n is k u eu)

      noted_now : IsNoted pen noting (note_of w)
      noted_now = over (note_of w) (all.fits other w there) (λ n is k u stays eu same. stays (all.apart k other n u w eu there same is))

      both_apart : AreApart (v.notes ++ note_of w ∷ [])
      both_apart i j n x y ei ej nx ny =
          let clash : (k : ℕ) (u : Note) → get_elem? v.notes k ≡ some u → number_of u.mine ≡ Some n → (note_of w).mine ≡ (note_of w).mine → number_of w.mine ≡ Some n → ⊥ =
          λ k u ek is _ new. (all.noted id v at k u ek).is_over n is other w there new in
          ⊎_elim
          (λ (a : get_elem? v.notes i ≡ some x). ⊎_elim
          (λ (b : get_elem? v.notes j ≡ some y). all.notes_apart id v at i j n x y a b nx ny)
          (λ (b : (j ≡ length v.notes) × (note_of w ≡ y)). absurd (clash i x a nx refl (ap (λ (u : Note). number_of u.mine) b.1 ∙ ny)))
          (at_push v.notes (note_of w) y j ej))
          (λ (a : (i ≡ length v.notes) × (note_of w ≡ x)). ⊎_elim
          (λ (b : get_elem? v.notes j ≡ some y). absurd (clash j y b ny refl (ap (λ (u : Note). number_of u.mine) a.1 ∙ nx)))
          (λ (b : (j ≡ length v.notes) × (note_of w ≡ y)). a.0 ∙ sym b.0)
          (at_push v.notes (note_of w) y j ej))
          (at_push v.notes (note_of w) x i ei)

      -- a view is noted by another, and its seat is as a new one
      pub takes_in : AllFit pen noting
      takes_in = record {
        fits = each (λ k u. Fits pen u.seen u.mine) (set views id (noted v w)) other spent
            (λ k u _ eu. each (λ k u. Fits pen u.seen u.mine) views id (noted v w) (λ k u _ e. all.fits k u e) (all.fits id v at) k u eu)
            (fits_new pen);
        apart = λ j k n x y ex ey nx ny. let a = had j n x ex nx in let b = had k n y ey ny in
            all.apart j k n a.before b.before a.stood b.stood a.number b.number;
        noted = each (λ k u. (i : ℕ) (note : Note) → get_elem? u.notes i ≡ some note → IsNoted pen noting note) (set views id (noted v w)) other spent
            (λ k u _ eu. each (λ k u. (i : ℕ) (note : Note) → get_elem? u.notes i ≡ some note → IsNoted pen noting note) views id (noted v w)
            (λ k u _ e i note ei. noted_before note (all.noted k u e i note ei))
            (λ i note ei. ⊎_elim
            (λ (h : get_elem? v.notes i ≡ some note). noted_before note (all.noted id v at i note h))
            (λ (h : (i ≡ length v.notes) × (note_of w ≡ note)). subst (IsNoted pen noting) h.1 noted_now)
            (at_push v.notes (note_of w) note i ei)) k u eu)
            (λ i note ei. absurd (no_note note i ei));
        notes_apart = each (λ k u. AreApart u.notes) (set views id (noted v w)) other spent
            (λ k u _ eu. each (λ k u. AreApart u.notes) views id (noted v w) (λ k u _ e. all.notes_apart k u e) both_apart k u eu)
            (λ i j n x y ei ej nx ny. absurd (no_note x i ei));
      }
