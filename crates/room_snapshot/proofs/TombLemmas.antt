-- Tombstones and the values that stand for them.
use Rattle.std.proofs.Common.{◌≡◌, ℕ, zero, suc, ◌+◌, ◌<◌, ℤ, pos, List, [], ◌∷◌, ◌++◌, fold, length, get_or, take, refl, sym, ap, subst, ◌∙◌, arith, T, append_assoc}
use Rattle.std.proofs.lemmas.List.{map-append, take_more, append-nil}
use Rattle.std.proofs.lemmas.List.Sums.{fold_push}
use Rattle.rooms_val.specs.Data.{Data, Pairs, null, whole}
use Rattle.rooms_val.specs.Maps.{AreRising, seen, with_key}
use Rattle.rooms_val.proofs.MapsLemmas.{put_last, rising_on, rising-seen, seen-with_key}
use Rattle.rooms_val.specs.View.{data_of, pairs_view, field_of}
use Rattle.rooms_val.specs.declared.val.Val.{Val}
use Rattle.room_snapshot.specs.Lines.{tombs_by_id}
use Rattle.room_snapshot.specs.Saved.{Tombs, tomb_view, tombs_view}
use Rattle.room_model.specs.declared.saved.SavedTomb.{SavedTomb}

abbrev with_tomb : Tombs → List ℕ × ℤ → Tombs
with_tomb m t = with_key m t.0 t.1

rising_after : (done ts : Tombs) → AreRising (done ++ ts) → fold with_tomb done ts ≡ done ++ ts
rising_after done [] rising = sym (append-nil done)
rising_after done (t ∷ ts) rising =
    ap (λ m. fold with_tomb m ts) (put_last done t.0 t.1 ts rising)
    ∙ rising_after (done ++ t ∷ []) ts (rising_on done t ts rising)
    ∙ append_assoc done (t ∷ []) ts

-- tombstones that rise by id are by id already
pub tombs_by_id-rising : (ts : Tombs) → AreRising ts → tombs_by_id ts ≡ ts
tombs_by_id-rising ts rising = rising_after [] ts rising

-- one tombstone more is set
pub tombs_set : (ts : List SavedTomb) (i : ℕ) (t : SavedTomb) (fields next : Pairs) → i < length ts → t ≡ get_or ts i t
    → fields ≡ seen whole (tombs_by_id (tombs_view (take i ts))) → next ≡ with_key fields t.id (whole t.clock)
    → next ≡ seen whole (tombs_by_id (tombs_view (take (i + 1) ts)))
tombs_set ts i t fields next within here so_far next_is =
    let before = tombs_view (take i ts) in
    next_is
    ∙ ap (λ fs. with_key fs t.id (whole t.clock)) so_far
    ∙ sym (seen-with_key whole (tombs_by_id before) t.id t.clock)
    ∙ ap (seen whole) (sym (fold_push with_tomb [] before (tomb_view t)))
    ∙ ap (λ us. seen whole (tombs_by_id us)) (sym (map-append tomb_view (take i ts) (t ∷ [])))
    ∙ ap (λ us. seen whole (tombs_by_id (tombs_view us))) (sym (take_more ts i t within ∙ ap (λ y. take i ts ++ y ∷ []) (sym here)))

-- one tombstone more of one field more
pub tombs_more : (es : List (List ℕ × Val)) (i : ℕ) (e : List ℕ × Val) (ts next : List SavedTomb) (t : SavedTomb) → i < length es → e ≡ get_or es i e
    → pairs_view (take i es) ≡ seen whole (tombs_view ts) → field_of e ≡ (t.id, whole t.clock) → next ≡ ts ++ t ∷ []
    → pairs_view (take (i + 1) es) ≡ seen whole (tombs_view next)
tombs_more es i e ts next t within here so_far is next_is =
    ap pairs_view (take_more es i e within ∙ ap (λ y. take i es ++ y ∷ []) (sym here))
    ∙ map-append field_of (take i es) (e ∷ [])
    ∙ (λ j. so_far j ++ is j ∷ [])
    ∙ sym (map-append (λ (u : List ℕ × ℤ). (u.0, whole u.1)) (tombs_view ts) (tomb_view t ∷ []))
    ∙ ap (seen whole) (sym (map-append tomb_view ts (t ∷ [])))
    ∙ ap (λ us. seen whole (tombs_view us)) (sym next_is)

abbrev first_of : Pairs → Data
first_of [] = null
first_of (p ∷ ps) = p.1

abbrev later_of : Pairs → Pairs
later_of [] = []
later_of (p ∷ ps) = ps

-- a map with a value that is no clock is that of no tombstones
pub no_tombs : (s : List (List ℕ × Val)) (i : ℕ) (x : List ℕ × Val) → i < length s → x ≡ get_or s i x → ((clock : ℤ) → ¬ (data_of x.1 ≡ whole clock))
    → (ts : Tombs) → ¬ (pairs_view s ≡ seen whole ts)
no_tombs [] i x within here none ts is = absurd (omega arith)
no_tombs (y ∷ s) i x within here none [] is = cc
no_tombs (y ∷ s) zero x within here none (t ∷ ts) is = none t.1 (ap (λ e. data_of e.1) here ∙ ap first_of is)
no_tombs (y ∷ s) (suc i) x within here none (t ∷ ts) is = no_tombs s i x (omega arith) here none ts (ap later_of is)

-- clocks under rising ids are those of rising tombstones
pub rising_tombs : (ps : Pairs) (ts : Tombs) → AreRising ps → ps ≡ seen whole ts → AreRising ts
rising_tombs ps ts rising is = subst T (rising-seen whole ts) (subst AreRising is rising)

abbrev clock_in : Data → ℤ
clock_in (whole z) = z
clock_in d = pos 0

clock_in-each : (ts : Tombs) → seen clock_in (seen whole ts) ≡ ts
clock_in-each [] = refl
clock_in-each (t ∷ ts) = ap (λ rest. t ∷ rest) (clock_in-each ts)

-- tombstones with the same values are the same
pub same_tombs : (a b : Tombs) → seen whole a ≡ seen whole b → a ≡ b
same_tombs a b is = sym (clock_in-each a) ∙ ap (seen clock_in) is ∙ clock_in-each b
