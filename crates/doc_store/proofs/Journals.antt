-- What a journal tells after each of its changes.
use Rattle.std.proofs.Common.{◌≡◌, ℕ, suc, ◌+◌, ◌-◌, ◌<◌, ◌≤◌, List, [], ◌∷◌, ◌++◌, length, take, drop, get_or, map, reverse, Option, refl, sym, ap, subst, ◌∙◌, arith}
use Rattle.std.proofs.lemmas.List.{reverse-append, append-nil}
use Rattle.std.proofs.Math.Seq.{take-suc}
use Rattle.rooms_val.specs.Data.{Data, Pairs}
use Rattle.rooms_val.specs.Maps.{AreRising, value_at, with_key, set_at}
use Rattle.doc_store.specs.Begun.{outer}
use Rattle.doc_store.specs.Slots.{Slots, AreFull}
use Rattle.doc_store.proofs.SlotLaws.{set_same, set_back, is_there}
use Rattle.doc_store.specs.Journal.{Note, began, wrote, begun, IsUndoable, AreNoted, slots_before, forgotten, note_of, notes_of}
use Rattle.doc_store.proofs.Fullness.{none_noted}
use Rattle.doc_store.specs.declared.journal.Entry.{Entry}

pub begun-forgotten : (ns : List Note) (s : Slots) → begun (forgotten ns) s ≡ outer (begun ns s)
begun-forgotten [] s = refl
begun-forgotten (began ∷ ns) s = refl
begun-forgotten (wrote id before ∷ ns) s = begun-forgotten ns (set_at s id before)

pub undoable-forgotten : (ns : List Note) (s : Slots) → IsUndoable ns s → IsUndoable (forgotten ns) s
undoable-forgotten [] s h = h
undoable-forgotten (began ∷ ns) s h = h
undoable-forgotten (wrote id before ∷ ns) s h = (h.0, undoable-forgotten ns (set_at s id before) h.1)

map-append : (xs ys : List Entry) → map note_of (xs ++ ys) ≡ map note_of xs ++ map note_of ys
map-append [] ys = refl
map-append (x ∷ xs) ys = ap (λ rest. note_of x ∷ rest) (map-append xs ys)

pub notes_of-append : (xs ys : List Entry) → notes_of (xs ++ ys) ≡ notes_of ys ++ notes_of xs
notes_of-append xs ys = ap reverse (map-append xs ys) ∙ reverse-append (map note_of xs) (map note_of ys)

pub notes_of-push : (xs : List Entry) (x : Entry) → notes_of (xs ++ x ∷ []) ≡ note_of x ∷ notes_of xs
notes_of-push xs x = notes_of-append xs (x ∷ [])

-- where the newest beginning is found at place p, the notes around it are left
pub forgotten_at : (J : List Entry) (place p : ℕ) (x : Entry) → p ≡ place - 1 → 0 < place → place ≤ length J → x ≡ get_or J p x → note_of x ≡ began
    → forgotten (notes_of J) ≡ notes_of (drop place J) ++ forgotten (notes_of (take place J)) → notes_of (take p J ++ drop (p + 1) J) ≡ forgotten (notes_of J)
forgotten_at J place p x before some within here is later =
    let next : place ≡ suc p = omega arith in
    let same : place ≡ p + 1 = omega arith in
    let front : take place J ≡ take p J ++ x ∷ [] = ap (λ n. take n J) next ∙ take-suc J p x (omega arith) ∙ ap (λ y. take p J ++ y ∷ []) (sym here) in
    notes_of-append (take p J) (drop (p + 1) J)
    ∙ ap (λ n. notes_of (drop n J) ++ notes_of (take p J)) (sym same)
    ∙ ap (λ ns. notes_of (drop place J) ++ ns) (sym (ap (λ l. forgotten (notes_of l)) front ∙ ap forgotten (notes_of-push (take p J) x) ∙ ap (λ n. forgotten (n ∷ notes_of (take p J))) is))
    ∙ sym later

-- where there is none, the notes stay
pub forgotten_nowhere : (J : List Entry) (place : ℕ) → place ≡ 0 → forgotten (notes_of J) ≡ notes_of (drop place J) ++ forgotten (notes_of (take place J)) → notes_of J ≡ forgotten (notes_of J)
forgotten_nowhere J place none later = sym (later ∙ ap (λ n. notes_of (drop n J) ++ forgotten (notes_of (take n J))) none ∙ append-nil (notes_of J))

pub noted : (J K : List Entry) (e : Entry) (n : Note) → K ≡ J ++ e ∷ [] → note_of e ≡ n → notes_of K ≡ n ∷ notes_of J
noted J K e n is same = ap notes_of is ∙ notes_of-push J e ∙ ap (λ m. m ∷ notes_of J) same

-- a slot that was noted and then set, or left as it was where memory was refused
module _ (ns : List Note) (s : Slots) (id : List ℕ) (rising : AreRising s) where
  pub begun-write : (r : Option Data) → begun (wrote id (value_at s id) ∷ ns) (with_key s id r) ≡ begun ns s
  begun-write r = ap (begun ns) (set_back s id r rising)

  pub begun-unwritten : begun (wrote id (value_at s id) ∷ ns) s ≡ begun ns s
  begun-unwritten = ap (begun ns) (set_same s id rising)

  pub before-write : (r : Option Data) → slots_before (wrote id (value_at s id) ∷ ns) (with_key s id r) ≡ slots_before ns s
  before-write r = ap (slots_before ns) (set_back s id r rising)

  pub before-unwritten : slots_before (wrote id (value_at s id) ∷ ns) s ≡ slots_before ns s
  before-unwritten = ap (slots_before ns) (set_same s id rising)

  pub undoable-write : (r : Option Data) → IsUndoable ns s → IsUndoable (wrote id (value_at s id) ∷ ns) (with_key s id r)
  undoable-write r was = (λ _. is_there s id r, subst (IsUndoable ns) (sym (set_back s id r rising)) was)

  pub undoable-unwritten : IsUndoable ns s → IsUndoable (wrote id (value_at s id) ∷ ns) s
  undoable-unwritten was = (λ there. there, subst (IsUndoable ns) (sym (set_same s id rising)) was)

-- after the journal was tidied, where B is what had begun
pub tidied : (depth : ℕ) (J : List Entry) (s : Slots) (B : List Pairs) → depth ≡ length B → (depth ≡ 0 → J ≡ []) → (0 < depth → begun (notes_of J) s ≡ B) → begun (notes_of J) s ≡ B
tidied depth J s [] counted idle busy = ap (λ l. begun (notes_of l) s) (idle counted)
tidied depth J s (m ∷ B) counted idle busy = busy (omega arith)

pub length-outer : (B : List Pairs) → length (outer B) ≡ length B - 1
length-outer [] = refl
length-outer (m ∷ B) = omega arith

-- where the journal is empty, no slot is
pub full_left : (J : List Entry) (s : Slots) → length J ≡ 0 → AreNoted (notes_of J) s → AreFull s
full_left [] s none noted = none_noted s noted
full_left (e ∷ J) s none noted = absurd (omega arith)
