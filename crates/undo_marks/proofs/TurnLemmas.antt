-- To do operations in turn doesn't depend on which two are made one first, and an operation done twice is done once.
use Rattle.std.proofs.Common.{◌≡◌, ℕ, List, [], ◌∷◌, true, false, ◌||◌, cond, Option, Some, None, refl, sym, ap, subst, ◌∙◌}
use Rattle.std.specs.Prelude.{option_map, unwrap_or}
use Rattle.std.proofs.lemmas.Option.{same_Some}
use Rattle.rooms_val.specs.Data.{Data, IsSound}
use Rattle.rooms_val.specs.Kinds.{on_map}
use Rattle.rooms_val.specs.Maps.{value_at, AreRising, ties}
use Rattle.rooms_val.proofs.MapsLemmas.{same_pairs}
use Rattle.field_ops.specs.ValueOps.{ValueOpTree, put, patch, append, append_text, delete, ValueOpTrees, no_edits, edit_at, edits_of, patch_of, Patch, edit_has_append, edits_have_append, IsSoundEdit, AreSoundEdits, IsSoundPatch}
use Rattle.field_ops.specs.RecordOps as change
use Rattle.field_ops.specs.RecordOps.{RecordOpTree, RecordOps, has_append, IsSoundChange}
use Rattle.field_ops.specs.Patched.{patched}
use Rattle.field_ops.specs.Compose.{after, both, edit_after, in_turn}
use Rattle.field_ops.proofs.ComposeLemmas.{every, does_both, sound_raw, plain_at}
use Rattle.field_ops.proofs.PatchedLemmas.{at-both, rising-both}
use Rattle.field_ops.proofs.WireLemmas.{edits_of-patch_of}
use Rattle.field_ops.specs.WireRecordOps.{patch_of-edits_of}
use Rattle.field_ops.proofs.SoundLemmas.{sound_put}
use Rattle.doc_model.specs.Merging.{both_in_turn}

sound_at : (p : Patch) (k : List ℕ) (e : ValueOpTree) → AreSoundEdits (edits_of p) → value_at p k ≡ Some e → IsSoundEdit e
sound_at [] k e sound is = absurd (cc)
sound_at (d ∷ p) k e sound is = elim (ties k d.0) as (λ b. cond b (Some d.1) (value_at p k) ≡ Some e → IsSoundEdit e) [
  | true ↦ λ same. subst IsSoundEdit (same_Some _ _ same) sound.0
  | false ↦ λ later. sound_at p k e sound.1 later
] is

-- an operation without appends: whatever two it comes after, in turn, either two can be made one first
abbrev Turns : ValueOpTree → Type 0
Turns c = edit_has_append c ≡ false → (b a : ValueOpTree) → edit_has_append b ≡ false → IsSoundEdit a → after c (after b a) ≡ after (after c b) a

turns_at : (c b a : Option ValueOpTree) → ((e : ValueOpTree) → c ≡ Some e → Turns e) → ((e : ValueOpTree) → c ≡ Some e → edit_has_append e ≡ false)
    → ((e : ValueOpTree) → b ≡ Some e → edit_has_append e ≡ false) → ((e : ValueOpTree) → a ≡ Some e → IsSoundEdit e)
    → edit_after c (edit_after b a) ≡ edit_after (edit_after c b) a
turns_at None b a each later earlier sound = refl
turns_at (Some c) None a each later earlier sound = refl
turns_at (Some c) (Some b) None each later earlier sound = refl
turns_at (Some c) (Some b) (Some a) each later earlier sound = ap Some (each c refl (later c refl) b a (earlier b refl) (sound a refl))

-- the same of patches
turns_map : (q p r : Patch) → ((k : List ℕ) (e : ValueOpTree) → value_at q k ≡ Some e → Turns e) → edits_have_append (edits_of q) ≡ false → edits_have_append (edits_of p) ≡ false
    → AreRising r → AreSoundEdits (edits_of r) → both (edits_of q) (both (edits_of p) r) ≡ both (edits_of (both (edits_of q) p)) r
turns_map q p r each later earlier rising sound =
    same_pairs _ _ (rising-both (edits_of q) (both (edits_of p) r) (rising-both (edits_of p) r rising)) (rising-both (edits_of (both (edits_of q) p)) r rising) (λ k.
    at-both q (both (edits_of p) r) k
    ∙ ap (λ e. edit_after (value_at q k) e) (at-both p r k)
    ∙ turns_at (value_at q k) (value_at p k) (value_at r k) (each k) (λ e is. plain_at q k e later is) (λ e is. plain_at p k e earlier is) (λ e is. sound_at r k e sound is)
    ∙ sym (at-both (both (edits_of q) p) r k ∙ ap (λ e. edit_after e (value_at r k)) (at-both q p k)))

-- two patches make of a record what their one makes of it
patch_twice : (q p : Patch) (d : Data) → edits_have_append (edits_of q) ≡ false → edits_have_append (edits_of p) ≡ false → IsSound d
    → on_map (λ f. patched (edits_of q) f) (on_map (λ f. patched (edits_of p) f) d) ≡ on_map (λ f. patched (edits_of (both (edits_of q) p)) f) d
patch_twice q p d later earlier sound = sym (same_Some _ _ (does_both (change.patch p) (change.patch q) (Some d) earlier later sound))

turns_patch : (q : Patch) → ((k : List ℕ) (e : ValueOpTree) → value_at q k ≡ Some e → Turns e) → Turns (patch (edits_of q))
turns_patch q each later (put d) a earlier sound = refl
turns_patch q each later (append ds n) a earlier sound = refl
turns_patch q each later (append_text s n) a earlier sound = refl
turns_patch q each later delete a earlier sound = refl
turns_patch q each later (patch es) delete earlier sound = refl
turns_patch q each later (patch es) (append ds n) earlier sound = refl
turns_patch q each later (patch es) (append_text s n) earlier sound = refl
turns_patch q each later (patch es) (put d) earlier sound =
    let p = patch_of es in
    let back = edits_of-patch_of es in
    ap (λ t. put (on_map (λ f. patched (edits_of q) f) (on_map (λ f. patched t f) d))) (sym back)
    ∙ ap put (patch_twice q p d later (ap edits_have_append back ∙ earlier) sound)
turns_patch q each later (patch es) (patch fs) earlier sound =
    let p = patch_of es in
    let r = patch_of fs in
    let back = edits_of-patch_of es in
    ap (λ x. patch (edits_of (both (edits_of q) x))) (patch_of-edits_of (both es r))
    ∙ ap (λ t. patch (edits_of (both (edits_of q) (both t r)))) (sym back)
    ∙ ap (λ x. patch (edits_of x)) (turns_map q p r each later (ap edits_have_append back ∙ earlier) sound.0 (subst AreSoundEdits (sym (edits_of-patch_of fs)) sound.1))

turns : (c : ValueOpTree) → Turns c
turns = every Turns (λ d later b a earlier sound. refl) turns_patch (λ ds n later b a earlier sound. refl) (λ s n later b a earlier sound. refl) (λ later b a earlier sound. refl)

-- of operations on records
in_turn-in_turn : (a b c : RecordOpTree) → has_append c ≡ false → has_append b ≡ false → IsSoundChange a → in_turn (in_turn a b) c ≡ in_turn a (in_turn b c)
in_turn-in_turn a b (change.put d) later earlier sound = refl
in_turn-in_turn a b change.remove later earlier sound = refl
in_turn-in_turn a (change.put d) (change.patch q) later earlier sound = refl
in_turn-in_turn a change.remove (change.patch q) later earlier sound = refl
in_turn-in_turn change.remove (change.patch p) (change.patch q) later earlier sound = refl
in_turn-in_turn (change.put d) (change.patch p) (change.patch q) later earlier sound = ap change.put (patch_twice q p d later earlier sound)
in_turn-in_turn (change.patch r) (change.patch p) (change.patch q) later earlier sound = ap change.patch (turns_map q p r (λ k e is. turns e) later earlier (subst AreRising (patch_of-edits_of r) sound.0) sound.1)

-- an operation that is done twice is done once
abbrev Repeats : ValueOpTree → Type 0
Repeats e = IsSoundEdit e → edit_has_append e ≡ false → after e e ≡ e

repeats_at : (e : Option ValueOpTree) → ((d : ValueOpTree) → e ≡ Some d → Repeats d) → ((d : ValueOpTree) → e ≡ Some d → IsSoundEdit d) → ((d : ValueOpTree) → e ≡ Some d → edit_has_append d ≡ false) → edit_after e e ≡ e
repeats_at None each sound plain = refl
repeats_at (Some d) each sound plain = ap Some (each d refl (sound d refl) (plain d refl))

repeats_map : (p : Patch) → ((k : List ℕ) (e : ValueOpTree) → value_at p k ≡ Some e → Repeats e) → AreRising p → AreSoundEdits (edits_of p) → edits_have_append (edits_of p) ≡ false → both (edits_of p) p ≡ p
repeats_map p each rising sound plain =
    same_pairs _ _ (rising-both (edits_of p) p rising) rising (λ k.
    at-both p p k ∙ repeats_at (value_at p k) (each k) (λ e is. sound_at p k e sound is) (λ e is. plain_at p k e plain is))

repeats_patch : (p : Patch) → ((k : List ℕ) (e : ValueOpTree) → value_at p k ≡ Some e → Repeats e) → Repeats (patch (edits_of p))
repeats_patch p each sound plain =
    let same = patch_of-edits_of p in
    ap (λ x. patch (edits_of (both (edits_of p) x))) same ∙ ap (λ x. patch (edits_of x)) (repeats_map p each (subst AreRising same sound.0) sound.1 plain)

repeats : (e : ValueOpTree) → Repeats e
repeats = every Repeats (λ d sound plain. refl) repeats_patch (λ ds n sound plain. refl) (λ s n sound plain. refl) (λ sound plain. refl)

in_turn_itself : (c : RecordOpTree) → IsSoundChange c → has_append c ≡ false → in_turn c c ≡ c
in_turn_itself (change.put d) sound plain = refl
in_turn_itself (change.patch p) sound plain = ap change.patch (repeats_map p (λ k e is. repeats e) (subst AreRising (patch_of-edits_of p) sound.0) sound.1 plain)
in_turn_itself change.remove sound plain = refl

-- of operations that may be missing

-- an operation that is there has no append
abbrev pub PlainIf : Option RecordOpTree → Type 0
PlainIf o = (c : RecordOpTree) → o ≡ Some c → has_append c ≡ false

abbrev pub SoundIf : Option RecordOpTree → Type 0
SoundIf o = (c : RecordOpTree) → o ≡ Some c → IsSoundChange c

pub both_in_turn-in_turn : (a b c : Option RecordOpTree) → PlainIf c → PlainIf b → SoundIf a → both_in_turn (both_in_turn a b) c ≡ both_in_turn a (both_in_turn b c)
both_in_turn-in_turn None b c later earlier sound = refl
both_in_turn-in_turn (Some a) None c later earlier sound = refl
both_in_turn-in_turn (Some a) (Some b) None later earlier sound = refl
both_in_turn-in_turn (Some a) (Some b) (Some c) later earlier sound = ap Some (in_turn-in_turn a b c (later c refl) (earlier b refl) (sound a refl))

pub both_itself : (c o : Option RecordOpTree) → PlainIf c → SoundIf c → PlainIf o → both_in_turn c (both_in_turn c o) ≡ both_in_turn c o
both_itself None o plain sound also = refl
both_itself (Some c) o plain sound also =
    sym (both_in_turn-in_turn (Some c) (Some c) o also plain sound) ∙ ap (λ d. both_in_turn (Some d) o) (in_turn_itself c (sound c refl) (plain c refl))

-- what does two sound operations in turn is sound

mutual
  sound_after : (e d : ValueOpTree) → IsSoundEdit e → IsSoundEdit d → IsSoundEdit (after e d)
  sound_after (put x) d later first = later
  sound_after (patch es) (put x) later first =
      let t = sym (edits_of-patch_of es) in
      subst (λ t. IsSound (on_map (λ f. patched t f) x)) (edits_of-patch_of es) (sound_raw (change.patch (patch_of es)) (Some x) (subst (λ t. IsSoundEdit (patch t)) t later) first)
  sound_after (patch es) (patch fs) later first = sound_both es (patch_of fs) later.1 (subst (λ t. IsSoundEdit (patch t)) (sym (edits_of-patch_of fs)) first)
  sound_after (patch es) (append ds n) later first = first
  sound_after (patch es) (append_text s n) later first = first
  sound_after (patch es) delete later first = first
  sound_after (append ds n) d later first = later
  sound_after (append_text s n) d later first = later
  sound_after delete d later first = later

  sound_both : (es : ValueOpTrees) (p : Patch) → AreSoundEdits es → IsSoundPatch p → IsSoundPatch (both es p)
  sound_both no_edits p later first = first
  sound_both (edit_at k e es) p later first =
      sound_put (both es p) k (unwrap_or (option_map (λ d. after e d) (value_at p k)) e) (sound_both es p later.1 first)
      (elim (value_at p k) as (λ o. value_at p k ≡ o → IsSoundEdit (unwrap_or (option_map (λ d. after e d) o) e)) [
        | None ↦ λ is. later.0
        | Some d ↦ λ is. sound_after e d later.0 (sound_at p k d first.1 is)
      ] refl)

sound_in_turn : (a b : RecordOpTree) → IsSoundChange a → IsSoundChange b → IsSoundChange (in_turn a b)
sound_in_turn a (change.put d) first later = later
sound_in_turn (change.put d) (change.patch q) first later = sound_raw (change.patch q) (Some d) later first
sound_in_turn (change.patch p) (change.patch q) first later = sound_both (edits_of q) p later.1 first
sound_in_turn change.remove (change.patch q) first later = first
sound_in_turn a change.remove first later = later

pub sound_both_in_turn : (a b : Option RecordOpTree) → SoundIf a → SoundIf b → SoundIf (both_in_turn a b)
sound_both_in_turn None b first later = later
sound_both_in_turn (Some a) None first later = first
sound_both_in_turn (Some a) (Some b) first later = λ c is. subst IsSoundChange (same_Some _ _ is) (sound_in_turn a b (first a refl) (later b refl))
