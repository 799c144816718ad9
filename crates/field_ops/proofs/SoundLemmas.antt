-- Patches and diffs stay sound under a put.
use Rattle.std.proofs.Common.{◌≡◌, ℕ, T, List, [], ◌∷◌, refl, sym, ap, subst}
use Rattle.rooms_val.specs.Data.{Pairs, map, members_of, IsSound}
use Rattle.rooms_val.specs.Maps.{AreRising, with_key, EachValue}
use Rattle.rooms_val.proofs.DataLemmas.{rising_from_sound}
use Rattle.rooms_val.specs.View.{pairs_view}
use Rattle.rooms_val.specs.declared.val.Val.{Val}
use Rattle.field_ops.specs.ValueOps.{ValueOpTree, Patch, edits_of, IsSoundEdit, AreSoundEdits, IsSoundPatch}
use Rattle.field_ops.specs.RecordOps.{RecordOpTree, RecordOps, IsSoundChange, IsSoundDiff}
use Rattle.field_ops.specs.WireRecordOps.{patch_of-edits_of}
use Rattle.field_ops.specs.View.{patch_view, edit_of}
use Rattle.field_ops.specs.ViewRecordOps.{changes_view, change_of}
use Rattle.field_ops.specs.declared.value_op.ValueOp.{ValueOp}
use Rattle.field_ops.specs.declared.record_op.RecordOp.{RecordOp}
use Rattle.rooms_val.proofs.MapsLemmas.{rising-with_key, each-with_key, rising-seen}

pub rising_patch : (p : Patch) → IsSoundPatch p → AreRising p
rising_patch p sound = subst AreRising (patch_of-edits_of p) sound.0

pub rising_ops : (es : List (List ℕ × ValueOp)) → IsSoundPatch (patch_view es) → AreRising es
rising_ops es sound = subst T (rising-seen edit_of es) (rising_patch _ sound)

-- the same of what `as_slice` gives
pub rising_slice : (es : List (List ℕ × ValueOp)) (p : Patch) → patch_view es ≡ p → IsSoundPatch p → AreRising es
rising_slice es p seen sound = rising_ops es (subst IsSoundPatch (sym seen) sound)

pub rising_fields_slice : (es : List (List ℕ × Val)) (f : Pairs) → pairs_view es ≡ f → IsSound (map (members_of f)) → AreRising es
rising_fields_slice es f seen sound = rising_from_sound es (subst (λ g. IsSound (map (members_of g))) (sym seen) sound)

pub rising_records : (es : List (List ℕ × RecordOp)) → IsSoundDiff (changes_view es) → AreRising es
rising_records es sound = subst T (rising-seen change_of es) sound.0

each_edit : (p : Patch) → AreSoundEdits (edits_of p) ≡ EachValue IsSoundEdit p
each_edit [] = refl
each_edit (e ∷ p) = ap (λ rest. IsSoundEdit e.1 × rest) (each_edit p)

pub sound_put : (p : Patch) (k : List ℕ) (e : ValueOpTree) → IsSoundPatch p → IsSoundEdit e → IsSoundPatch (with_key p k e)
sound_put p k e sound new = (
  subst AreRising (sym (patch_of-edits_of (with_key p k e))) (rising-with_key p k e (rising_patch p sound)),
  subst (λ t. t) (sym (each_edit (with_key p k e))) (each-with_key IsSoundEdit p k e (subst (λ t. t) (each_edit p) sound.1) new),
)

pub sound_put_change : (cs : RecordOps) (k : List ℕ) (c : RecordOpTree) → IsSoundDiff cs → IsSoundChange c → IsSoundDiff (with_key cs k c)
sound_put_change cs k c sound new = (rising-with_key cs k c sound.0, each-with_key IsSoundChange cs k c sound.1 new)
