-- The diff and the operation for which a value stands, by the functions that read them.
use Rattle.std.proofs.Common.{◌≡◌, IfSome, Option, Some, None, Ok, Err, sym, ap, subst, ◌∙◌}
use Rattle.std.specs.Option.{ok_or}
use Rattle.rooms_val.specs.Data.{Data, null, boolean, whole, text, list, map, members_of, pairs_of, IsSound}
use Rattle.rooms_val.specs.declared.fault.OpFault.{OpFault}
use Rattle.rooms_val.specs.declared.fault.OpFault.TheVariants.{WrongKind, OutOfMemory}
use Rattle.rooms_val.proofs.DataLemmas.{members_of-pairs_of}
use Rattle.rooms_val.specs.Answers.{Refuses}
use Rattle.field_ops.specs.RecordOps.{RecordOpTree, put, patch, remove, RecordOps, IsSoundDiff, IsSoundChange}
use Rattle.field_ops.specs.WireRecordOps.{change_data, diff_data}
use Rattle.field_ops.specs.ViewRecordOps.{change_of}
use Rattle.field_ops.specs.declared.record_op.RecordOp.{RecordOp}
use Rattle.field_ops.specs.Readings.{diff_of_data, diff_of_pairs, op_of_data}
use Rattle.field_ops.proofs.ReadingLemmas.{changes_read, diff_found, change_read, op_found}
use Rattle.wire_msgs.specs.Messages.{IsPresence, maybe_diff, maybe_op}

some_of : {A : Type 0} (o : Option A) (x : A) → ok_or o WrongKind ≡ Ok x → o ≡ Some x
some_of None x is = absurd (cc)
some_of (Some y) x is = cc

-- the diff that is read is the one by which the value is written
pub diff_is : (d : Data) (diff : RecordOps) → IsSound d → ok_or (diff_of_data d) WrongKind ≡ Ok diff → d ≡ diff_data diff
diff_is (map ms) diff sound is =
    let again = members_of-pairs_of ms in
    let read = changes_read (pairs_of ms) diff (subst (λ m. IsSound (map m)) (sym again) sound) (some_of (diff_of_pairs (pairs_of ms)) diff is) in
    ap map (sym again) ∙ ap (λ ps. map (members_of ps)) read.0
diff_is null diff sound is = absurd (cc)
diff_is (boolean b) diff sound is = absurd (cc)
diff_is (whole z) diff sound is = absurd (cc)
diff_is (text s) diff sound is = absurd (cc)
diff_is (list ds) diff sound is = absurd (cc)

not_memory : WrongKind ≡ OutOfMemory → ⊥
not_memory is = cc

-- a value of which no diff is read stands for none
pub no_diff : (d : Data) (e : OpFault) → (¬ (e ≡ OutOfMemory) → ok_or (diff_of_data d) WrongKind ≡ Err e)
    → Refuses ((diff : RecordOps) → IsSoundDiff diff → ¬ (d ≡ diff_data diff)) e
no_diff d OutOfMemory refused = tt
no_diff d WrongKind refused = λ diff sound is.
    let no = refused not_memory in
    let yes = diff_found d diff is sound in
    absurd (cc)

-- the operation that is read is the one by which the value is written
pub op_is : (d : Data) (c : RecordOpTree) → IsSound d → ok_or (op_of_data d) WrongKind ≡ Ok c → d ≡ change_data c
op_is d c sound is = (change_read d c sound (some_of (op_of_data d) c is)).0

presence_is_sound : (c : RecordOpTree) → IsPresence c → IsSoundChange c
presence_is_sound (put d) is = is
presence_is_sound (patch p) is = is
presence_is_sound remove is = absurd is

-- a value of which no operation is read stands for no presence
pub no_presence : (d : Data) (e : OpFault) → (¬ (e ≡ OutOfMemory) → ok_or (op_of_data d) WrongKind ≡ Err e)
    → Refuses ((op : RecordOp) → IsPresence (change_of op) → ¬ (d ≡ change_data (change_of op))) e
no_presence d OutOfMemory refused = tt
no_presence d WrongKind refused = λ op presence is.
    let no = refused not_memory in
    let yes = op_found d (change_of op) is (presence_is_sound (change_of op) presence) in
    absurd (cc)

-- a value that is no diff is none also where there may be none
pub no_maybe_diff : (d : Data) (o : Option Data) → o ≡ Some d → ((diff : RecordOps) → IsSoundDiff diff → ¬ (d ≡ diff_data diff))
    → (diff : Option RecordOps) → IfSome diff IsSoundDiff → ¬ (o ≡ maybe_diff diff)
no_maybe_diff d o there none None sound is = let it : Some d ≡ None = sym there ∙ is in cc
no_maybe_diff d o there none (Some diff) sound is =
    let it : Some d ≡ Some (diff_data diff) = sym there ∙ is in
    none diff sound (let same : d ≡ diff_data diff = cc in same)

pub no_maybe_presence : (d : Data) (o : Option Data) → o ≡ Some d → ((op : RecordOp) → IsPresence (change_of op) → ¬ (d ≡ change_data (change_of op)))
    → (op : Option RecordOp) → IfSome op (λ x. IsPresence (change_of x)) → ¬ (o ≡ maybe_op op)
no_maybe_presence d o there none None presence is = let it : Some d ≡ None = sym there ∙ is in cc
no_maybe_presence d o there none (Some op) presence is =
    let it : Some d ≡ Some (change_data (change_of op)) = sym there ∙ is in
    none op presence (let same : d ≡ change_data (change_of op) = cc in same)
