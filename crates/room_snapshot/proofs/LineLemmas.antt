-- Each value is that of one saved room at most, and what refuses a line.
use Rattle.std.proofs.Common.{◌≡◌, ◌≤◌, ℕ, ℤ, pos, List, [], ◌∷◌, Result, Ok, Err, IfOk, IfErr, MatchResult, length, refl, sym, ap, ◌∙◌, arith}
use Rattle.std.specs.Prelude as std
use Rattle.rooms_val.proofs.Truths.{one_ok, ok_not_err}
use Rattle.rooms_val.specs.Data.{Data, Pairs, null, whole, map, members_of}
use Rattle.rooms_val.specs.Json.{value_of}
use Rattle.rooms_val.specs.Maps.{AreRising, seen}
use Rattle.rooms_val.specs.declared.fault.ValFault.{ValFault}
use Rattle.rooms_val.specs.declared.fault.ValFault.TheVariants as val_fault
use Rattle.rooms_val.specs.declared.fault.OpFault.{OpFault}
use Rattle.rooms_val.specs.declared.fault.OpFault.TheVariants as op_fault
use Rattle.rooms_val.specs.Answers.{Refuses}
use Rattle.field_ops.proofs.WireLemmas.{same_map}
use Rattle.migrate_seq.specs.Versions.{Versions, versions_in, numbers_of, schema_of}
use Rattle.migrate_seq.proofs.Numbers.{versions_in-numbers_of}
use Rattle.migrate_seq.proofs.SerializedLemmas.{same_schemas}
use Rattle.room_snapshot.specs.Faults.{fault_of_val, fault_of_op}
use Rattle.room_snapshot.specs.Lines.{document_val, tombs_by_id, line_fields, line_val}
use Rattle.room_snapshot.specs.Readings.{IsLine, IsNoRoom, RefusesLine}
use Rattle.room_snapshot.specs.Saved.{SavedTree, saved_tree}
use Rattle.room_snapshot.specs.declared.fault.SnapFault.{SnapFault}
use Rattle.room_snapshot.specs.declared.fault.SnapFault.TheVariants as fault
use Rattle.room_snapshot.specs.declared.snapshot.Snapshot.{Snapshot}
use Rattle.room_snapshot.specs.declared.snapshot.TheConstants.{LONGEST_LINE}
use Rattle.room_snapshot.proofs.DocumentLemmas.{same_list, same_documents}
use Rattle.room_snapshot.proofs.TombLemmas.{same_tombs, tombs_by_id-rising}

abbrev rest : Pairs → Pairs
rest [] = []
rest (p ∷ ps) = ps

abbrev first : Pairs → Data
first [] = null
first (p ∷ ps) = p.1

abbrev whole_in : Data → ℤ
whole_in (whole z) = z
whole_in d = pos 0

same_schema : (a b : Versions) → schema_of a ≡ schema_of b → a ≡ b
same_schema a b is = sym (versions_in-numbers_of a) ∙ ap versions_in (same_schemas (numbers_of a) (numbers_of b) is) ∙ versions_in-numbers_of b

same_rising : (a b : List (List ℕ × ℤ)) → AreRising a → AreRising b → map (members_of (seen whole (tombs_by_id a))) ≡ map (members_of (seen whole (tombs_by_id b))) → a ≡ b
same_rising a b a_rises b_rises is =
    sym (tombs_by_id-rising a a_rises)
    ∙ same_tombs (tombs_by_id a) (tombs_by_id b) (same_map (seen whole (tombs_by_id a)) (seen whole (tombs_by_id b)) is)
    ∙ tombs_by_id-rising b b_rises

pub one_room : (s t : SavedTree) (a b : Versions) → AreRising s.tombstones → AreRising t.tombstones → line_val s a ≡ line_val t b → (s ≡ t) × (a ≡ b)
one_room s t a b s_rises t_rises same =
    let is : line_fields s a ≡ line_fields t b = same_map (line_fields s a) (line_fields t b) same in
    let clock : s.clock ≡ t.clock = ap (λ ps. whole_in (first ps)) is in
    let documents : s.documents ≡ t.documents =
    same_documents s.documents t.documents (same_list (std.map document_val s.documents) (std.map document_val t.documents) (ap (λ ps. first (rest ps)) is)) in
    let held : a ≡ b = same_schema a b (ap (λ ps. first (rest (rest ps))) is) in
    let start : s.start ≡ t.start = ap (λ ps. whole_in (first (rest (rest (rest ps))))) is in
    let tombs : s.tombstones ≡ t.tombstones = same_rising s.tombstones t.tombstones s_rises t_rises (ap (λ ps. first (rest (rest (rest (rest ps))))) is) in
    ((λ i. record { clock = clock i; start = start i; documents = documents i; tombstones = tombs i }), held)

pub reads_line : (bytes : List ℕ) (r : Result Snapshot SnapFault) → IfOk r (λ x. IsLine bytes (saved_tree x.saved) x.held) → IfErr r (RefusesLine bytes)
    → (s : SavedTree) (held : Versions) → IsLine bytes s held
    → MatchResult r (λ x. (saved_tree x.saved ≡ s) × (x.held ≡ held)) (λ f. f ≡ fault.OutOfMemory)
reads_line bytes (Ok x) found refused s held is =
    one_room (saved_tree x.saved) s x.held held found.rising is.rising (one_ok (value_of bytes) (line_val (saved_tree x.saved) x.held) (line_val s held) found.value is.value)
reads_line bytes (Err fault.LineTooLong) found refused s held is = absurd (omega (arith, refused, is.short))
reads_line bytes (Err (fault.Val f)) found refused s held is = ok_not_err (value_of bytes) (line_val s held) f is.value refused.1
reads_line bytes (Err fault.Shape) found refused s held is =
    absurd (refused.3 s held (one_ok (value_of bytes) refused.1 (line_val s held) refused.2 is.value))
reads_line bytes (Err fault.OutOfMemory) found refused s held is = refl

-- a line that is no value is refused as the value is
pub refuses_val : (bytes : List ℕ) (e : ValFault) → length bytes ≤ LONGEST_LINE → (¬ (e ≡ val_fault.OutOfMemory) → value_of bytes ≡ Err e) → RefusesLine bytes (fault_of_val e)
refuses_val bytes val_fault.OutOfMemory short is = tt
refuses_val bytes val_fault.BadJson short is = (short, is (λ e. cc))
refuses_val bytes val_fault.NotWhole short is = (short, is (λ e. cc))
refuses_val bytes val_fault.OutOfRange short is = (short, is (λ e. cc))
refuses_val bytes val_fault.TooDeep short is = (short, is (λ e. cc))

-- a line whose value is that of no saved room is refused for its shape
pub refuses_shape : (bytes : List ℕ) (d : Data) (e : OpFault) → length bytes ≤ LONGEST_LINE → value_of bytes ≡ Ok d → Refuses (IsNoRoom d) e → RefusesLine bytes (fault_of_op e)
refuses_shape bytes d op_fault.WrongKind short is none = (short, d, is, none)
refuses_shape bytes d op_fault.OutOfMemory short is none = tt

-- what has the value of a saved room is its line, where it is short enough and the tombstones rise
pub is_line : (bytes : List ℕ) (d : Data) (s : SavedTree) (held : Versions) → length bytes ≤ LONGEST_LINE → value_of bytes ≡ Ok d → d ≡ line_val s held → AreRising s.tombstones
    → IsLine bytes s held
is_line bytes d s held short value is rising = record { short = short; value = value ∙ ap Ok is; rising = rising }
