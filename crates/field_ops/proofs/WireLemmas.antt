-- What no operation is sent by, and how deep what is read may be.
use Rattle.std.proofs.Common.{◌≡◌, ℕ, zero, suc, ◌<◌, ◌≤◌, ◌^◌, pos, List, [], ◌∷◌, length, get_or, codes, refl, sym, ap, subst, ◌∙◌, arith, T, false, ◌==◌, Option, None, option_map}
use Rattle.rooms_val.specs.Data.{Data, null, list, map, whole, depth, member, Items, no_items, item, items_of, list_of, Pairs, members_of, pairs_of, members_depth, text}
use Rattle.rooms_val.proofs.DataLemmas.{pairs_of-members_of, list_of-items_of}
use Rattle.rooms_val.specs.View.{data_of, items_view, pairs_view}
use Rattle.rooms_val.specs.declared.val.Val.{Val}
use Rattle.field_ops.specs.ValueOps.{ValueOpTree, put, patch, append, append_text, delete, ValueOpTrees, no_edits, edit_at, edits_of, patch_of, Patch, IsSoundEdit, AreSoundEdits, IsSoundPatch}
use Rattle.field_ops.specs.RecordOps as change
use Rattle.rooms_val.specs.Maps.{AreRising, value_at}
use Rattle.field_ops.specs.View.{edit_of, patch_view}
use Rattle.field_ops.specs.ViewRecordOps.{change_of, changes_view}
use Rattle.field_ops.specs.declared.value_op.ValueOp.{ValueOp}
use Rattle.field_ops.specs.declared.record_op.RecordOp.{RecordOp}
use Rattle.rooms_val.proofs.MapsLemmas.{at-seen, rising-seen, option_map-after}
use Rattle.field_ops.specs.Wire.{named, edit_data, edits_data, patch_pairs, IsAppendable}
use Rattle.field_ops.specs.WireRecordOps.{change_data, change_in, change_in-change_data, diff_pairs}

pub edits_of-patch_of : (es : ValueOpTrees) → edits_of (patch_of es) ≡ es
edits_of-patch_of no_edits = refl
edits_of-patch_of (edit_at k e es) = ap (λ rest. edit_at k e rest) (edits_of-patch_of es)

pub members_of-patch_pairs : (p : Patch) → members_of (patch_pairs p) ≡ edits_data (edits_of p)
members_of-patch_pairs [] = refl
members_of-patch_pairs (e ∷ p) = ap (λ rest. member e.0 (edit_data e.1) rest) (members_of-patch_pairs p)

same_list : (vs : List Data) (ds : List Data) → items_of vs ≡ items_of ds → vs ≡ ds
same_list vs ds is = sym (list_of-items_of vs) ∙ ap list_of is ∙ list_of-items_of ds

-- the letter that a list's name begins with
abbrev letter : Data → ℕ
letter (list (item (text (n ∷ s)) ds)) = n
letter d = 0

two_letters : (n : ℕ) → n ≡ 97 → n ≡ 100 → ⊥
two_letters n a b = omega arith

module _ (d : Data) (vs : List Data) where
  pub no_put : d ≡ named (codes "put") (items_of vs) → ((x : Data) → vs ≡ x ∷ [] → ⊥) → (e : ValueOpTree) → d ≡ edit_data e → ⊥
  no_put from never (put x) is = let same : items_of vs ≡ item x no_items = cc in never x (same_list vs (x ∷ []) same)
  no_put from never (patch es) is = cc
  no_put from never (append ds n) is = cc
  no_put from never (append_text s n) is = cc
  no_put from never delete is = cc

  pub no_patch : d ≡ named (codes "patch") (items_of vs) → ((p : Patch) → IsSoundPatch p → vs ≡ map (edits_data (edits_of p)) ∷ [] → ⊥) → (e : ValueOpTree) → IsSoundEdit e → d ≡ edit_data e → ⊥
  no_patch from never (put x) sound is = cc
  no_patch from never (patch es) sound is =
      let same : items_of vs ≡ item (map (edits_data es)) no_items = cc in
      subst (λ t. IsSoundEdit (patch t) → vs ≡ map (edits_data t) ∷ [] → ⊥) (edits_of-patch_of es) (never (patch_of es)) sound (same_list vs (map (edits_data es) ∷ []) same)
  no_patch from never (append ds n) sound is = cc
  no_patch from never (append_text s n) sound is = cc
  no_patch from never delete sound is = cc

  pub no_append : d ≡ named (codes "append") (items_of vs) → ((x : Data) (n : ℕ) → n < 2 ^ 32 → vs ≡ x ∷ whole (pos n) ∷ [] → ¬ IsAppendable x) → (e : ValueOpTree) → IsSoundEdit e → d ≡ edit_data e → ⊥
  no_append from never (put x) sound is = cc
  no_append from never (patch es) sound is = cc
  no_append from never (append ds n) sound is =
      let same : items_of vs ≡ item (list (items_of ds)) (item (whole (pos n)) no_items) = cc in
      never (list (items_of ds)) n sound.1 (same_list vs (list (items_of ds) ∷ whole (pos n) ∷ []) same) tt
  no_append from never (append_text s n) sound is =
      let same : items_of vs ≡ item (text s) (item (whole (pos n)) no_items) = cc in
      never (text s) n sound (same_list vs (text s ∷ whole (pos n) ∷ []) same) tt
  no_append from never delete sound is = two_letters (letter d) (ap letter from) (ap letter is)

  pub no_delete : d ≡ named (codes "delete") (items_of vs) → (vs ≡ [] → ⊥) → (e : ValueOpTree) → d ≡ edit_data e → ⊥
  no_delete from never (put x) is = cc
  no_delete from never (patch es) is = cc
  no_delete from never (append ds n) is = two_letters (letter d) (ap letter is) (ap letter from)
  no_delete from never (append_text s n) is = two_letters (letter d) (ap letter is) (ap letter from)
  no_delete from never delete is = let same : items_of vs ≡ no_items = cc in never (same_list vs [] same)

  pub no_remove : d ≡ named (codes "remove") (items_of vs) → (vs ≡ [] → ⊥) → (c : change.RecordOpTree) → d ≡ change_data c → ⊥
  no_remove from never (change.put x) is = cc
  no_remove from never (change.patch p) is = cc
  no_remove from never change.remove is = let same : items_of vs ≡ no_items = cc in never (same_list vs [] same)

-- a value that is a list of none of the names
pub no_name : (d : Data) → ((ds : Items) → d ≡ named (codes "put") ds → ⊥) → ((ds : Items) → d ≡ named (codes "patch") ds → ⊥) → ((ds : Items) → d ≡ named (codes "append") ds → ⊥) → ((ds : Items) → d ≡ named (codes "delete") ds → ⊥)
    → (e : ValueOpTree) → d ≡ edit_data e → ⊥
no_name d a b c e (put x) is = a _ is
no_name d a b c e (patch es) is = b _ is
no_name d a b c e (append ds n) is = c _ is
no_name d a b c e (append_text s n) is = c _ is
no_name d a b c e delete is = e _ is

-- what stands before an offset is found: it is what was read
pub no_other : (vs : List Data) (d : Data) (m : ℕ) → vs ≡ d ∷ whole (pos m) ∷ [] → ¬ IsAppendable d → (x : Data) (n : ℕ) → n < 2 ^ 32 → vs ≡ x ∷ whole (pos n) ∷ [] → ¬ IsAppendable x
no_other vs d m is never x n fits same = let one : d ≡ x = cc in subst (λ y. ¬ IsAppendable y) one never

pub no_change : (d : Data) → ((ds : Items) → d ≡ named (codes "remove") ds → ⊥) → ((e : ValueOpTree) → IsSoundEdit e → d ≡ edit_data e → ⊥) → (c : change.RecordOpTree) → change.IsSoundChange c → d ≡ change_data c → ⊥
no_change d none never (change.put x) sound is = never (put x) sound is
no_change d none never (change.patch p) sound is = never (patch (edits_of p)) sound is
no_change d none never change.remove sound is = none _ is

pub no_view : (vs : List Val) → false ≡ (length vs == 0) → items_view vs ≡ [] → ⊥
no_view [] some is = cc
no_view (v ∷ vs) some is = cc

-- two maps of the same value are the same
pub same_map : (f g : Pairs) → map (members_of f) ≡ map (members_of g) → f ≡ g
same_map f g is = let same : members_of f ≡ members_of g = cc in sym (pairs_of-members_of f) ∙ ap pairs_of same ∙ pairs_of-members_of g

-- a list of one map, which is the map of a patch exactly where its pairs are those of the patch
pub one_patch : (vs : List Data) (d : Data) (f : Pairs) (p : Patch) → vs ≡ d ∷ [] → d ≡ map (members_of f) → f ≡ patch_pairs p → vs ≡ map (edits_data (edits_of p)) ∷ []
one_patch vs d f p one is same = one ∙ ap (λ x. x ∷ []) (is ∙ ap (λ g. map (members_of g)) same ∙ ap map (members_of-patch_pairs p))

pub patch_in_one : (vs : List Data) (d : Data) (f : Pairs) (p : Patch) → vs ≡ d ∷ [] → d ≡ map (members_of f) → vs ≡ map (edits_data (edits_of p)) ∷ [] → f ≡ patch_pairs p
patch_in_one vs d f p one is same =
    let first : d ≡ map (edits_data (edits_of p)) = cc in
    same_map f (patch_pairs p) (sym is ∙ first ∙ ap map (sym (members_of-patch_pairs p)))

-- what a key gives in reading: the value that was sent
abbrev pub read_at : List ℕ → Option ℕ → Option Val → Option Data
read_at q _ val = option_map data_of val

pub reads : (s : List (List ℕ × Val)) (q : List ℕ) → read_at q None (value_at s q) ≡ value_at (pairs_view s) q
reads s q = sym (at-seen data_of s q)

pub sends : (s : List (List ℕ × ValueOp)) (q : List ℕ) → option_map (λ o. edit_data (edit_of o)) (value_at s q) ≡ value_at (patch_pairs (patch_view s)) q
sends s q = option_map-after (value_at s q) edit_of edit_data ∙ sym (at-seen edit_data (patch_view s) q ∙ ap (option_map edit_data) (at-seen edit_of s q))

pub sends_records : (s : List (List ℕ × RecordOp)) (q : List ℕ) → option_map (λ o. change_data (change_of o)) (value_at s q) ≡ value_at (diff_pairs (changes_view s)) q
sends_records s q = option_map-after (value_at s q) change_of change_data ∙ sym (at-seen change_data (changes_view s) q ∙ ap (option_map change_data) (at-seen change_of s q))

pub rising_sent : (s : List (List ℕ × ValueOp)) → AreRising s → AreRising (patch_pairs (patch_view s))
rising_sent s rising = subst T (sym (rising-seen edit_data (patch_view s) ∙ rising-seen edit_of s)) rising

pub rising_records_sent : (s : List (List ℕ × RecordOp)) → AreRising s → AreRising (diff_pairs (changes_view s))
rising_records_sent s rising = subst T (sym (rising-seen change_data (changes_view s) ∙ rising-seen change_of s)) rising

abbrev value_of_first : Pairs → Data
value_of_first [] = null
value_of_first (p ∷ ps) = p.1

abbrev later : Pairs → Pairs
later [] = []
later (p ∷ ps) = ps

-- a map with a value that no operation is sent by is the map of no patch
pub no_entry : (s : List (List ℕ × Val)) (i : ℕ) (x : List ℕ × Val) → i < length s → x ≡ get_or s i x → ((e : ValueOpTree) → IsSoundEdit e → data_of x.1 ≡ edit_data e → ⊥)
    → (p : Patch) → AreSoundEdits (edits_of p) → pairs_view s ≡ patch_pairs p → ⊥
no_entry [] i x within here never p sound is = absurd (omega arith)
no_entry (y ∷ s) i x within here never [] sound is = cc
no_entry (y ∷ s) zero x within here never (e ∷ p) sound is = never e.1 sound.0 (ap (λ z. data_of z.1) here ∙ ap value_of_first is)
no_entry (y ∷ s) (suc i) x within here never (e ∷ p) sound is = no_entry s i x (omega arith) here never p sound.1 (ap later is)

pub no_record : (s : List (List ℕ × Val)) (i : ℕ) (x : List ℕ × Val) → i < length s → x ≡ get_or s i x → ((c : change.RecordOpTree) → change.IsSoundChange c → data_of x.1 ≡ change_data c → ⊥)
    → (cs : change.RecordOps) → change.AreSoundChanges cs → pairs_view s ≡ diff_pairs cs → ⊥
no_record [] i x within here never cs sound is = absurd (omega arith)
no_record (y ∷ s) i x within here never [] sound is = cc
no_record (y ∷ s) zero x within here never (c ∷ cs) sound is = never c.1 sound.0 (ap (λ z. data_of z.1) here ∙ ap value_of_first is)
no_record (y ∷ s) (suc i) x within here never (c ∷ cs) sound is = no_record s i x (omega arith) here never cs sound.1 (ap later is)

pub depth_entry : (s : List (List ℕ × Val)) (i : ℕ) (x : List ℕ × Val) → i < length s → x ≡ get_or s i x → depth (data_of x.1) ≤ members_depth (members_of (pairs_view s))
depth_entry [] i x within here = absurd (omega arith)
depth_entry (y ∷ s) zero x within here = rw here (omega arith)
depth_entry (y ∷ s) (suc i) x within here = omega (arith, depth_entry s i x (omega arith) here)

pub one_change : (a b : change.RecordOpTree) → change_data a ≡ change_data b → a ≡ b
one_change a b is = sym (change_in-change_data a) ∙ ap change_in is ∙ change_in-change_data b

abbrev changes_in : Pairs → change.RecordOps
changes_in [] = []
changes_in (p ∷ ps) = (p.0, change_in p.1) ∷ changes_in ps

changes_in-diff_pairs : (cs : change.RecordOps) → changes_in (diff_pairs cs) ≡ cs
changes_in-diff_pairs [] = refl
changes_in-diff_pairs (c ∷ cs) = λ i. (c.0, change_in-change_data c.1 i) ∷ changes_in-diff_pairs cs i

pub one_diff : (a b : change.RecordOps) → map (members_of (diff_pairs a)) ≡ map (members_of (diff_pairs b)) → a ≡ b
one_diff a b is = sym (changes_in-diff_pairs a) ∙ ap changes_in (same_map (diff_pairs a) (diff_pairs b) is) ∙ changes_in-diff_pairs b
