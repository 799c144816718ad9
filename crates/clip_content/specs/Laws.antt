-- The laws of copies and pastes, each the contract of a function of `laws.rt`.
use Rattle.std.specs.Prelude.{◌≡◌, ℕ, nat_lt, nat_le, length, List, [], Bool, true, false, ◌&&◌, ◌++◌, map, is_some, unwrap_or, Some, None, Ok, IsTrue, All, AllPairs}
use Rattle.std.specs.List.{list_all}
use Rattle.std.specs.Option.{option_map_or}
use Rattle.std.specs.Ordering.{is_lt}
use Rattle.rooms_val.specs.Data.{Data, Pairs}
use Rattle.rooms_val.specs.Kinds.{as_map, text_at}
use Rattle.rooms_val.specs.Maps.{AreRising, value_at, seen, order}
use Rattle.field_ops.specs.RecordOps.{put}
use Rattle.doc_model.specs.Documents.{fold_raw}
use Rattle.index_keys.specs.Order.{is_less}
use Rattle.shape_tree.specs.Trees.{is_child, children, bound}
use Rattle.side_effects.specs.ReachingLaws.{IsClosed}
use Rattle.side_effects.specs.Records.{index_of, has}
use Rattle.side_effects.specs.Whole.{parents}
use Rattle.room_model.specs.Clips.{ClipTree, TargetTree, is_prefix}
use Rattle.clip_content.specs.Copied.{is_one_of, is_copied, taken}
use Rattle.clip_content.specs.Pasted.{new_shape, new_binding, is_top, tops, indices_of, pasted_shape, pasted_shapes, pasted_bindings, first_taken, new_ids, puts, keys_behind}

-- the ids that are copied are the least set with the given ids, and with each shape whose parent is one of the set
pub record CopiesFor (m : Pairs) (ids : List (List ℕ)) : Type 0 where
  pub closed : IsClosed (parents m) (is_one_of ids) (is_copied m ids)
  pub least : (in_set : List ℕ → Bool) → IsClosed (parents m) (is_one_of ids) in_set → (id : List ℕ) → is_copied m ids id ≡ true → in_set id ≡ true

abbrev pub CopiesTheLeastSet : Type 0
CopiesTheLeastSet = (m : Pairs) (ids : List (List ℕ)) → CopiesFor m ids

-- a copy of some ids of a document, and its paste into a document, by keys for the tops, that isn't refused
pub record IsPaste (source : Pairs) (ids : List (List ℕ)) (clip : ClipTree) (document : Pairs) (target : TargetTree) (keys : List (List ℕ)) : Type 0 where
  pub rising : AreRising source × AreRising document
  pub taken : taken source ids ≡ Ok clip
  pub prefix : IsTrue (is_prefix target.prefix)
  pub free : first_taken clip target document ≡ None
  pub keyed : keys_behind clip document target.parent ≡ Ok keys
  -- what completion asks of the edit
  pub parent : has document target.parent ≡ true

-- the records that a paste adds, the bindings first
abbrev pub added : ClipTree → TargetTree → List (List ℕ) → Pairs
added clip target keys = pasted_bindings clip target ++ pasted_shapes clip target (indices_of (tops clip) keys)

-- what a paste adds is these records, none of which was there, and nothing else
pub record Adds (document : Pairs) (more : Pairs) : Type 0 where
  pub rising : AreRising more
  pub diff : puts more ≡ seen put more
  pub fresh : (id : List ℕ) (d : Data) → value_at more id ≡ Some d → value_at document id ≡ None
  pub after : (id : List ℕ) → value_at (fold_raw document (puts more)) id ≡ option_map_or (λ d. Some d) (value_at more id) (value_at document id)

abbrev pub AddsTheseRecords : Type 0
AddsTheseRecords = (source : Pairs) (ids : List (List ℕ)) (clip : ClipTree) (document : Pairs) (target : TargetTree) (keys : List (List ℕ))
    → IsPaste source ids clip document target keys → Adds document (added clip target keys)

-- the id that is named as taken is the least of the new ids that the document has
abbrev pub NamesTheLeastTaken : Type 0
NamesTheLeastTaken = (source : Pairs) (ids : List (List ℕ)) (clip : ClipTree) (document : Pairs) (target : TargetTree)
    → AreRising source → taken source ids ≡ Ok clip → (id : List ℕ) → first_taken clip target document ≡ Some id
    → (other : List ℕ) → is_one_of (new_ids clip target) other ≡ true → has document other ≡ true → is_lt (order other id) ≡ false

-- among the added shapes, those under the new id of a shape are its copied children, in their order
abbrev pub KeepsChildrenInOrder : Type 0
KeepsChildrenInOrder = (source : Pairs) (ids : List (List ℕ)) (clip : ClipTree) (document : Pairs) (target : TargetTree) (keys : List (List ℕ))
    → IsPaste source ids clip document target keys → (id : List ℕ) → has clip.shapes id ≡ true
    → children (pasted_shapes clip target (indices_of (tops clip) keys)) (new_shape clip target id) ≡ map (new_shape clip target) (children source id)

-- the added bindings at the new id of a shape are the copied ones at the shape
abbrev pub KeepsBindingsWithin : Type 0
KeepsBindingsWithin = (source : Pairs) (ids : List (List ℕ)) (clip : ClipTree) (document : Pairs) (target : TargetTree) (keys : List (List ℕ))
    → IsPaste source ids clip document target keys → (id : List ℕ) → has clip.shapes id ≡ true
    → bound (pasted_bindings clip target) (new_shape clip target id) ≡ map (new_binding clip target) (bound clip.bindings id)

-- the index that a top gets
abbrev pub index_for : ClipTree → List (List ℕ) → List ℕ → List ℕ
index_for clip keys id = unwrap_or (text_at (indices_of (tops clip) keys) id) []

-- a shape of a clip is a map whose parent isn't copied
pub record IsTopIn (clip : ClipTree) (e : List ℕ × Data) : Type 0 where
  pub there : value_at clip.shapes e.0 ≡ Some e.1
  pub top : is_top clip e.1 ≡ true
  pub is_map : is_some (as_map e.1) ≡ true

-- the added tops are children of the parent of the paste, and their indices, in the order of the tops, rise and are
-- greater than those of all other children
pub record StandsLast (clip : ClipTree) (document : Pairs) (target : TargetTree) (keys : List (List ℕ)) : Type 0 where
  pub under : (e : List ℕ × Data) → IsTopIn clip e
      → is_child target.parent (new_shape clip target e.0, pasted_shape clip target (indices_of (tops clip) keys) e) ≡ true
  pub indexed : (e : List ℕ × Data) → IsTopIn clip e → index_of (pasted_shape clip target (indices_of (tops clip) keys) e) ≡ index_for clip keys e.0
  pub in_order : map (index_for clip keys) (tops clip) ≡ keys
  pub rising : AllPairs (λ first second. IsTrue (is_less first second)) keys
  pub behind : (c : List ℕ × Data) → value_at document c.0 ≡ Some c.1 → is_child target.parent c ≡ true
      → All (λ key. IsTrue (is_less (index_of c.1) key)) keys

abbrev pub PutsTopsLast : Type 0
PutsTopsLast = (source : Pairs) (ids : List (List ℕ)) (clip : ClipTree) (document : Pairs) (target : TargetTree) (keys : List (List ℕ))
    → IsPaste source ids clip document target keys → StandsLast clip document target keys
