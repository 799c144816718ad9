-- What a client can take back: its history of marks and of inverses of its own edits, and what undo, redo and bail make of
-- it.
--
-- An undo, a redo and a bail have two halves. The first gives the diff that is to be done to the document; the second makes
-- the next history and redo list of the inverse of what acted.
use Rattle.std.specs.Prelude.{ℕ, ◌-◌, List, [], ◌∷◌, ◌++◌, length, map, take, drop, filter_map, Bool, false, if◌then◌else◌, Option, Some, None, option_map, is_some}
use Rattle.std.specs.List.{list_any, suffix_len, before_last, after_last}
use Rattle.std.specs.Option.{option_map_or}
use Rattle.std.specs.Str.{bytes_eq}
use Rattle.field_ops.specs.RecordOps.{RecordOps}
use Rattle.doc_model.specs.Merging.{merge}

-- an item of a client's history: a mark with its name, or the inverse of an edit
pub data Item : Type 0 where
  mark : List ℕ → Item
  inverse : RecordOps → Item

-- an entry of the redo list: the diff to do again, and the names of the marks that the undo dropped, the oldest first
pub record Redo : Type 0 where
  pub diff : RecordOps
  pub dropped : List (List ℕ)

-- a client's history, the oldest item first, and its redo list, the newest entry first
pub record Marks : Type 0 where
  pub history : List Item
  pub redos : List Redo

-- nothing to take back, and nothing to redo
abbrev pub no_marks : Marks
no_marks = record { history = []; redos = [] }

-- the name of an item that is a mark
abbrev pub name_in : Item → Option (List ℕ)
name_in (mark name) = Some name
name_in (inverse diff) = None

-- the diff of an item that is an inverse
abbrev pub diff_in : Item → Option RecordOps
diff_in (mark name) = None
diff_in (inverse diff) = Some diff

-- whether an item is a mark
abbrev pub is_mark : Item → Bool
is_mark item = is_some (name_in item)

-- whether an item is an inverse
abbrev pub is_inverse : Item → Bool
is_inverse item = is_some (diff_in item)

-- whether an item is a mark of this name
abbrev pub is_named : List ℕ → Item → Bool
is_named name item = option_map_or (bytes_eq name) (name_in item) false

-- the last items, as far back as they pass a test
abbrev pub at_end : (Item → Bool) → List Item → List Item
at_end test items = drop (length items - suffix_len test items) items

-- the items before those
abbrev pub before_end : (Item → Bool) → List Item → List Item
before_end test items = take (length items - suffix_len test items) items

-- a history as an undo sees it: what stays, then the inverses that are taken back, then the marks that are dropped
pub record Parts : Type 0 where
  pub kept : List Item
  pub taken : List RecordOps
  pub dropped : List (List ℕ)

-- the marks at the end are dropped, and the inverses before them taken back, up to the next mark or the bottom
abbrev pub parts_of : List Item → Parts
parts_of history =
    let rest = before_end is_mark history in
    record { kept = before_end is_inverse rest; taken = filter_map diff_in (at_end is_inverse rest); dropped = filter_map name_in (at_end is_mark history) }

-- the one diff that does inverses, the newest first; none where there is no inverse
abbrev pub merge_some : List RecordOps → Option RecordOps
merge_some [] = None
merge_some (diff ∷ diffs) = Some (merge (diff ∷ diffs))

-- what joins a history for the inverse of what acted: an item that holds it, or nothing where it is empty
abbrev pub inverse_items : RecordOps → List Item
inverse_items [] = []
inverse_items (c ∷ diff) = inverse (c ∷ diff) ∷ []

-- the diff that an undo does; none where the history holds no inverse
abbrev pub undo_diff : Marks → Option RecordOps
undo_diff marks = merge_some (parts_of marks.history).taken

-- the diff of the newest entry of a redo list, if there is one
abbrev pub first_redo : List Redo → Option RecordOps
first_redo [] = None
first_redo (redo ∷ redos) = Some redo.diff

-- the diff that a redo does; none where there is nothing to redo
abbrev pub redo_diff : Marks → Option RecordOps
redo_diff marks = first_redo marks.redos

-- the diff that a bail does: all inverses after the last mark of the name; none where there is no such mark
abbrev pub bail_diff : List ℕ → Marks → Option RecordOps
bail_diff name marks =
    if list_any (is_named name) marks.history then Some (merge (filter_map diff_in (after_last (is_named name) marks.history))) else None

-- a mark is made
abbrev pub after_mark : List ℕ → Marks → Marks
after_mark name marks = record marks { history = marks.history ++ mark name ∷ [] }

-- an edit was done, of which this is the inverse: it joins the history unless it is empty, and there is nothing to redo
abbrev pub after_edit : RecordOps → Marks → Marks
after_edit back marks = record { history = marks.history ++ inverse_items back; redos = [] }

-- the diff of an undo was done, of which this is the inverse: it joins the redo list, also where it is empty
abbrev pub after_undo : RecordOps → Marks → Marks
after_undo back marks =
    let parts = parts_of marks.history in
    record { history = parts.kept; redos = record { diff = back; dropped = parts.dropped } ∷ marks.redos }

-- a history and a redo list without its newest entry: the inverse of what acted joins the history, and then the entry's
-- marks
abbrev pub after_first_redo : RecordOps → List Item → List Redo → Marks
after_first_redo back history [] = record { history = history; redos = [] }
after_first_redo back history (redo ∷ redos) = record { history = history ++ inverse_items back ++ map mark redo.dropped; redos = redos }

-- the diff of a redo was done, of which this is the inverse: it joins the history unless it is empty, and then the dropped
-- marks
abbrev pub after_redo : RecordOps → Marks → Marks
after_redo back marks = after_first_redo back marks.history marks.redos

-- the diff of a bail was done: the mark goes with all that is after it, and there is nothing to redo
abbrev pub after_bail : List ℕ → Marks → Marks
after_bail name marks = record { history = before_last (is_named name) marks.history; redos = [] }
