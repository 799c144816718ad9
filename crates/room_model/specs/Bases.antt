-- Which base a session's client has that was told everything, and what of the client's pending items the entries answer.
use Rattle.std.specs.Prelude.{◌≡◌, ℕ, ◌≤◌, pos, List, [], ◌∷◌, slice_get, drop, count_by, Bool, true, not, ◌&&◌, ◌||◌, Option, Some, option_map, unwrap_or}
use Rattle.std.specs.List.{list_all}
use Rattle.rooms_val.specs.Data.{Data, Pairs}
use Rattle.rooms_val.specs.Maps.{value_at}
use Rattle.field_ops.specs.RecordOps.{RecordOps}
use Rattle.room_model.specs.Schemas.{Schemas, Plan, Member, doc, seen_along, is_own, records_with}
use Rattle.room_model.specs.Histories.{History, records_of, oldest, above, last_clock, is_by}
use Rattle.room_model.specs.Acting.{document_ops}
use Rattle.room_model.specs.Messages.{hydration, snapshot_diff}
use Rattle.room_model.specs.Taking.{Replica, after_events, after_hydration}
use Rattle.room_model.specs.Replicas.{Pending, diff_in}
use Rattle.room_model.specs.declared.history.Author.{Author}
use Rattle.room_model.specs.declared.history.Entry.{Entry}
use Rattle.sync_msgs.specs.declared.data_event.Action.TheVariants.{Commit}
use Rattle.sync_msgs.specs.declared.data_event.DataEvent.{DataEvent}

module _ (schemas : Schemas) where
  -- a session's base has the document's ids and the presence of others
  abbrev pub is_told : ℕ → List ℕ → Bool
  is_told session id = schemas.is_document id || schemas.is_presence id && not (is_own session id)

  -- the base of a session that was told everything of a room's records: those of them, taken down along its plan
  abbrev pub whole_for : Plan → ℕ → Pairs → Pairs
  whole_for plan session m = seen_along schemas plan (records_with (is_told session) m)

  -- a base has the room's document, taken down, under each id whose last entry is at most at a clock
  abbrev pub AgreesUpTo : Plan → ℕ → History → Pairs → Type 0
  AgreesUpTo plan clock history base =
      (id : List ℕ) → schemas.is_document id ≡ true → last_clock history id ≤ clock
      → value_at base id ≡ value_at (seen_along schemas plan (doc schemas (records_of history))) id

  -- a snapshot of what happened since a known clock, or of all, brings a base to that of a session that was told everything
  abbrev pub Hydrates : (List ℕ → Data → Bool) → Member → Option ℕ → History → Pairs → Type 0
  Hydrates admits member known history base =
      after_hydration admits schemas.is_document base (hydration known) (snapshot_diff schemas member known history)
      ≡ whole_for member.plan member.session (records_of history)

  -- the replica of a session that was told everything of a history, with what is pending
  abbrev pub replica_at : Member → History → List Pending → Replica
  replica_at member history items = record { base = whole_for member.plan member.session (records_of history); pending = items }

  -- events bring a replica from a sent clock to the clock of a history, and the items that the session's own entries answer are
  -- pending no more
  abbrev pub BringUp : (List ℕ → Data → Bool) → Member → ℕ → History → List Pending → List DataEvent → Type 0
  BringUp admits member sent history items events =
      after_events admits (replica_at member (oldest sent history) items) events
      ≡ replica_at member history (drop (count_by (is_by member.session) (above sent history)) items)

  -- an entry names ids of the document, and presences
  abbrev pub is_scoped : Entry → Bool
  is_scoped entry = list_all (λ c. schemas.is_document c.0 || schemas.is_presence c.0) entry.diff

  -- an entry with a diff and an author answers the pending item at a place
  pub record IsAnswered (items : List Pending) (place : ℕ) (diff : RecordOps) (author : Author) : Type 0 where
    pub item : Pending
    pub there : slice_get items place ≡ Some item
    -- it has the number under which the item was pushed
    pub number : option_map pos item.sent_as ≡ Some author.client_clock
    -- if it is a commit, its document's part is the item's diff, or empty if the item has none
    pub commit : author.action ≡ Commit → document_ops schemas diff ≡ unwrap_or (diff_in item.work) []

  -- the entries of a session among some, the newest first, answer the first of its pending items, the oldest first, in order
  abbrev pub AreAnswered : ℕ → List Pending → List Entry → Type 0
  AreAnswered session items [] = Unit {0}
  AreAnswered session items (entry ∷ entries) =
      ((author : Author) → entry.author ≡ Some author → author.session ≡ session
      → IsAnswered items (count_by (is_by session) entries) entry.diff author)
      × AreAnswered session items entries
