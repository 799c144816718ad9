-- Which part of a push a room accepts, and what it makes of the push.
use Rattle.std.specs.Prelude.{◌≡◌, ℕ, ◌==◌, nat_le, ℤ, List, [], ◌∷◌, length, map, sum, codes, Bool, true, false, ◌&&◌, ◌||◌, if◌then◌else◌, Option, Some, None, option_map, option_and_then}
use Rattle.std.specs.List.{list_all}
use Rattle.std.specs.Option.{option_map_or}
use Rattle.rooms_val.specs.Data.{Data, text, Pairs}
use Rattle.rooms_val.specs.Maps.{value_at, with_key as put_key, set_at, added}
use Rattle.rooms_val.specs.Weight.{weight}
use Rattle.field_ops.specs.RecordOps.{RecordOpTree, put, patch, remove, RecordOps}
use Rattle.field_ops.specs.Patched.{raw}
use Rattle.rooms_val.specs.Kinds.{on_map}
use Rattle.doc_model.specs.Documents.{acts_on}
use Rattle.room_model.specs.Schemas.{Schemas, Plan, Member, doc, presence_id}
use Rattle.room_model.specs.declared.history.Author.{Author}
use Rattle.room_model.specs.declared.history.Entry.{Entry}
use Rattle.room_model.specs.declared.limits.TheConstants.{MOST_RECORDS, MOST_WEIGHT}
use Rattle.sync_msgs.specs.declared.data_event.Action.{Action}
use Rattle.sync_msgs.specs.declared.data_event.Action.TheVariants.{Commit, Discard, Rebase}

-- what a push says: its number, its diff, the empty one if it has none, and what happens to the session's presence
pub record Push : Type 0 where
  -- from 0; a client counts from 1
  pub client_clock : ℤ
  pub diff : RecordOps
  pub presence : Option RecordOpTree

-- the diff of a push; one that has none has the empty one
abbrev pub pushed_diff : Option RecordOps → RecordOps
pushed_diff None = []
pushed_diff (Some diff) = diff

-- whether there is no migration in a plan
abbrev pub is_empty : Plan → Bool
is_empty [] = true
is_empty (place ∷ plan) = false

-- a record with this id, where it is a map
abbrev pub with_id : List ℕ → Data → Data
with_id id d = on_map (λ ps. put_key ps (codes "id") (text id)) d

-- an operation with what it puts changed
abbrev pub on_put : (Data → Data) → RecordOpTree → RecordOpTree
on_put f (put d) = put (f d)
on_put f (patch p) = patch p
on_put f remove = remove

-- a patch as the put of what it makes of a record; of no record it stays the patch
abbrev pub as_put : RecordOpTree → Option Data → RecordOpTree
as_put c r = option_map_or (λ d. put d) (raw c r) c

-- what an operation at an older schema is at the room's: what it puts is taken up, and a patch is done to the record as it is
-- seen there
abbrev pub raise_op : (Data → Data) → (Data → Data) → RecordOpTree → Option Data → RecordOpTree
raise_op raise lower (put d) r = put (raise d)
raise_op raise lower (patch p) r = on_put raise (as_put (patch p) (option_map lower r))
raise_op raise lower remove r = remove

-- the action of a push, by its diff and the part that was accepted: all of it, of a session at the room's schema; or nothing; or
-- the part
abbrev pub action_of : Plan → RecordOps → RecordOps → Action
action_of plan [] part = Commit
action_of plan (c ∷ diff) [] = Discard
action_of plan (c ∷ diff) (d ∷ part) = if is_empty plan && length part == length diff then Commit else Rebase (d ∷ part)

module _ (schemas : Schemas) where
  -- what an operation puts is admitted under the id
  abbrev pub is_put_admitted : List ℕ → RecordOpTree → Bool
  is_put_admitted id (put d) = schemas.admits id d
  is_put_admitted id (patch p) = true
  is_put_admitted id remove = true

  -- each operation names an id of the document, and what it puts is admitted once it is taken up
  abbrev pub is_fit : Plan → RecordOps → Bool
  is_fit plan diff = list_all (λ c. schemas.is_document c.0 && is_put_admitted c.0 (on_put (schemas.raise plan) c.1)) diff

  -- what happens to the session's presence: what is put is taken up, and has the id of the session's presence
  abbrev pub own_presence : Member → RecordOpTree → RecordOpTree
  own_presence member c = on_put (λ d. with_id (presence_id member.session) (schemas.raise member.plan d)) c

  -- a push isn't refused: the diff is fit, unless the session is read-only, and what the presence puts is admitted
  abbrev pub is_taken : Member → Push → Bool
  is_taken member push =
      (member.readonly || is_fit member.plan push.diff)
      && option_map_or (λ c. is_put_admitted (presence_id member.session) (own_presence member c)) push.presence true

  -- the operation that is tried for one of a session: as it is, where the session has the room's schema
  abbrev pub tried_op : Plan → RecordOpTree → Option Data → RecordOpTree
  tried_op [] c r = c
  tried_op (place ∷ plan) c r = raise_op (schemas.raise (place ∷ plan)) (schemas.lower (place ∷ plan)) c r

  -- the document is within the limits on the number of its records and on their weight
  abbrev pub is_within : Pairs → Bool
  is_within m = nat_le (length (doc schemas m)) MOST_RECORDS && nat_le (sum (map (λ p. weight p.1) (doc schemas m))) MOST_WEIGHT

  -- an operation is accepted where it acts, what it puts is admitted, and the document is within the limits afterwards
  abbrev pub is_accepted : Pairs → List ℕ → RecordOpTree → Bool
  is_accepted m id c = acts_on schemas.admits id c (value_at m id) && is_put_admitted id c && is_within (set_at m id (raw c (value_at m id)))

  -- the operations of a diff that are accepted, as they were tried, each in the records that those before it left
  abbrev pub accept_ops : Plan → Pairs → RecordOps → RecordOps
  accept_ops plan m [] = []
  accept_ops plan m (c ∷ diff) =
      let op = tried_op plan c.1 (value_at m c.0) in
      if is_accepted m c.0 op then (c.0, op) ∷ accept_ops plan (set_at m c.0 (raw op (value_at m c.0))) diff else accept_ops plan m diff

  -- the part of a push's diff that is accepted: nothing of a read-only session's
  abbrev pub document_part : Member → Pairs → RecordOps → RecordOps
  document_part member m diff = if member.readonly then [] else accept_ops member.plan m diff

  -- what is accepted of what a push says of the presence: a put, or a patch, which is done as it is, if it acts; a remove is passed over
  abbrev pub presence_part : Member → Pairs → RecordOpTree → Option RecordOpTree
  presence_part member m (put d) = Some (own_presence member (put d))
  presence_part member m (patch p) =
      let id = presence_id member.session in
      if acts_on schemas.admits id (patch p) (value_at m id) then Some (patch p) else None
  presence_part member m remove = None

  -- the entry of a push that isn't refused
  abbrev pub entry_of : Member → Pairs → Push → Entry
  entry_of member m push =
      let accepted = document_part member m push.diff in
      record {
        diff = added accepted (presence_id member.session) (option_and_then (presence_part member m) push.presence);
        author = Some (record { session = member.session; client_clock = push.client_clock; action = action_of member.plan push.diff accepted });
      }
