-- The one value by which each header and each event of a recording is written.
use Rattle.std.specs.Prelude.{ℕ, ℤ, pos, List, [], ◌∷◌, codes, IsTrue}
use Rattle.rooms_val.specs.Data.{Data, Pairs, boolean, whole, text, map, members_of}
use Rattle.rooms_val.specs.Json.{greatest_whole}
use Rattle.rooms_val.specs.View.{data_of}
use Rattle.rooms_val.specs.declared.val.Val.{Val}
use Rattle.record_valid.specs.Ids.{IsIdOf}
use Rattle.shape_tree.specs.Boxes.{IsWithin}
use Rattle.shape_tree.specs.Views.{ids_data}
use Rattle.field_ops.specs.RecordOps.{IsSoundDiff}
use Rattle.field_ops.specs.WireRecordOps.{diff_data}
use Rattle.room_model.specs.Clips.{is_prefix}
use Rattle.room_model.specs.declared.event.Event.{Event}
use Rattle.room_model.specs.declared.event.Event.TheVariants as event
use Rattle.room_model.specs.declared.event.Header.{Header}
use Rattle.tl_tables.specs.Tables.{IsVersion}
use Rattle.rec_format.specs.Verbs.{word_of}
use Rattle.rec_format.specs.declared.verb.Verb.{Verb}
use Rattle.rec_format.specs.declared.verb.Verb.TheVariants as verb

-- a field as its key and what its value stands for
abbrev pub field_of : List ℕ × Val → List ℕ × Data
field_of f = (f.0, data_of f.1)

-- the fields of a header, by key: `{"recording":1,"version":V}`
abbrev pub header_fields : Header → Pairs
header_fields h = (codes "recording", whole (pos 1)) ∷ (codes "version", whole (pos h.version)) ∷ []

-- the value of a header
abbrev pub header_val : Header → Data
header_val h = map (members_of (header_fields h))

abbrev pub does : Verb → List ℕ × Data
does v = (codes "do", text (word_of v))

abbrev pub client_is : ℕ → List ℕ × Data
client_is c = (codes "client", whole (pos c))

-- an event of a client that has no further field: `{"client":C,"do":"show"}`
abbrev pub of_client : Verb → ℕ → Pairs
of_client v c = client_is c ∷ does v ∷ []

-- an event of a client that has a name: `{"client":C,"do":"mark","name":"N"}`
abbrev pub with_name : Verb → ℕ → List ℕ → Pairs
with_name v c name = client_is c ∷ does v ∷ (codes "name", text name) ∷ []

-- an event of a session: `{"do":"handle","session":S}`
abbrev pub of_session : Verb → ℕ → Pairs
of_session v s = does v ∷ (codes "session", whole (pos s)) ∷ []

-- a client pastes: `{"client":C,"do":"paste","dx":X,"dy":Y,"parent":ID,"prefix":TEXT}`
abbrev pub paste_fields : ℕ → ℤ → ℤ → List ℕ → List ℕ → Pairs
paste_fields c dx dy parent prefix = client_is c ∷ does verb.Paste ∷ (codes "dx", whole dx) ∷ (codes "dy", whole dy)
    ∷ (codes "parent", text parent) ∷ (codes "prefix", text prefix) ∷ []

-- the fields of an event, by key
abbrev pub event_fields : Event → Pairs
event_fields (event.Client v) = does verb.Client ∷ (codes "version", whole (pos v)) ∷ []
event_fields (event.Connect c readonly) = client_is c ∷ does verb.Connect ∷ (codes "readonly", boolean readonly) ∷ []
event_fields (event.Edit c diff) = client_is c ∷ (codes "diff", diff_data diff) ∷ does verb.Edit ∷ []
event_fields (event.Presence c r) = client_is c ∷ does verb.Presence ∷ (codes "record", data_of r) ∷ []
event_fields (event.Mark c name) = with_name verb.Mark c name
event_fields (event.Undo c) = of_client verb.Undo c
event_fields (event.Redo c) = of_client verb.Redo c
event_fields (event.Bail c name) = with_name verb.Bail c name
event_fields (event.Copy c ids) = client_is c ∷ does verb.Copy ∷ (codes "ids", ids_data ids) ∷ []
event_fields (event.Paste c dx dy parent prefix) = paste_fields c dx dy parent prefix
event_fields (event.Handle s) = of_session verb.Handle s
event_fields (event.Send s) = of_session verb.Send s
event_fields (event.Deliver c) = of_client verb.Deliver c
event_fields (event.Cut c) = of_client verb.Cut c
event_fields (event.Lose s) = of_session verb.Lose s
event_fields (event.Show c) = of_client verb.Show c
event_fields event.End = does verb.End ∷ []

-- the value of an event
abbrev pub event_val : Event → Data
event_val e = map (members_of (event_fields e))

-- how far a paste moves, in each direction
abbrev pub IsMove : ℤ → Type 0
IsMove = IsWithin greatest_whole

-- the id of a page or of a shape
abbrev pub IsParentId : List ℕ → Type 0
IsParentId id = IsIdOf (codes "page" ∷ codes "shape" ∷ []) id

-- the version of a client is one that recordings may have, the ids of a diff rise, as those of every `Diff` do, and a paste goes
-- under a page or a shape, by a prefix that ids may have
abbrev pub IsProper : Event → Type 0
IsProper (event.Client v) = IsVersion v
IsProper (event.Edit c diff) = IsSoundDiff diff
IsProper (event.Paste c dx dy parent prefix) = IsMove dx × IsMove dy × IsParentId parent × IsTrue (is_prefix prefix)
IsProper _ = Unit {0}
