-- The one value by which each event of a recording is written, watches and queries among them.
use Rattle.std.specs.Prelude.{ℕ, List, [], ◌∷◌, codes}
use Rattle.rooms_val.specs.Data.{Data, Pairs, text, map, members_of}
use Rattle.shape_tree.specs.declared.query.Query.{Query}
use Rattle.shape_tree.specs.declared.view.View.{View}
use Rattle.view_vals.specs.Queries.{query_data}
use Rattle.view_vals.specs.Views.{view_data}
use Rattle.rec_format.specs.Events.{client_is, does, event_fields, IsProper}
use Rattle.rec_format.specs.declared.recorded.RecordedEvent.{RecordedEvent}
use Rattle.rec_format.specs.declared.recorded.RecordedEvent.TheVariants as recorded
use Rattle.rec_format.specs.declared.verb.Verb.TheVariants as verb

-- a client begins to watch a view: `{"client":C,"do":"watch","view":VIEW}`
abbrev pub watch_fields : ℕ → View → Pairs
watch_fields c view = client_is c ∷ does verb.Watch ∷ (codes "view", view_data view) ∷ []

-- a client asks a query of the records of a type: `{"client":C,"do":"query","type":T,"where":QUERY}`
abbrev pub query_fields : ℕ → List ℕ → Query → Pairs
query_fields c type query = client_is c ∷ does verb.Query ∷ (codes "type", text type) ∷ (codes "where", query_data query) ∷ []

-- the fields of an event, by key
abbrev pub recorded_fields : RecordedEvent → Pairs
recorded_fields (recorded.World e) = event_fields e
recorded_fields (recorded.Watch c view) = watch_fields c view
recorded_fields (recorded.Query c type query) = query_fields c type query

-- the value of an event
abbrev pub recorded_val : RecordedEvent → Data
recorded_val e = map (members_of (recorded_fields e))

-- the event of the world is proper; watches and queries are so as they are
abbrev pub IsProperRecorded : RecordedEvent → Type 0
IsProperRecorded (recorded.World e) = IsProper e
IsProperRecorded (recorded.Watch c view) = Unit {0}
IsProperRecorded (recorded.Query c type query) = Unit {0}
