-- The lines that say what came of workers and rooms.
use Rattle.std.specs.Prelude.{ℕ, ◌+◌, List, [], ◌∷◌, ◌++◌, length, count_by, codes, decimal, is_some, Bool}
use Rattle.room_model.specs.Histories.{records_of}
use Rattle.room_model.specs.Schemas.{doc, pres}
use Rattle.room_run.specs.declared.close.Closed.{Closed}
use Rattle.room_serve.specs.declared.report.Report.{Report}
use Rattle.room_serve.specs.declared.tally.Tally.{Tally}
use Rattle.room_server.specs.Opened.{schemas_of, state_of_pen}
use Rattle.rooms_val.specs.Data.{map, members_of, Pairs}
use Rattle.rooms_val.specs.Json.{text_of}

-- whether a link was closed for a reason
abbrev pub is_ended : Report → Bool
is_ended report = is_some report.ended

-- a worker's: `{"ended":E,"faults":F,"links":N,"memory":M,"worker":I}`
abbrev pub worker_text : ℕ → ℕ → ℕ → ℕ → ℕ → List ℕ
worker_text ended faults links memory worker =
    codes "{\"ended\":" ++ decimal ended ++ codes ",\"faults\":" ++ decimal faults ++ codes ",\"links\":" ++ decimal links
    ++ codes ",\"memory\":" ++ decimal memory ++ codes ",\"worker\":" ++ decimal worker ++ codes "}\n"

-- by its tally: how many of its links were closed for a reason, had a fault, were served, and were refused memory
abbrev pub worker_line : ℕ → Tally → List ℕ
worker_line worker tally =
    let reports = tally.reports.items in
    worker_text (count_by is_ended reports) (count_by (λ report. report.fault) reports) (length reports) (count_by (λ report. report.memory) reports) worker

-- a room's, by the texts of its document and its presence: `{"clock":C,"doc":D,"presence":P,"room":I}`
abbrev pub room_text : ℕ → List ℕ → List ℕ → ℕ → List ℕ
room_text clock document presence room =
    codes "{\"clock\":" ++ decimal clock ++ codes ",\"doc\":" ++ document ++ codes ",\"presence\":" ++ presence ++ codes ",\"room\":" ++ decimal room
    ++ codes "}\n"

-- the text of records, as a map by id
abbrev pub records_text : Pairs → List ℕ
records_text records = text_of (map (members_of records))

-- by what the room is after its pen
abbrev pub room_line : ℕ → Closed → List ℕ
room_line room closed =
    let history = (state_of_pen closed).history in
    let schemas = schemas_of closed in
    room_text (length history) (records_text (doc schemas (records_of history))) (records_text (pres schemas (records_of history))) room

-- the lines of some, numbered from a number on
abbrev pub numbered : {A : Type 0} → (ℕ → A → List ℕ) → ℕ → List A → List ℕ
numbered line number [] = []
numbered line number (one ∷ more) = line number one ++ numbered line (number + 1) more

-- all lines: those of the workers, and then those of the rooms
abbrev pub outcome_text : List Tally → List Closed → List ℕ
outcome_text tallies closed = numbered worker_line 0 tallies ++ numbered room_line 0 closed
