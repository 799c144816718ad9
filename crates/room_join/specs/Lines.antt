-- What a client prints, and the text of lines.
use Rattle.std.specs.Prelude.{ℕ, ℤ, pos, List, [], ◌∷◌, ◌++◌, true, codes}
use Rattle.rooms_val.specs.Data.{Pairs, boolean, whole, map, members_of}
use Rattle.rooms_val.specs.Json.{text_of}
use Rattle.rec_format.specs.Outs.{number_val}
use Rattle.rec_format.specs.Printed.{printed_fields}
use Rattle.room_join.specs.declared.join_line.JoinLine.{JoinLine}
use Rattle.room_join.specs.declared.join_line.JoinLine.TheVariants as line

-- the client, which has number 0: `{"client":0}`
abbrev pub client_alone : Pairs
client_alone = (codes "client", whole (pos 0)) ∷ []

-- the link has ended: `{"client":0,"lost":true}`
abbrev pub lost_fields : Pairs
lost_fields = (codes "client", whole (pos 0)) ∷ (codes "lost", boolean true) ∷ []

-- nothing came for so long that a wait was over: `{"client":0,"idle":true}`
abbrev pub idle_fields : Pairs
idle_fields = (codes "client", whole (pos 0)) ∷ (codes "idle", boolean true) ∷ []

-- the script has ended: `{"clock":CLOCK,"end":true,"owed":N}`
abbrev pub end_fields : ℤ → ℕ → Pairs
end_fields clock owed = (codes "clock", whole clock) ∷ (codes "end", boolean true) ∷ (codes "owed", number_val owed) ∷ []

-- the fields of a line, by key
abbrev pub line_fields : JoinLine → Pairs
line_fields (line.Printed printed) = printed_fields printed
line_fields line.Lost = lost_fields
line_fields line.Idle = idle_fields
line_fields (line.End clock owed) = end_fields clock owed

-- the text that fields are printed as
abbrev pub fields_text : Pairs → List ℕ
fields_text fields = text_of (map (members_of fields))

-- the byte that ends a line
abbrev pub newline : ℕ
newline = 10

-- the text of a line, with its newline
abbrev pub written_line : List ℕ → List ℕ
written_line text = text ++ newline ∷ []
