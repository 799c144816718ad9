-- The words of the command line.
use Rattle.std.specs.Prelude.{ℕ, ◌≤◌, ⊤, ◌-◌, ◌^◌, List, [], ◌∷◌, codes, Bool, true, false, if◌then◌else◌, Option, Some, None, option_map, option_and_then, ◌&&◌}
use Rattle.std.specs.Str.{bytes_eq}
use Rattle.rooms.specs.Numbers.{number_between}
use Rattle.rooms.specs.declared.job.Job.{Job}
use Rattle.rooms.specs.declared.job.Job.TheVariants.{Replay, Save, Restore, Make, Serve, Join}
use Rattle.rooms.specs.declared.job.TheConstants.{MOST_DRAWS, MOST_PORT, MOST_WORKERS, MOST_ROOMS, MOST_LINKS, LAST_ROOM}

-- `replay` or `restore`
abbrev pub word_named : List ℕ → Option Job
word_named word = if bytes_eq word (codes "replay") then Some (Replay false) else if bytes_eq word (codes "restore") then Some Restore else None

-- a flag of `replay`
abbrev pub replay_named : List ℕ → Option Job
replay_named flag = if bytes_eq flag (codes "--trace") then Some (Replay true) else if bytes_eq flag (codes "--save") then Some Save else None

-- a seed of 64 bits, and a size from 1 on
abbrev pub make_named : List ℕ → List ℕ → Bool → Option Job
make_named seed size print =
    option_and_then (λ s. option_map (λ n. Make s n print) (number_between 1 MOST_DRAWS size)) (number_between 0 (2 ^ 64 - 1) seed)

-- a port, and how many workers, rooms, and links of a worker there are, each from 1 on
abbrev pub serve_named : List ℕ → List ℕ → List ℕ → List ℕ → Option Job
serve_named port workers rooms links =
    option_and_then (λ p. option_and_then (λ w. option_and_then (λ r. option_map (λ l. Serve p w r l) (number_between 1 MOST_LINKS links))
    (number_between 1 MOST_ROOMS rooms)) (number_between 1 MOST_WORKERS workers)) (number_between 1 MOST_PORT port)

-- a port from 1 on, and a room
abbrev pub join_named : List ℕ → List ℕ → Option Job
join_named port room = option_and_then (λ p. option_map (λ r. Join p r) (number_between 0 LAST_ROOM room)) (number_between 1 MOST_PORT port)

-- `make` or `join` with two numbers
abbrev pub numbers_named : List ℕ → List ℕ → List ℕ → Option Job
numbers_named word first second =
    if bytes_eq word (codes "make") then make_named first second false else if bytes_eq word (codes "join") then join_named first second else None

-- the row of the usage that the words are in: `replay`, `replay --trace`, `replay --save`, `restore`, `make SEED SIZE`,
-- `make SEED SIZE --print`, `serve PORT WORKERS ROOMS LINKS` or `join PORT ROOM`
abbrev pub job_named : List (List ℕ) → Option Job
job_named [] = None
job_named (word ∷ []) = word_named word
job_named (word ∷ flag ∷ []) = if bytes_eq word (codes "replay") then replay_named flag else None
job_named (word ∷ first ∷ second ∷ []) = numbers_named word first second
job_named (word ∷ seed ∷ size ∷ flag ∷ []) = if bytes_eq word (codes "make") && bytes_eq flag (codes "--print") then make_named seed size true else None
job_named (word ∷ port ∷ workers ∷ rooms ∷ links ∷ []) = if bytes_eq word (codes "serve") then serve_named port workers rooms links else None
job_named (word ∷ first ∷ second ∷ third ∷ fourth ∷ next ∷ words) = None

-- a server has 1 to 16 rooms
abbrev pub HasRooms : Job → Type 0
HasRooms (Replay trace) = ⊤
HasRooms Save = ⊤
HasRooms Restore = ⊤
HasRooms (Make seed size print) = ⊤
HasRooms (Serve port workers rooms links) = (1 ≤ rooms) × (rooms ≤ MOST_ROOMS)
HasRooms (Join port room) = ⊤
