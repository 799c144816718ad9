-- What borrowed records stand for.
use Rattle.std.specs.Prelude.{ℕ, List, Option, option_map, map}
use denote.Ref.{Bor}
use Rattle.rooms_val.specs.Data.{Data, Pairs}
use Rattle.rooms_val.specs.View.{data_of}
use Rattle.rooms_val.specs.declared.val.Val.{Val}

-- the value, if there is one
abbrev pub maybe_data : Option (Bor Val) → Option Data
maybe_data o = option_map (λ v. data_of v.now) o

-- the records under borrowed ids
abbrev pub pairs_view : List (Bor (List ℕ) × Bor Val) → Pairs
pairs_view es = map (λ e. (e.0.now, data_of e.1.now)) es
