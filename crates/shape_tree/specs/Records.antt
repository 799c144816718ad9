-- Records by id, as the queries see them. Nothing is asked of a record: a field of a wrong kind counts as a missing one.
use Rattle.std.specs.Prelude.{ℕ, List, [], Bool, false, option_and_then, bytes_eq, codes}
use Rattle.std.specs.List.{fold}
use Rattle.std.specs.Option.{option_map_or, unwrap_or}
use Rattle.rooms_val.specs.Data.{Data, Pairs}
use Rattle.rooms_val.specs.Kinds.{as_text, field}
use Rattle.rooms_val.specs.Maps.{with_key}
use Rattle.record_valid.specs.Ids.{type_part}

-- the text under a key of a record, and the empty text where there is none
abbrev pub text_or_empty : Data → List ℕ → List ℕ
text_or_empty d key = unwrap_or (option_and_then as_text (field d key)) []

-- the id is one of a type
abbrev pub is_id_of : List ℕ → List ℕ → Bool
is_id_of type id = option_map_or (λ name. bytes_eq name type) (type_part id) false

abbrev pub is_shape : List ℕ → Bool
is_shape = is_id_of (codes "shape")

abbrev pub is_binding : List ℕ → Bool
is_binding = is_id_of (codes "binding")

-- the map with a record under its `id`; where that is no text the map stays
abbrev pub with_record : Pairs → Data → Pairs
with_record m d = option_map_or (λ id. with_key m id d) (option_and_then as_text (field d (codes "id"))) m

-- the map that a list of records stands for; of two records with one id the later counts
abbrev pub by_id : List Data → Pairs
by_id ds = fold with_record [] ds
