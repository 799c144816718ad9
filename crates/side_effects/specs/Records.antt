-- What completion looks at in records, of any form: a field that is no text counts as the empty text.
use Rattle.std.specs.Prelude.{ℕ, List, [], ◌∷◌, Bool, false, not, if◌then◌else◌, is_some, codes}
use Rattle.std.specs.Option.{option_map_or}
use Rattle.rooms_val.specs.Data.{Data, Pairs}
use Rattle.rooms_val.specs.Kinds.{as_map}
use Rattle.rooms_val.specs.Maps.{value_at}
use Rattle.shape_tree.specs.Records.{text_or_empty, is_id_of, is_shape, is_binding}

-- the id is one of a page
abbrev pub is_page : List ℕ → Bool
is_page = is_id_of (codes "page")

-- the id that a shape is placed under, and those that a binding leads from and to
abbrev pub parent_of : Data → List ℕ
parent_of d = text_or_empty d (codes "parentId")

abbrev pub from_of : Data → List ℕ
from_of d = text_or_empty d (codes "fromId")

abbrev pub to_of : Data → List ℕ
to_of d = text_or_empty d (codes "toId")

abbrev pub index_of : Data → List ℕ
index_of d = text_or_empty d (codes "index")

-- the record is a map without the key `index`
abbrev pub lacks_index : Data → Bool
lacks_index d = option_map_or (λ ps. not (is_some (value_at ps (codes "index")))) (as_map d) false

-- what a record hangs on: a shape on its parent, a binding on its two ends, and no other record on anything
abbrev pub holders_of : List ℕ → Data → List (List ℕ)
holders_of id d =
    if is_shape id then parent_of d ∷ []
    else if is_binding id then from_of d ∷ to_of d ∷ []
    else []

-- a map has a record under the id
abbrev pub has : Pairs → List ℕ → Bool
has m id = is_some (value_at m id)
