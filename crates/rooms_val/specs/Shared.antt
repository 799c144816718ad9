-- What is behind what copies share.
use Rattle.std.specs.Prelude.{ℕ, List, [], Option, Some, None}
use Rattle.std.specs.Arc.{arc_str_bytes}
use Rattle.std.specs.declared.sync.Arc.{Arc}
use Rattle.std.specs.declared.vec.Vec.{Vec}
use Rattle.rooms_val.specs.declared.text.Place.{Place}
use Rattle.rooms_val.specs.declared.text.Place.TheVariants.{Here, There}

-- the bytes of a text
abbrev pub text_bytes : Place → List ℕ
text_bytes (Here short) = short
text_bytes (There shared) = arc_str_bytes shared

-- the items that are shared, and none where there is nothing
abbrev pub shared_items : {X Y Z : Type 0} → Option (Arc (Vec X Y) Z) → List X
shared_items None = []
shared_items (Some shared) = shared.value.items
