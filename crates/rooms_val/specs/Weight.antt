-- What a value weighs: 1 for each value, and beside that the bytes of each text and key.
use Rattle.std.specs.Prelude.{ℕ, ◌+◌, length}
use Rattle.rooms_val.specs.Data.{Data, null, boolean, whole, text, list, map, Items, no_items, item, Members, no_members, member}

abbrev mutual
  pub weight : Data → ℕ
  weight null = 1
  weight (boolean b) = 1
  weight (whole z) = 1
  weight (text s) = 1 + length s
  weight (list ds) = 1 + items_weight ds
  weight (map ms) = 1 + members_weight ms

  pub items_weight : Items → ℕ
  items_weight no_items = 0
  items_weight (item d ds) = weight d + items_weight ds

  pub members_weight : Members → ℕ
  members_weight no_members = 0
  members_weight (member k d ms) = length k + weight d + members_weight ms
