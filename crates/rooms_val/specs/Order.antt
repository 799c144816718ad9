-- One order of all values: `null` first, then truth values, numbers, texts, lists and maps.
use Rattle.std.specs.Prelude.{ℕ}
use Rattle.std.specs.declared.cmp.Ordering.{Ordering}
use Rattle.std.specs.declared.cmp.Ordering.TheVariants.{Less, Equal, Greater}
use Rattle.std.specs.Ordering.{nat_cmp, int_cmp, bool_cmp, ordering_then}
use Rattle.rooms_val.specs.Data.{Data, null, boolean, whole, text, list, map, Items, no_items, item, Members, no_members, member}
use Rattle.rooms_val.specs.Maps.{order}

-- the place of a value's kind among the kinds
abbrev pub rank : Data → ℕ
rank null = 0
rank (boolean b) = 1
rank (whole z) = 2
rank (text t) = 3
rank (list ds) = 4
rank (map ms) = 5

-- two of one kind: `false` before `true`, numbers by size, texts by bytes, lists and maps by what first differs in them
abbrev mutual
  pub data_cmp : Data → Data → Ordering
  data_cmp (boolean a) (boolean b) = bool_cmp a b
  data_cmp (whole y) (whole z) = int_cmp y z
  data_cmp (text s) (text t) = order s t
  data_cmp (list ds) (list es) = items_cmp ds es
  data_cmp (map ms) (map ns) = members_cmp ms ns
  data_cmp d e = nat_cmp (rank d) (rank e)

  -- item by item; a list comes after the lists that it begins with
  pub items_cmp : Items → Items → Ordering
  items_cmp no_items no_items = Equal
  items_cmp no_items (item e es) = Less
  items_cmp (item d ds) no_items = Greater
  items_cmp (item d ds) (item e es) = ordering_then (data_cmp d e) (items_cmp ds es)

  -- key by key, each before its value; a map comes after the maps that it begins with
  pub members_cmp : Members → Members → Ordering
  members_cmp no_members no_members = Equal
  members_cmp no_members (member l e ns) = Less
  members_cmp (member k d ms) no_members = Greater
  members_cmp (member k d ms) (member l e ns) = ordering_then (order k l) (ordering_then (data_cmp d e) (members_cmp ms ns))
