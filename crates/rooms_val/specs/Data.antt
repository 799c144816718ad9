-- What a JSON value is, as a tree that shares nothing with how the code keeps it.
use Rattle.std.specs.Prelude.{ℕ, suc, max, ℤ, List, [], ◌∷◌, Bool, Option, Some, None}
use Rattle.rooms_val.specs.Maps.{AreRising}

mutual
  pub data Data : Type 0 where
    null : Data
    boolean : Bool → Data
    whole : ℤ → Data
    text : List ℕ → Data
    list : Items → Data
    map : Members → Data

  pub data Items : Type 0 where
    no_items : Items
    item : Data → Items → Items

  pub data Members : Type 0 where
    no_members : Members
    member : List ℕ → Data → Members → Members

-- the keys of a map with their values, in order
abbrev pub Pairs : Type 0
Pairs = List (List ℕ × Data)

abbrev pub items_of : List Data → Items
items_of [] = no_items
items_of (d ∷ ds) = item d (items_of ds)

abbrev pub list_of : Items → List Data
list_of no_items = []
list_of (item d ds) = d ∷ list_of ds

abbrev pub members_of : Pairs → Members
members_of [] = no_members
members_of (p ∷ ps) = member p.0 p.1 (members_of ps)

abbrev pub pairs_of : Members → Pairs
pairs_of no_members = []
pairs_of (member k d ms) = (k, d) ∷ pairs_of ms

-- the keys of every map in the value rise
abbrev mutual
  pub IsSound : Data → Type 0
  IsSound null = Unit {0}
  IsSound (boolean b) = Unit {0}
  IsSound (whole z) = Unit {0}
  IsSound (text s) = Unit {0}
  IsSound (list ds) = AreSoundItems ds
  IsSound (map ms) = AreRising (pairs_of ms) × AreSoundMembers ms

  pub AreSoundItems : Items → Type 0
  AreSoundItems no_items = Unit {0}
  AreSoundItems (item d ds) = IsSound d × AreSoundItems ds

  pub AreSoundMembers : Members → Type 0
  AreSoundMembers no_members = Unit {0}
  AreSoundMembers (member k d ms) = IsSound d × AreSoundMembers ms

-- the value is sound, or there is none
abbrev pub IsSoundRecord : Option Data → Type 0
IsSoundRecord None = Unit {0}
IsSoundRecord (Some d) = IsSound d

-- how deep lists and maps nest: 1 for an empty one, 0 for any other value
abbrev mutual
  pub depth : Data → ℕ
  depth null = 0
  depth (boolean b) = 0
  depth (whole z) = 0
  depth (text s) = 0
  depth (list ds) = suc (items_depth ds)
  depth (map ms) = suc (members_depth ms)

  pub items_depth : Items → ℕ
  items_depth no_items = 0
  items_depth (item d ds) = max (depth d) (items_depth ds)

  pub members_depth : Members → ℕ
  members_depth no_members = 0
  members_depth (member k d ms) = max (depth d) (members_depth ms)
