-- Checks that several tables name.
use Rattle.std.specs.Prelude.{ℕ, pos, neg_ℤ, [], ◌∷◌, codes}
use Rattle.rooms_val.specs.declared.limits.TheConstants.{GREATEST_WHOLE}
use Rattle.record_valid.specs.Tree.{CheckTree, whole, text, one_of}
use Rattle.tl_tables.specs.declared.parts.TheConstants.{LONGEST_TEXT, LONGEST_NAME}
use Rattle.tl_tables.specs.Fields.{always, object_at}

-- a whole number within the greatest one on either side
unfoldable pub coordinate : CheckTree
coordinate = whole (neg_ℤ GREATEST_WHOLE) GREATEST_WHOLE

-- such a number from 0
unfoldable pub extent : CheckTree
extent = whole (pos 0) GREATEST_WHOLE

unfoldable pub point : ℕ → CheckTree
point version = object_at version (always (codes "x") coordinate ∷ always (codes "y") coordinate ∷ [])

unfoldable pub color : CheckTree
color = one_of (codes "black" ∷ codes "grey" ∷ codes "light-violet" ∷ codes "violet" ∷ codes "blue" ∷ codes "light-blue" ∷ codes "yellow" ∷ codes "orange" ∷ codes "green" ∷ codes "light-green" ∷ codes "light-red" ∷ codes "red" ∷ codes "white" ∷ [])

unfoldable pub dash : CheckTree
dash = one_of (codes "draw" ∷ codes "solid" ∷ codes "dashed" ∷ codes "dotted" ∷ [])

unfoldable pub fill : CheckTree
fill = one_of (codes "none" ∷ codes "semi" ∷ codes "solid" ∷ codes "pattern" ∷ [])

unfoldable pub size : CheckTree
size = one_of (codes "s" ∷ codes "m" ∷ codes "l" ∷ codes "xl" ∷ [])

-- what somebody wrote, or where an image comes from
unfoldable pub long_text : CheckTree
long_text = text LONGEST_TEXT

-- a name
unfoldable pub short_text : CheckTree
short_text = text LONGEST_NAME
