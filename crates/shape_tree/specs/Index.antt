-- The places of shapes, sorted, as the code keeps them.
use Rattle.std.specs.Prelude.{◌≡◌, ℕ, List, [], ◌∷◌, false, filter, map, take, ◌++◌, codes, IsPermutation}
use Rattle.std.specs.Ordering.{is_lt, ordering_then}
use Rattle.std.specs.declared.cmp.Ordering.{Ordering}
use Rattle.rooms_val.specs.Data.{Data, Pairs}
use Rattle.rooms_val.specs.Maps.{order, ties}
use Rattle.shape_tree.specs.Records.{text_or_empty, is_shape}
use Rattle.shape_tree.specs.Trees.{descendants, most_shapes}
use Rattle.shape_tree.specs.declared.place.Place as borrowed

-- where a shape stands: under a parent, and there by its index and its id
pub record Place : Type 0 where
  pub parent : List ℕ
  pub index : List ℕ
  pub id : List ℕ

abbrev pub place_of : List ℕ × Data → Place
place_of e = record { parent = text_or_empty e.1 (codes "parentId"); index = text_or_empty e.1 (codes "index"); id = e.0 }

-- the places of the shapes of a map
abbrev pub places : Pairs → List Place
places m = map place_of (filter (λ e. is_shape e.0) m)

abbrev pub place_view : borrowed.Place → Place
place_view p = record { parent = p.parent.now; index = p.index.now; id = p.id.now }

abbrev pub places_view : List borrowed.Place → List Place
places_view ps = map place_view ps

-- by parent, then by index, then by id
abbrev pub place_order : Place → Place → Ordering
place_order p q = ordering_then (order p.parent q.parent) (ordering_then (order p.index q.index) (order p.id q.id))

-- the places under a parent
abbrev pub under : List ℕ → List Place → List Place
under parent ps = filter (λ p. ties p.parent parent) ps

module _ {X : Type 0} (cmp : X → X → Ordering) where
  -- no item is less than this one
  abbrev pub AreNotLess : X → List X → Type 0
  AreNotLess x [] = Unit {0}
  AreNotLess x (y ∷ ys) = (is_lt (cmp y x) ≡ false) × AreNotLess x ys

  -- each item is at most those after it
  abbrev pub Rises : List X → Type 0
  Rises [] = Unit {0}
  Rises (x ∷ xs) = AreNotLess x xs × Rises xs

-- the places of a map, all of them and no others, in order
pub record IsIndex (m : Pairs) (index : List Place) : Type 0 where
  pub same : IsPermutation (places m) index
  pub rising : Rises place_order index

-- after is before with the shapes so many levels below a parent, cut off, whatever map the index is of
abbrev pub AreListed : ℕ → List Place → List ℕ → List (List ℕ) → List (List ℕ) → Type 0
AreListed levels index parent before after =
    (m : Pairs) → IsIndex m index → after ≡ take most_shapes (before ++ descendants levels m parent)
