-- Atoms that say what a map says.
use Rattle.std.specs.Prelude.{◌≡◌, ℕ, List, ◌&&◌, bytes_eq, codes, map, filter, option_map}
use Rattle.rooms_val.specs.Data.{Pairs}
use Rattle.rooms_val.specs.Maps.{value_at}
use Rattle.rooms_val.specs.View.{val_of}
use Rattle.shape_tree.specs.Records.{text_or_empty, is_binding}
use Rattle.shape_tree.specs.Trees.{children}
use Rattle.tl_rules.specs.declared.key.TlKey.{TlKey}
use Rattle.tl_rules.specs.declared.key.TlKey.TheVariants as key
use Rattle.tl_rules.specs.declared.value.TlValue.{TlValue}
use Rattle.tl_rules.specs.declared.value.TlValue.TheVariants as value

-- the bindings that name an id under a key, by their ids
abbrev pub bindings : List ℕ → Pairs → List ℕ → List (List ℕ)
bindings end m id = map (λ e. e.0) (filter (λ e. is_binding e.0 && bytes_eq (text_or_empty e.1 end) id) m)

-- each atom is what the plain query says of the map: the record under an id or none, the children of an id in order, and the
-- bindings that go from an id and to it
pub record ArePlainAtoms (atoms : TlKey → TlValue) (m : Pairs) : Type 0 where
  pub record_at : (id : List ℕ) → atoms (key.Rec id) ≡ value.Rec (option_map val_of (value_at m id))
  pub children_of : (id : List ℕ) → atoms (key.ByParent id) ≡ value.Ids (children m id)
  pub bound_from : (id : List ℕ) → atoms (key.BoundFrom id) ≡ value.Ids (bindings (codes "fromId") m id)
  pub bound_to : (id : List ℕ) → atoms (key.BoundTo id) ≡ value.Ids (bindings (codes "toId") m id)
