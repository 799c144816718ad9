-- What the plain queries say.
use Rattle.std.specs.Prelude.{codes, option_map}
use Rattle.rooms_val.specs.Data.{Pairs}
use Rattle.rooms_val.specs.Maps.{value_at}
use Rattle.rooms_val.specs.View.{val_of}
use Rattle.shape_tree.specs.Boxes.{box}
use Rattle.shape_tree.specs.Trees.{children, bound, tree, count}
use Rattle.tl_rules.specs.Atoms.{bindings}
use Rattle.tl_rules.specs.declared.key.TlKey.{TlKey}
use Rattle.tl_rules.specs.declared.key.TlKey.TheVariants as key
use Rattle.tl_rules.specs.declared.value.TlValue.{TlValue}
use Rattle.tl_rules.specs.declared.value.TlValue.TheVariants as value

-- what the plain query of a key says of a map
abbrev pub plain : Pairs → TlKey → TlValue
plain m (key.Rec id) = value.Rec (option_map val_of (value_at m id))
plain m (key.ByParent id) = value.Ids (children m id)
plain m (key.BoundFrom id) = value.Ids (bindings (codes "fromId") m id)
plain m (key.BoundTo id) = value.Ids (bindings (codes "toId") m id)
plain m (key.Bound id) = value.Ids (bound m id)
plain m (key.Tree page) = value.Ids (tree m page)
plain m (key.Count page) = value.Number (count m page)
plain m (key.Box id levels) = value.Rect (box levels m id)
