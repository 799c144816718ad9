-- The records that made recordings have, each as its fields by key.
use Rattle.std.specs.Prelude.{ℕ, pos, nat_le, List, [], ◌∷◌, ◌++◌, codes, decimal, false, if◌then◌else◌}
use Rattle.rooms_val.specs.Data.{Data, Pairs, boolean, whole, text, list, map, no_items, members_of}

-- a field that is a text
abbrev pub says : List ℕ → List ℕ → List ℕ × Data
says key t = (key, text t)

-- a field that is a number
abbrev pub counts : List ℕ → ℕ → List ℕ × Data
counts key n = (key, whole (pos n))

-- a field that is a map
abbrev pub holds : List ℕ → Pairs → List ℕ × Data
holds key fields = (key, map (members_of fields))

-- `{"id":"page:p","index":"a0","meta":{},"name":"P","typeName":"page"}`
abbrev pub page : Pairs
page = says (codes "id") (codes "page:p") ∷ says (codes "index") (codes "a0") ∷ holds (codes "meta") []
    ∷ says (codes "name") (codes "P") ∷ says (codes "typeName") (codes "page") ∷ []

-- the id of a shape by its number, as `shape:s17`
abbrev pub shape_id : ℕ → List ℕ
shape_id number = codes "shape:s" ++ decimal number

-- how much of a shape is seen: up to version 1 `"alpha":10`
abbrev pub alpha : ℕ → Pairs
alpha version = if nat_le version 1 then counts (codes "alpha") 10 ∷ [] else []

-- how much of a shape is seen: from version 2 on `"opacity":100`
abbrev pub opacity : ℕ → Pairs
opacity version = if nat_le version 1 then [] else counts (codes "opacity") 100 ∷ []

-- how a shape is drawn: from version 3 on `"dash":"draw"`
abbrev pub dash : ℕ → Pairs
dash version = if nat_le 3 version then says (codes "dash") (codes "draw") ∷ [] else []

-- the properties of a shape after `color` and `dash`
abbrev pub later_props : Pairs
later_props =
    says (codes "fill") (codes "none") ∷ says (codes "geo") (codes "rectangle") ∷ counts (codes "h") 10
    ∷ says (codes "size") (codes "m") ∷ says (codes "text") (codes "") ∷ counts (codes "w") 10 ∷ []

-- `{"color":"black","dash":"draw","fill":"none","geo":"rectangle","h":10,"size":"m","text":"","w":10}`
abbrev pub props : ℕ → Pairs
props version = (says (codes "color") (codes "black") ∷ []) ++ dash version ++ later_props

-- the fields of a shape from `id` to `meta`
abbrev pub early_fields : ℕ → Pairs
early_fields number =
    says (codes "id") (shape_id number) ∷ says (codes "index") (codes "a1") ∷ (codes "isLocked", boolean false) ∷ holds (codes "meta") [] ∷ []

-- the fields of a shape from `parentId` on
abbrev pub later_fields : Pairs → ℕ → Pairs
later_fields props x =
    says (codes "parentId") (codes "page:p") ∷ holds (codes "props") props ∷ counts (codes "rotation") 0
    ∷ says (codes "type") (codes "geo") ∷ says (codes "typeName") (codes "shape") ∷ counts (codes "x") x ∷ counts (codes "y") 0 ∷ []

-- `{"alpha":10,"id":ID,"index":"a1","isLocked":false,"meta":{},"opacity":100,"parentId":"page:p","props":PROPS,
-- "rotation":0,"type":"geo","typeName":"shape","x":X,"y":0}`, with either `alpha` or `opacity`
abbrev pub shape : ℕ → ℕ → ℕ → Pairs
shape version number x = alpha version ++ early_fields number ++ opacity version ++ later_fields (props version) x

-- `{"color":"red","currentPageId":"page:p","cursor":{"x":X,"y":0},"id":"instance_presence:me","meta":{},
-- "selectedShapeIds":[],"typeName":"instance_presence","userName":NAME}`, where client 2 has the name `c2`
abbrev pub presence : ℕ → ℕ → Pairs
presence client x =
    says (codes "color") (codes "red") ∷ says (codes "currentPageId") (codes "page:p")
    ∷ holds (codes "cursor") (counts (codes "x") x ∷ counts (codes "y") 0 ∷ []) ∷ says (codes "id") (codes "instance_presence:me")
    ∷ holds (codes "meta") [] ∷ (codes "selectedShapeIds", list no_items) ∷ says (codes "typeName") (codes "instance_presence")
    ∷ says (codes "userName") (codes "c" ++ decimal client) ∷ []
