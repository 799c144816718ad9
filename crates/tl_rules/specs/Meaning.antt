-- The rules: the rank of each key, what an atom is that was never set, and what a key asks for.
use Rattle.std.specs.Prelude.{ℕ, ◌+◌, List, [], None}
use Rattle.signal_rules.specs.declared.rules.Ask.{Ask}
use Rattle.signal_rules.specs.Meaning.{Meaning}
use Rattle.tl_rules.specs.declared.key.TlKey.{TlKey}
use Rattle.tl_rules.specs.declared.key.TlKey.TheVariants as key
use Rattle.tl_rules.specs.declared.value.TlValue.{TlValue}
use Rattle.tl_rules.specs.declared.value.TlValue.TheVariants as value
use Rattle.tl_rules.specs.Plans.{Plan, ends, asked}
use Rattle.tl_rules.specs.Asking.{bound_plan, count_plan}
use Rattle.tl_rules.specs.Trees.{tree_plan}
use Rattle.tl_rules.specs.Boxes.{box_plan}

abbrev pub rank_of : TlKey → ℕ
rank_of (key.Rec id) = 0
rank_of (key.ByParent id) = 0
rank_of (key.BoundFrom id) = 0
rank_of (key.BoundTo id) = 0
rank_of (key.Bound id) = 1
rank_of (key.Tree page) = 1
rank_of (key.Count page) = 2
rank_of (key.Box id levels) = 3 + levels

abbrev pub blank_of : TlKey → TlValue
blank_of (key.Rec id) = value.Rec None
blank_of (key.ByParent id) = value.Ids []
blank_of (key.BoundFrom id) = value.Ids []
blank_of (key.BoundTo id) = value.Ids []
blank_of (key.Bound id) = value.Ids []
blank_of (key.Tree page) = value.Ids []
blank_of (key.Count page) = value.Ids []
blank_of (key.Box id levels) = value.Ids []

-- the run of a key; an atom has none
abbrev pub plan_of : TlKey → Plan TlKey TlValue TlValue
plan_of (key.Bound id) = bound_plan id
plan_of (key.Tree page) = tree_plan page
plan_of (key.Count page) = count_plan page
plan_of (key.Box id levels) = box_plan id levels
plan_of (key.Rec id) = ends (blank_of (key.Rec id))
plan_of (key.ByParent id) = ends (blank_of (key.ByParent id))
plan_of (key.BoundFrom id) = ends (blank_of (key.BoundFrom id))
plan_of (key.BoundTo id) = ends (blank_of (key.BoundTo id))

unfoldable pub tl_asks : TlKey → List TlValue → Ask TlKey TlValue
tl_asks k got = asked (plan_of k) got

abbrev pub tl_meaning : Meaning TlKey TlValue
tl_meaning = record { rank = rank_of; blank = blank_of; ask = tl_asks }
