use Rattle.std.proofs.Common.{ap, ◌∙◌, List, ℕ}
use Rattle.signal_rules.specs.declared.rules.Ask.TheVariants.{Need, Done}
use Rattle.tl_rules.specs.declared.key.TlKey.TheVariants as key
use Rattle.tl_rules.specs.declared.value.TlValue.TheVariants as value
use Rattle.tl_rules.specs.Walks.{ids_view, id_view}
use Rattle.tl_rules.proofs.WalkLemmas.{tree_needed, tree_listed}
use Rattle.tl_rules.proofs.tree.ask_tree.Goals as goal

pub returns-in-Some : goal.returns-in-Some
returns-in-Some c =
    ap (λ (id : List ℕ). Need (key.ByParent id)) c.in_ok-copy-in-Some.ensures
    ∙ tree_needed c.args.page.now c.args.got.now (ids_view c.list_page.new.walk.ids.items) c.list_page.new.walk.rest.now c.in-Some.parent.now (ids_view c.new.result.items) (id_view c.in_ok-parent.field-0)
    (ap ids_view c.new.ensures.items) (ap id_view c.in-Some.is) c.in_ok-parent.ensures

pub returns : goal.returns
returns c =
    ap (λ (ids : List (List ℕ)). Done (value.Ids ids)) (c.in_ok-copies_of-in-None.ensures ∙ ap ids_view c.deref.ensures.value)
    ∙ tree_listed c.args.page.now c.args.got.now (ids_view c.list_page.new.walk.ids.items) c.list_page.new.walk.rest.now (ids_view c.new.result.items) (id_view c.in_ok-parent.field-0)
    (ap ids_view c.new.ensures.items) (ap id_view c.in-None.is) c.in_ok-parent.ensures
