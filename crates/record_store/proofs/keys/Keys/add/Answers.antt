use Rattle.std.proofs.Common.{◌≡◌, ap, sym, subst, ◌∙◌}
use Rattle.rooms_val.specs.Maps.{with_key}
use Rattle.tl_rules.specs.declared.key.TlKey.TheVariants as key_of
use Rattle.record_store.specs.Seen.{AreKeys}
use Rattle.record_store.specs.Tree.{keys_view}
use Rattle.record_store.proofs.RecordLemmas.{keys_added, known_key, keys_known}
use Rattle.record_store.proofs.TreeLemmas.{keys_view-insert}
use Rattle.record_store.proofs.keys.Keys.add.Goals as goal

pub returns-then-is_some-clause-ok : goal.returns-then-is_some-clause-ok
returns-then-is_some-clause-ok c =
    keys_known c.args.self.now c.get.ensures.keys c.args.id.now
    (known_key c.args.self.now c.get.ensures.keys c.args.id.now c.get.result c.get.ensures.found (sym c.is_some.ensures ∙ c.if-is_some.true))

pub invariant_of-self-2 : goal.invariant_of-self-2
invariant_of-self-2 c =
    let es = c.self.inside.tree.entries in
    let is : keys_view c.insert.new.self.entries ≡ with_key (keys_view es) c.args.id.now (key_of.Rec c.args.id.now) =
    ap keys_view c.in_ok-insert.ensures.entries ∙ keys_view-insert es c.in_ok-from_str.field-0 (key_of.Rec c.in_ok-of.field-0)
    ∙ (λ i. with_key (keys_view es) (c.in_ok-from_str.ensures.ok i) (key_of.Rec (c.in_ok-of.ensures i))) in
    subst AreKeys (sym is) (keys_added (keys_view es) c.self.invariant c.args.id.now)

pub returns-clause-ok : goal.returns-clause-ok
returns-clause-ok c =
    let es = c.self.inside.tree.entries in
    ap keys_view c.in_ok-insert.ensures.entries ∙ keys_view-insert es c.in_ok-from_str.field-0 (key_of.Rec c.in_ok-of.field-0)
    ∙ (λ i. with_key (c.self.view_is i) (c.in_ok-from_str.ensures.ok i) (key_of.Rec (c.in_ok-of.ensures i)))
