use Rattle.std.proofs.Common.{◌≡◌, ℕ, List, Bool, Option, ap, sym, ◌∙◌}
use Rattle.rooms_val.specs.Data.{text, Pairs}
use Rattle.rooms_val.specs.Kinds.{text_at}
use Rattle.rooms_val.specs.Maps.{with_key}
use Rattle.side_effects.proofs.TopLemmas.{is_over, raised_no, raised_yes}
use Rattle.side_effects.proofs.placing.raise.Goals as goal

-- what was asked, of the values that were given
asked : (tops : Pairs) (index parent i p : List ℕ) (held : Option (List ℕ)) (answer : Bool) → i ≡ index → p ≡ parent → held ≡ text_at tops p → answer ≡ is_over i held → is_over index (text_at tops parent) ≡ answer
asked tops index parent i p held answer same_index same_parent is answered =
    sym (answered ∙ ap (is_over i) (is ∙ ap (text_at tops) same_parent) ∙ ap (λ x. is_over x (text_at tops parent)) same_index)

pub returns-then-not-is_above : goal.returns-then-not-is_above
returns-then-not-is_above c = λ other.
    raised_no c.args.tops.now c.args.parent c.args.index other
    (asked c.args.tops.now c.args.index c.args.parent _ _ _ _ c.as_str.ensures.bytes c.as_str-2.ensures.bytes c.text_at.ensures c.is_above.ensures ∙ c.if-not-is_above.true)

pub returns : goal.returns
returns c = λ other.
    let new : c.put.new.self ≡ with_key c.args.tops.now c.args.parent (text c.args.index) = c.in_ok-put.ensures.ok in
    ap (λ tops. text_at tops other) new ∙ raised_yes c.args.tops.now c.args.parent c.args.index other
    (asked c.args.tops.now c.args.index c.args.parent _ _ _ _ c.as_str.ensures.bytes c.as_str-2.ensures.bytes c.text_at.ensures c.is_above.ensures ∙ c.if-not-is_above.false)
