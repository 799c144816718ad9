use Rattle.std.proofs.Common.{◌≡◌, suc, drop, true, None, sym, ap, ◌∙◌}
use Rattle.std.specs.Option.{option_map_or}
use Rattle.record_valid.specs.Parts.{behind}
use Rattle.record_valid.proofs.KeysLemmas.{misses, misses-at, misses-end, misses-lacks}
use Rattle.record_valid.proofs.keys.lacks.Goals as goal

pub returns-in-None : goal.returns-in-None
returns-in-None g c =
    let none : behind c.loop-key.rest.now c.loop-key-item.result.0 ≡ None = ap (behind c.loop-key.rest.now) (sym c.as_str.ensures.bytes) ∙ sym c.in-None.ensures in
    sym (misses-at c.args.wanted.now c.loop-key.rest.now c.loop-key.key-index c.loop-key-item.result c.loop-key-test.true c.loop-key-item.is ∙ ap (λ o. option_map_or (λ rest. misses (drop (suc c.loop-key.key-index) c.args.wanted.now) rest) o true) none)
    ∙ sym c.loop-key.invariant ∙ misses-lacks c.args.wanted.now c.args.given.now c.requires.wanted c.requires.given

pub returns : goal.returns
returns g c = sym (misses-end _ _ _ c.loop-key-test.false) ∙ sym c.loop-key.invariant ∙ misses-lacks c.args.wanted.now c.args.given.now c.requires.wanted c.requires.given
