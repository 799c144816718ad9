use Rattle.std.proofs.Common.{◌≡◌, ◌≢◌, ◌-◌, ◌/◌, ◌∙◌, ℕ, List, [], ◌∷◌, ◌++◌, Ok, Err, ap, subst, string_bytes, arith}
use Rattle.std.proofs.lemmas.Grind.{common_steps}
use Rattle.std.proofs.lemmas.List.{map-append}
use Rattle.index_keys.specs.Answers.{Gives, texts}
use Rattle.index_keys.specs.Several.{joined_to, halves}
use Rattle.index_keys.specs.declared.fault.BetweenFault.TheVariants.{OutOfMemory}
use Rattle.index_keys.proofs.SeriesLemmas.{halves-returns, halves-fails}
use Rattle.index_keys.proofs.series.+push_halves.Goals as goal

pub returns-in_err-push_halves : goal.returns-in_err-push_halves
returns-in_err-push_halves t c = λ depth enough.
    let refused : c.in_err-push_halves.field-0.0 ≢ OutOfMemory → joined_to (texts c.args.keys.now.items) (halves depth c.args.below.now c.args.above.now c.args.count) ≡ Err c.in_err-push_halves.field-0.0 = λ not_memory.
    halves-fails c.in_err-push_halves.field-0.0 (texts c.args.keys.now.items) c.args.below.now c.args.above.now (string_bytes c.in_ok-key.key) c.args.count (omega arith) c.in_ok-key.ensures.exact
    (λ d room. subst (λ (k : List ℕ). joined_to (texts c.args.keys.now.items) (halves d c.args.below.now k (c.args.count / 2)) ≡ Err c.in_err-push_halves.field-0.0) c.as_str.ensures.value (c.in_err-push_halves.ensures d room not_memory))
    depth enough in
    grind (arith, refused)

pub returns : goal.returns
returns t c =
    let copied : string_bytes c.in_ok-clone.field-0 ≡ string_bytes c.in_ok-key.key = grind (arith, common_steps) in
    let pushed : texts c.push.new.self.items ≡ texts c.push_halves.new.keys.items ++ string_bytes c.in_ok-key.key ∷ [] =
    ap texts c.in_ok-push.ensures.items ∙ (map-append (λ key. string_bytes key) c.push_halves.new.keys.items (c.in_ok-clone.field-0 ∷ []) ∙ ap (λ (k : List ℕ). texts c.push_halves.new.keys.items ++ k ∷ []) copied) in
    halves-returns c.push_halves-2.result (λ _. texts c.push_halves-2.new.keys.items) (texts c.args.keys.now.items) (texts c.push_halves.new.keys.items) (texts c.push.new.self.items) c.args.below.now c.args.above.now (string_bytes c.in_ok-key.key) c.args.count (omega arith) c.in_ok-key.ensures.exact
    (λ d room. subst (λ (k : List ℕ). joined_to (texts c.args.keys.now.items) (halves d c.args.below.now k (c.args.count / 2)) ≡ Ok (texts c.push_halves.new.keys.items)) c.as_str.ensures.value (c.in_ok-push_halves.ensures d room))
    pushed
    (λ d room. subst (λ (k : List ℕ). Gives (λ _. texts c.push_halves-2.new.keys.items) c.push_halves-2.result (joined_to (texts c.push.new.self.items) (halves d k c.args.above.now (c.args.count - c.args.count / 2 - 1)))) c.as_str-2.ensures.value (c.push_halves-2.ensures d room))
