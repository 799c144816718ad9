use Rattle.std.proofs.Common.{◌≡◌, ◌≢◌, ◌+◌, ◌-◌, ◌∙◌, [], ◌∷◌, ◌++◌, Err, ap, string_bytes, arith}
use Rattle.std.proofs.lemmas.List.{map-append}
use Rattle.std.specs.Option.{option_copied}
use Rattle.index_keys.specs.Answers.{texts}
use Rattle.index_keys.specs.Several.{rising_from, last_or}
use Rattle.index_keys.specs.declared.fault.BetweenFault.TheVariants.{OutOfMemory}
use Rattle.index_keys.proofs.SeriesLemmas.{rising_from-step, rising_from-fails}
use Rattle.index_keys.proofs.series.rising_from.Goals as goal

pub returns-in_err-key : goal.returns-in_err-key
returns-in_err-key c =
    let last : option_copied c.last_or.result ≡ last_or (texts c.loop-made.keys.items) (option_copied c.args.below) = cc (c.last_or.ensures, c.deref.ensures.value) in
    let refused : c.in_err-key.field-0.0 ≢ OutOfMemory → rising_from c.args.count (option_copied c.args.below) ≡ Err c.in_err-key.field-0.0 = λ not_memory. rising_from-fails c.args.count (c.args.count - c.loop-made._made) (texts c.loop-made.keys.items) (option_copied c.args.below) (option_copied c.last_or.result) c.in_err-key.field-0.0 (omega arith) last (c.in_err-key.ensures.exact not_memory) c.loop-made.invariant in
    grind (arith, refused)

pub loop-made-preserved : goal.loop-made-preserved
loop-made-preserved c =
    let last : option_copied c.last_or.result ≡ last_or (texts c.loop-made.keys.items) (option_copied c.args.below) = cc (c.last_or.ensures, c.deref.ensures.value) in
    let pushed : texts c.push.new.self.items ≡ texts c.loop-made.keys.items ++ string_bytes c.in_ok-key.key ∷ [] = ap texts c.in_ok-push.ensures.items ∙ map-append (λ key. string_bytes key) c.loop-made.keys.items (c.in_ok-key.key ∷ []) in
    rising_from-step c.args.count (c.args.count - c.loop-made._made) (c.args.count - (c.loop-made._made + 1)) (texts c.loop-made.keys.items) (texts c.push.new.self.items) (option_copied c.args.below) (option_copied c.last_or.result) (string_bytes c.in_ok-key.key) (omega arith) last pushed c.in_ok-key.ensures.exact c.loop-made.invariant
