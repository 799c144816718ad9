use Rattle.std.proofs.Common.{◌∙◌, Some, ap, sym, string_bytes}
use Rattle.std.specs.Option.{option_copied}
use Rattle.index_keys.proofs.SeriesLemmas.{last_or-found}
use Rattle.index_keys.proofs.series.last_or.Goals as goal

pub returns-in-Some : goal.returns-in-Some
returns-in-Some c =
    ap Some c.as_str.ensures.value
    ∙ sym (last_or-found (λ key. string_bytes key) c.args.keys.now c.in-Some.key.now (option_copied c.args.end) (sym c.in-Some.ensures.value))
