use Rattle.rec_format.specs.Verbs.{word_of}
use Rattle.rooms_val.proofs.Truths.{any_err}
use Rattle.rec_format.proofs.entries.check_verb.Goals as goal

pub returns-in_err-text_in-clause-only : goal.returns-in_err-text_in-clause-only
returns-in_err-text_in-clause-only c = any_err c.from_residual.result (λ is. c.in_err-text_in.ensures.only (word_of c.args.verb) is)
