use Rattle.saved_laws.proofs.AnswerLemmas.{same_answer}
use Rattle.saved_laws.proofs.answers.answers_stay.Goals as goal

pub returns : goal.returns
returns c tree room saved member request reached lawful made is = same_answer tree room saved lawful made is member request reached
