use Rattle.saved_laws.proofs.AnswerLemmas.{same_clock, same_start, same_document, same_dead}
use Rattle.saved_laws.proofs.answers.what_is_saved_stays.Goals as goal

pub returns-clause-clock : goal.returns-clause-clock
returns-clause-clock c tree room saved lawful reached is = same_clock tree room saved lawful reached is

pub returns-clause-start : goal.returns-clause-start
returns-clause-start c tree room saved lawful reached is = same_start tree room saved lawful reached is

pub returns-clause-document : goal.returns-clause-document
returns-clause-document c tree room saved lawful reached is = same_document tree room saved lawful reached is

pub returns-clause-dead : goal.returns-clause-dead
returns-clause-dead c tree room saved lawful reached is = same_dead tree room saved lawful reached is
