use Rattle.room_events.proofs.LegalLemmas.{begins, goes_on, before, happened}
use Rattle.room_events.proofs.legal.goes_on.Goals as goal

pub returns-clause-begins : goal.returns-clause-begins
returns-clause-begins c = begins

pub returns-clause-goes_on : goal.returns-clause-goes_on
returns-clause-goes_on c = goes_on

pub returns-clause-before : goal.returns-clause-before
returns-clause-before c = before

pub returns-clause-happened : goal.returns-clause-happened
returns-clause-happened c = happened
