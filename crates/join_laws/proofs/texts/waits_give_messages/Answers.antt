use Rattle.join_laws.specs.Texts.{texts_in}
use Rattle.join_laws.proofs.TextLemmas.{due_by_pieces, wait_gives_next}
use Rattle.join_laws.proofs.texts.waits_give_messages.Goals as goal

pub returns-clause-begins : goal.returns-clause-begins
returns-clause-begins c messages coming are = due_by_pieces c.pieces_come_back.ensures messages (texts_in coming) are

pub returns-clause-goes_on : goal.returns-clause-goes_on
returns-clause-goes_on c before now coming left heard messages due waits = wait_gives_next before now coming left heard messages due waits
