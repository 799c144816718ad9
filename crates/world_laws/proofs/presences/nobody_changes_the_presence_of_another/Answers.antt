use Rattle.room_model.specs.Reachable.{received}
use Rattle.world_laws.proofs.PresenceLemmas.{message_untouched, leave_untouched}
use Rattle.world_laws.proofs.presences.nobody_changes_the_presence_of_another.Goals as goal

pub returns-clause-receives : goal.returns-clause-receives
returns-clause-receives c schemas room session other said replied lawful reached rising is apart stays =
    message_untouched schemas lawful room session other said replied reached (received session said room replied reached rising is) is apart stays

pub returns-clause-leaves : goal.returns-clause-leaves
returns-clause-leaves c schemas room after session other lawful reached is stays = leave_untouched schemas lawful room session other after reached is stays
