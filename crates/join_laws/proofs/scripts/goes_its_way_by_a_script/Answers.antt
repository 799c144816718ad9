use Rattle.join_laws.proofs.ScriptedLemmas.{comes_so, base_so, ends_so, done_so, not_by_server}
use Rattle.join_laws.proofs.scripts.goes_its_way_by_a_script.Goals as goal

pub returns-clause-comes : goal.returns-clause-comes
returns-clause-comes c schemas room script coming left joiner said leads not_lost = comes_so schemas c.pieces_come_back.ensures room coming script joiner said left leads not_lost

pub returns-clause-base : goal.returns-clause-base
returns-clause-base c schemas room script coming left joiner said last events number plan lawful legal leads not_lost serves planned =
    base_so schemas c.pieces_come_back.ensures room coming script joiner said left leads not_lost last events number plan lawful legal serves planned

pub returns-clause-ends : goal.returns-clause-ends
returns-clause-ends c schemas room script coming all joins = ends_so schemas c.pieces_come_back.ensures room coming script all joins

pub returns-clause-done : goal.returns-clause-done
returns-clause-done c schemas room script coming all joins is = done_so schemas c.pieces_come_back.ensures room coming script all joins is

pub returns-clause-not_server : goal.returns-clause-not_server
returns-clause-not_server c schemas room script coming all last events number lawful legal joins serves is =
    not_by_server schemas c.pieces_come_back.ensures room coming script all joins is last events number lawful legal serves
