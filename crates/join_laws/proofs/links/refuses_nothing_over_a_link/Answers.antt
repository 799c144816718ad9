use Rattle.join_laws.proofs.LinkedLemmas.{served, took_all, refuses_none}
use Rattle.join_laws.proofs.links.refuses_nothing_over_a_link.Goals as goal

pub returns-clause-serves : goal.returns-clause-serves
returns-clause-serves c schemas version room coming left way mine comes serves = served schemas c.pieces_come_back.ensures version room coming way left comes mine serves

pub returns-clause-takes : goal.returns-clause-takes
returns-clause-takes c schemas version room coming left way last events number lawful legal comes serves = took_all schemas c.pieces_come_back.ensures version room coming way left comes last events number lawful legal serves

pub returns-clause-refuses_nothing : goal.returns-clause-refuses_nothing
returns-clause-refuses_nothing c schemas version room coming left rest way last events number fault now lawful legal comes serves waits =
    refuses_none schemas c.pieces_come_back.ensures version room coming way left comes last events number lawful legal serves fault now rest waits
