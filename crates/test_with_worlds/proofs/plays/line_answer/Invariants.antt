use Rattle.test_with_worlds.proofs.plays.line_answer.Given as goal

-- the ledger is the one that the blank is of
abbrev pub ghosts-step_in : goal.ghosts-step_in
ghosts-step_in a = record { name = a.blank.name; parts = a.blank.parts }
