use Rattle.test_join.proofs.calls.join.Given as goal

-- the ledger is the one that the blank is of
abbrev pub ghosts-join_in : goal.ghosts-join_in
ghosts-join_in a = record { name = a.blank.name; parts = a.blank.parts }
