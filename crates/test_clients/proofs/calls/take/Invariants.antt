use Rattle.test_clients.proofs.calls.take.Given as goal

-- the ledger is the one that the blank is of
abbrev pub ghosts-take_in : goal.ghosts-take_in
ghosts-take_in a = record { name = a.blank.name; parts = a.blank.parts }
