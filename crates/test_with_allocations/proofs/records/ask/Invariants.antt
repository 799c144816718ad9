use Rattle.test_with_allocations.proofs.records.ask.Given as goal

-- the ledger is the one that the blank is of
abbrev pub ghosts-ask_in : goal.ghosts-ask_in
ghosts-ask_in a = record { name = a.blank.name; parts = a.blank.parts }
