use Rattle.test_with_allocations.proofs.records.due.Given as goal

-- the ledger is the one that the blank is of
abbrev pub ghosts-due_in : goal.ghosts-due_in
ghosts-due_in a = record { name = a.blank.name; parts = a.blank.parts }
