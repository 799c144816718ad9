use Rattle.test_with_allocations.proofs.stores.write.Given as goal

-- the ledger is the one that the blank is of
abbrev pub ghosts-write_in : goal.ghosts-write_in
ghosts-write_in g a = record { name = a.blank.name; parts = a.blank.parts }
