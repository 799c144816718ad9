use Rattle.test_with_allocations.proofs.stores.apply_all.Given as goal

-- the ledger is the one that the blank is of
abbrev pub ghosts-apply_in : goal.ghosts-apply_in
ghosts-apply_in g a = record { name = a.blank.name; parts = a.blank.parts }
