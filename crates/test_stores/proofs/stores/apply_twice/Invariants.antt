use Rattle.test_stores.proofs.stores.apply_twice.Given as goal

-- the ledger is the one that the blank is of
abbrev pub ghosts-apply_twice_in : goal.ghosts-apply_twice_in
ghosts-apply_twice_in a = record { name = a.blank.name; parts = a.blank.parts }
