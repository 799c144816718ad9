use Rattle.test_stores.proofs.changes.since.Given as goal

-- the ledger is the one that the blank is of
abbrev pub ghosts-since_in : goal.ghosts-since_in
ghosts-since_in a = record { name = a.blank.name; parts = a.blank.parts }
