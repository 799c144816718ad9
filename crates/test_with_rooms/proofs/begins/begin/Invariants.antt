use Rattle.test_with_rooms.proofs.begins.begin.Given as goal

-- the ledger is the one that the blank is of
abbrev pub ghosts-loaded_in : goal.ghosts-loaded_in
ghosts-loaded_in a = record { name = a.blank.name; parts = a.blank.parts }
