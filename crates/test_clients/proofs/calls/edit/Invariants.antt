use Rattle.test_clients.proofs.calls.edit.Given as goal

-- the ledger is the one that the blank is of
abbrev pub ghosts-edit_in : goal.ghosts-edit_in
ghosts-edit_in a = record { name = a.blank.name; parts = a.blank.parts }
