use Rattle.test_with_rooms.proofs.steps.handle_message.Given as goal

-- the ledger is the one that the blank is of
abbrev pub ghosts-handled_in : goal.ghosts-handled_in
ghosts-handled_in a = record { name = a.blank.name; parts = a.blank.parts }
