use Rattle.test_with_rooms.proofs.begins.saved_room.Given as goal

-- the ledger is the one that the blank is of
abbrev pub ghosts-saved_in : goal.ghosts-saved_in
ghosts-saved_in a = record { name = a.blank.name; parts = a.blank.parts }
