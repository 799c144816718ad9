use Rattle.test_with_rooms.proofs.steps.next_out.Given as goal

-- the ledger is the one that the blank is of
abbrev pub ghosts-drained_in : goal.ghosts-drained_in
ghosts-drained_in a = record { name = a.blank.name; parts = a.blank.parts }
