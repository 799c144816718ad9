use Rattle.room_run.proofs.one_call.handle.Given as goal

-- the ledger is the one that the blank is of
abbrev pub ghosts-handle_in : goal.ghosts-handle_in
ghosts-handle_in a = record { name = a.blank.name; parts = a.blank.parts }
