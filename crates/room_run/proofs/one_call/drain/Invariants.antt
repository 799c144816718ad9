use Rattle.room_run.proofs.one_call.drain.Given as goal

-- the ledger is the one that the blank is of
abbrev pub ghosts-drain_in : goal.ghosts-drain_in
ghosts-drain_in a = record { name = a.blank.name; parts = a.blank.parts }
