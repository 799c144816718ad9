use Rattle.test_clients.proofs.peers.call.Given as goal

-- the ledger is the one that the blank is of
abbrev pub ghosts-call_in : goal.ghosts-call_in
ghosts-call_in a = record { name = a.blank.name; parts = a.blank.parts }
