use Rattle.test_with_allocations.proofs.clients.call_client.Given as goal

-- the ledger is the one that the blank is of
abbrev pub ghosts-call_in : goal.ghosts-call_in
ghosts-call_in a = record { name = a.blank.name; parts = a.blank.parts }
