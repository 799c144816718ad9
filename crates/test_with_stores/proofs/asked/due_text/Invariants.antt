use Rattle.test_with_stores.proofs.asked.due_text.Given as goal

-- the ledger is the one that the blank is of
abbrev pub ghosts-due_in : goal.ghosts-due_in
ghosts-due_in a = record { name = a.blank.name; parts = a.blank.parts }
