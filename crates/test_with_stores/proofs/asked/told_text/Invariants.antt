use Rattle.test_with_stores.proofs.asked.told_text.Given as goal

-- the ledger is the one that the blank is of
abbrev pub ghosts-told_in : goal.ghosts-told_in
ghosts-told_in a = record { name = a.blank.name; parts = a.blank.parts }
