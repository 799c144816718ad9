use Rattle.test_with_stores.proofs.asked.view_text.Given as goal

-- the ledger is the one that the blank is of
abbrev pub ghosts-view_in : goal.ghosts-view_in
ghosts-view_in a = record { name = a.blank.name; parts = a.blank.parts }
