use Rattle.rooms.proofs.answer_words.Given as goal

-- the steps are counted in a ledger that nobody else has
abbrev pub ghosts-start_run : goal.ghosts-start_run
ghosts-start_run g a = record { name = a.blank.name; parts = a.blank.parts }
