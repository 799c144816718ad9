use Rattle.rooms.proofs.tests.run_for.Given as goal

-- the steps are counted in a ledger that nobody else has
abbrev pub ghosts-run_counted : goal.ghosts-run_counted
ghosts-run_counted g a = record { name = a.blank.name; parts = a.blank.parts }
