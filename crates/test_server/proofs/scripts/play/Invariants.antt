use Rattle.test_server.proofs.scripts.play.Given as goal

-- the ledger is the one that the blank is of
abbrev pub ghosts-play_counted : goal.ghosts-play_counted
ghosts-play_counted g a = record { name = a.blank.name; parts = a.blank.parts }
