use Rattle.test_signals.proofs.calls.play.Given as goal

-- the ledger is the one that the blank is of
abbrev pub ghosts-play_in : goal.ghosts-play_in
ghosts-play_in a = record { name = a.blank.name; parts = a.blank.parts }
