use Rattle.bench_parts.proofs.Call.do_times.Given as goal

-- the ledger is the one that the blank is of
abbrev pub ghosts-repeated_in : goal.ghosts-repeated_in
ghosts-repeated_in a = record { name = a.blank.name; parts = a.blank.parts }
