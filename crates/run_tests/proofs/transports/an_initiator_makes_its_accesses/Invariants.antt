use Rattle.run_tests.proofs.transports.an_initiator_makes_its_accesses.Given as goal

abbrev pub ghosts-alone : goal.ghosts-alone
ghosts-alone g a = record { table = a.opened.table; frame = a.opened.frame; tokens = a.opened.tokens }
