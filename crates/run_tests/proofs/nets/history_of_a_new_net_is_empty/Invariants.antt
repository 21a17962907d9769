use Rattle.run_tests.proofs.nets.history_of_a_new_net_is_empty.Given as goal

abbrev pub ghosts-entries_of_new : goal.ghosts-entries_of_new
ghosts-entries_of_new g a = record { table = a.opened.table; frame = a.opened.frame; tokens = a.opened.tokens }
