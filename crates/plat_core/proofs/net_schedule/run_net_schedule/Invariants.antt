use Rattle.plat_core.proofs.net_schedule.run_net_schedule.Given as goal

abbrev pub ghosts-run_opened : goal.ghosts-run_opened
ghosts-run_opened g a = record { table = a.opened.table; frame = a.opened.frame; tokens = a.opened.tokens }
