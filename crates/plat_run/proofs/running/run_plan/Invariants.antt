use Rattle.plat_run.proofs.running.run_plan.Given as goal

abbrev pub ghosts-run_opened : goal.ghosts-run_opened
ghosts-run_opened g a = record { table = a.opened.table; frame = a.opened.frame; tokens = a.opened.tokens }

abbrev pub ghosts-run_opened_alone : goal.ghosts-run_opened_alone
ghosts-run_opened_alone g a = record { table = a.opened.table; frame = a.opened.frame; tokens = a.opened.tokens }
