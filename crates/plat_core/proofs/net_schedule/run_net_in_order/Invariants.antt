use Rattle.plat_core.proofs.net_schedule.run_net_in_order.Given as goal

abbrev pub ghosts-run_opened_in_order : goal.ghosts-run_opened_in_order
ghosts-run_opened_in_order g a = record { table = a.opened.table; frame = a.opened.frame; tokens = a.opened.tokens }
