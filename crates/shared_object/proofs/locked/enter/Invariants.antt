use Rattle.shared_object.proofs.locked.enter.Given as goal

abbrev pub ghosts-draw_for : goal.ghosts-draw_for
ghosts-draw_for g a = record { content = g.O.Object.content a.object.now a.call.now }
