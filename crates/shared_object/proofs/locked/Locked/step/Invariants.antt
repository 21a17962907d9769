use Rattle.shared_object.proofs.locked.Locked.step.Given as goal

abbrev pub ghosts-copy_for : goal.ghosts-copy_for
ghosts-copy_for g a = record { number = g.O.Object.look a._reply.now }
