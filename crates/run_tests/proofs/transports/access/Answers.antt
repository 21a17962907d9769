use Rattle.run_tests.proofs.transports.access.Goals as goal

pub b_transport-carried-requires-clause-passage : goal.b_transport-carried-requires-clause-passage
b_transport-carried-requires-clause-passage g c = c.none_passes.ensures (record { initiator = c.args.who; seq = c.args.bag.seq })
