use Rattle.run_tests.proofs.transports.look.Goals as goal

pub transport_dbg-carried-requires-clause-passage : goal.transport_dbg-carried-requires-clause-passage
transport_dbg-carried-requires-clause-passage g c = c.none_passes.ensures (record { initiator = c.args.who; seq = c.args.bag.seq })
