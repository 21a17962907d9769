use Rattle.std.proofs.Common.{sym, subst}
use Rattle.script_engine.specs.declared.part.TransferKind.{TransferKind}
use Rattle.fourphase_port.specs.Pumps.{DoesKind}
use Rattle.port_moves.specs.State.{with_note}
use Rattle.fourphase_port.proofs.onwards.do_alone.Goals as goal

pub returns-in-DebugRead-clause-does : goal.returns-in-DebugRead-clause-does
returns-in-DebugRead-clause-does g c =
    let reads = c.read.ensures.read in
    subst (λ (k : TransferKind). DoesKind g.N.Naming.frame k (with_note c.args.state.now c.args.note) (with_note c.read.new.state c.read.result.1) c.read.result.0) (sym c.in-DebugRead.is)
    (reads, c.read.ensures.moved reads.transfer reads.is_next)
