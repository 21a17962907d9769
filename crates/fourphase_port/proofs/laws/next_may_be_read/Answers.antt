use Rattle.fourphase_port.proofs.ReadsNext.{may_be_read}
use Rattle.fourphase_port.proofs.laws.next_may_be_read.Goals as goal

pub returns : goal.returns
returns c = may_be_read
