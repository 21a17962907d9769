use Rattle.gate_logs.proofs.Logs.{keep_logs, take_in_turn}
use Rattle.gate_logs.proofs.laws.memories_keep_gate_logs.Goals as goal

pub returns : goal.returns
returns c = record { keep = keep_logs; turn = take_in_turn }
