use Rattle.std.proofs.Common.{sym}
use Rattle.numbered_log.proofs.Written.{entries-events_of}
use Rattle.numbered_log.proofs.log.NumberedLog.into_log.Goals as goal

pub returns-clause-entries : goal.returns-clause-entries
returns-clause-entries c = let s = c.self.inside in rw (← c.self.view_is) (sym (entries-events_of s.log.entries s.numbers.items))
