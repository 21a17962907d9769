use Rattle.std.proofs.Common.{sym}
use Rattle.numbered_log.proofs.Written.{numbers-events_of}
use Rattle.numbered_log.proofs.log.NumberedLog.numbers.Goals as goal

pub returns : goal.returns
returns c = let s = c.self.inside in rw (c.as_slice.ensures.value, ← c.self.view_is) (sym (numbers-events_of s.log.entries s.numbers.items c.self.invariant.same))
