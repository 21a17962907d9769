use denote.Param.Send.{IsSync, part_keyless}
use Rattle.entry_log.proofs.log.past.Past.TheSendSync.Send.{send}
use Rattle.entry_log.specs.contracts.log.past.Past.{the_row}

pub sync : IsSync the_row
sync = record { shared = λ d b o κ q. part_keyless the_row send q d b o }
