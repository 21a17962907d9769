use Rattle.script_engine.proofs.Remaining.{all_enables}
use Rattle.script_engine.proofs.operations.fill_for.Goals as goal

pub enable-requires-clause-legal : goal.enable-requires-clause-legal
enable-requires-clause-legal c = let proper = rw c.in-Write.is at c.requires.proper in all_enables c.in-Write.enables proper.0.enabled.each

pub enable-requires-in-Read-clause-legal : goal.enable-requires-in-Read-clause-legal
enable-requires-in-Read-clause-legal c =
    let proper = rw c.in-Read.is at c.requires.proper in all_enables c.in-Read.enables proper.enabled.each
