use Rattle.platform_file.proofs.reading.OfTablesRowKindRefTable.read.Goals as goal

pub returns : goal.returns
returns g c = c.read.ensures
