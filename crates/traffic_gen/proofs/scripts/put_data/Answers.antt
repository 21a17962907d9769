use Rattle.std.proofs.Common.{rules}
use Rattle.traffic_gen.proofs.Padding.{written_hex}
use Rattle.traffic_gen.proofs.scripts.put_data.Goals as goal

pub returns : goal.returns
returns c =
    let written = written_hex c.in_radix.result c.laid_out.result c.args.number c.in_radix.ensures c.laid_out.ensures in
    search (rules, written)
