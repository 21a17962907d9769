use Rattle.std.proofs.Common.{nat_eq}
use Rattle.traffic_script.proofs.FirstByte.{first_is_position}
use Rattle.traffic_script.proofs.lines.find.Goals as goal

pub returns : goal.returns
returns c = first_is_position (λ b. nat_eq b c.args.at) c.args.text.now c.memchr.result c.memchr.ensures
