use Rattle.traffic_script.specs.Words.{is_blank}
use Rattle.traffic_script.proofs.FirstByte.{first_is_position}
use Rattle.traffic_script.proofs.words.find_blank.Goals as goal

pub returns : goal.returns
returns c = first_is_position is_blank c.args.text.now c.memchr2.result c.memchr2.ensures
