use Rattle.run_outcome.proofs.PlaceLemmas.{placed_by_head}
use Rattle.run_outcome.proofs.merge.window.Window.noted_at.Goals as goal

pub returns-then-head-position : goal.returns-then-head-position
returns-then-head-position c = placed_by_head c.args.logs.now c.args.position c.in_ok-place.place.now c.in_ok-log.log.now c.head.result c.requires.numbered c.in_ok-log.ensures.lookup.3.0 c.in_ok-log.ensures.lookup.1 c.head.ensures c.if-head-position.true
