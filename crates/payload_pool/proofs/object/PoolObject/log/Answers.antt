use Rattle.std.proofs.Common.{◌∙◌}
use Rattle.tlm_types.specs.declared.words.ObjectNo.TheVariants.{Pool}
use Rattle.numbered_log.proofs.Written.{logged_written}
use Rattle.payload_pool.proofs.object.PoolObject.log.Goals as goal

pub returns : goal.returns
returns c = c.log.ensures.entries ∙ logged_written (Pool c.args.self.now.initiator) c.args.self.now.log.events c.log.ensures.own
