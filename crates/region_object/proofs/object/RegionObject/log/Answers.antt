use Rattle.std.proofs.Common.{ap, ◌∙◌}
use Rattle.tlm_types.specs.declared.words.ObjectNo.TheVariants.{Memory}
use Rattle.entry_log.specs.Log.{LogView}
use Rattle.region_object.proofs.Written.{logged_written}
use Rattle.region_object.proofs.object.RegionObject.log.Goals as goal

pub returns : goal.returns
returns c =
    let r = c.args.self.now in
    ap (λ (l : LogView). l.entries) c.log.ensures.log ∙ logged_written (Memory r.number) 0 r.log.entries c.log.ensures.own
