use Rattle.std.proofs.Common.{◌∙◌}
use Rattle.tlm_types.specs.declared.words.ObjectNo.TheVariants.{Hop}
use Rattle.numbered_log.proofs.Written.{logged_written}
use Rattle.hop_object.proofs.object.HopObject.log.Goals as goal

pub returns : goal.returns
returns g c =
    let h = c.args.self.now in
    c.log.ensures.entries ∙ logged_written (Hop h.number) h.log.events c.log.ensures.own
